-- `week::days::sum_days` meets its contract. Assumes nothing.
use Rattle.std.proofs.Common.{◌∙◌, add-one}
use Rattle.week.specs.FigureLaws.{sums_next}
use Rattle.week.proofs.days.sum_days.Goals as goal

pub loop-y-preserved : goal.loop-y-preserved
loop-y-preserved c =
    let l = c.loop-y in
    rw (add-one l.y) (c.add_days-more.ensures ∙ rw l.invariant (sums_next c.args.table l.y))
