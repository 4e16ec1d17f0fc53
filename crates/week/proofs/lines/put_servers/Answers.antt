-- `week::lines::put_servers` meets its contract. Assumes nothing.
use Rattle.std.proofs.Common.{[], ◌∙◌, get_or, add-one}
use Rattle.text.specs.Page.{page}
use Rattle.week.specs.LineLaws.{lines_next}
use Rattle.week.proofs.lines.put_servers.Goals as goal

pub loop-y-preserved : goal.loop-y-preserved
loop-y-preserved c =
    let l = c.loop-y in
    let a = c.args in
    rw (add-one l.y) (c.put_figures-to.ensures ∙ rw (c.put_aligned-head.ensures, l.invariant) (lines_next (λ y. get_or a.table y []) l.y (page 0 a.text.now)))
