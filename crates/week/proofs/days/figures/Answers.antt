-- `week::days::figures` meets its contract. Assumes nothing.
use Rattle.std.proofs.Common.{refl, ◌∙◌, arith, add-one}
use Rattle.base.specs.Lists.{build_length}
use Rattle.week.specs.FigureLaws.{figures_long, figures_most, figures_hold, figures_move}
use Rattle.week.proofs.days.figures.Goals as goal
use Rattle.week.proofs.days.figures.Goals.{then-rows-k-eq0, else-rows-k-eq0}

pub add_hold-requires : goal.add_hold-requires
add_hold-requires c =
    let l = c.loop-i in
    let ns = c.args.rows.now in
    let p = c.requires.2 l.i (omega arith) c.if-rows-k-eq0.true in
    rw l.invariant (p.0, build_length 64 _, omega (arith, p.1), p.2, figures_long ns l.i _ p.0, figures_most ns l.i _ (omega arith) p.0)

pub loop-i-preserved : goal.loop-i-preserved
loop-i-preserved c =
    let l = c.loop-i in
    let ns = c.args.rows.now in
    elim c.if-rows-k-eq0.branch [
      | then-rows-k-eq0 w ↦
          let e = w.if-rows-k-eq0.true in
          let added = rw l.invariant at w.add_hold.ensures in
          rw (add-one l.i) (w.table-is ∙ added ∙ figures_hold ns l.i _ e (c.requires.2 l.i (omega arith) e).0 refl)
      | else-rows-k-eq0 w ↦ rw (add-one l.i) (w.table-is ∙ l.invariant ∙ figures_move ns l.i w.if-rows-k-eq0.false)
    ]
