-- `checker::checking::counted` meets its contract. Assumes nothing.
use borrow.Author.Rules.{rules}
use mathlib.Core.Path.{◌≡◌, refl, ◌∙◌}
use native.Mathlib.Omega.{arith}
use Rattle.model.specs.Sums.{total}
use Rattle.model.specs.Schedule.{length_of, is_transfer, is_upload}
use Rattle.model.specs.RowForm.{rows_upto, rows_of}
use Rattle.model.specs.Checking.{row_count}
use Rattle.checker.specs.CostLaws.{total_read, total_within}
use Rattle.checker.proofs.checking.counted.Goals as goal

pub loop-i-init : goal.loop-i-init
unfolding rows_upto total
loop-i-init c = (refl, refl, refl)

pub with_row-s-requires : goal.with_row-s-requires
unfolding row_count
with_row-s-requires c =
    let ns = c.args.ns.now in
    let l = c.loop-i in (
      omega (arith, total_within length_of ns l.i _ _ (search rules) c.row.ensures l.invariant.0),
      omega (arith, total_within is_transfer ns l.i _ _ (search rules) c.row.ensures l.invariant.1),
      omega (arith, total_within is_upload ns l.i _ _ (search rules) c.row.ensures l.invariant.2),
    )

pub loop-i-preserved : goal.loop-i-preserved
loop-i-preserved c =
    let ns = c.args.ns.now in
    let l = c.loop-i in (
      c.with_row-s.ensures.0 ∙ total_read length_of ns l.i _ _ c.row.ensures l.invariant.0,
      c.with_row-s.ensures.1 ∙ total_read is_transfer ns l.i _ _ c.row.ensures l.invariant.1,
      c.with_row-s.ensures.2 ∙ total_read is_upload ns l.i _ _ c.row.ensures l.invariant.2,
    )

pub returns : goal.returns
unfolding rows_of row_count
returns c =
    let ns = c.args.ns.now in
    let l = c.loop-i in
    let e : l.i ≡ row_count ns = omega arith in
    rw (← e) (l.invariant.0, l.invariant.1, l.invariant.2)
