-- `planner::rows::put_row` meets its contract: four numbers copied over four others, where they fit. Assumes nothing.
use native.Mathlib.Omega.{arith}
use Rattle.std.proofs.Common.{sym, ◌∙◌, ◌≡◌, ◌+◌, ◌-◌, ◌*◌, length, drop-drop}
use Rattle.base.specs.Lists.{splice_fits, splice_over}
use Rattle.planner.proofs.rows.put_row.Goals.{then-at-out, else-at-out}
use Rattle.planner.proofs.rows.put_row.Goals as goal

pub returns-after-at-out-clause-placed : goal.returns-after-at-out-clause-placed
returns-after-at-out-clause-placed c =
    let a = c.args in
    let l : length c.in-Some.numbers ≡ 4 = omega arith in
    let e : 4 * a.k + 4 - 4 * a.k ≡ 4 = omega arith in
    rw c.in-Some.is (elim c.if-at-out.branch [
      | then-at-out w ↦ w.out-is ∙ rw (splice_fits (4 * a.k) c.in-Some.numbers a.out.now (omega arith), w.copy_from_slice.ensures.after, drop-drop, e, l)
      | else-at-out w ↦ w.out-is ∙ sym (splice_over (4 * a.k) c.in-Some.numbers a.out.now (omega arith))
    ])
