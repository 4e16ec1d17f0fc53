-- `checker::copies::scan` meets its contract. Assumes nothing.
use borrow.Author.Rules.{rules}
use mathlib.Core.Path.{◌≡◌, refl, ◌∙◌}
use native.Mathlib.Nat.{sub_self}
use native.Mathlib.Omega.{arith}
use Prim.Native.Nat.{◌-◌}
use Rattle.model.specs.Checking.{row_count}
use Rattle.checker.specs.Quick.{standing_at, starved, unbacked}
use Rattle.checker.specs.CopySteps.{starved_more, unbacked_more}
use Rattle.checker.proofs.copies.scan.Goals as goal

pub loop-i-init : goal.loop-i-init
unfolding starved unbacked row_count
loop-i-init c =
    let a = c.args in
    rw (sub_self a.from) (search rules, refl, refl, c.standing.ensures)

pub loop-i-preserved : goal.loop-i-preserved
loop-i-preserved c =
    let a = c.args in
    let l = c.loop-i in
    let at = c.seen_at-seen in
    let second = at.ensures.0 ∙ c.second.ensures in
    let now : at.result.word ≡ standing_at a.s.now.count a.s.now.home a.s.now.rows.ns.now at.result.second = rw at.ensures.0 at.ensures.1 in (
      omega arith,
      starved_more a.s.now.count a.s.now.home a.s.now.rows.ns.now a.from l.i l.low _ _ _ _ _ (search rules) l.invariant.1 c.row-r.ensures second now c.unfed-hold.ensures (omega arith),
      unbacked_more a.s.now.count a.s.now.home a.s.now.rows.ns.now a.from l.i l.late _ _ _ _ (search rules) l.invariant.2 c.row-r.ensures second now (rw (← c.unbacked.ensures) c.min-late.ensures),
      now,
    )

pub returns : goal.returns
returns c =
    let l = c.loop-i in
    let a = c.args in
    let e : l.i - a.from ≡ a.s.now.uploads - a.from = omega arith in
    (rw e at l.invariant.1, rw e at l.invariant.2)
