-- `checker::standing::gather` meets its contract. Assumes nothing.
use mathlib.Core.Path.{◌≡◌, sym, ◌∙◌}
use native.Mathlib.Numerals.{add-one}
use Prim.Native.Nat.{◌+◌}
use Rattle.checker.specs.Quick.{gather}
use Rattle.checker.specs.Skips.{gather_skip}
use Rattle.checker.proofs.standing.gather.Goals as goal

pub loop-x-init : goal.loop-x-init
unfolding gather
loop-x-init c =
    let a = c.args in
    (c.next-x.ensures.1, sym (gather_skip a.rows.ns.now a.t a.some a.start 0 _ c.next-x.ensures.0 c.next-x.ensures.2))

pub loop-x-preserved : goal.loop-x-preserved
unfolding gather
loop-x-preserved c =
    let a = c.args in
    let l = c.loop-x in
    let here : c.with_hold-w.result ≡ gather a.rows.ns.now a.t a.some a.start (l.x + 1) = rw (add-one l.x, ← l.invariant.1) c.with_hold-w.ensures in
    (c.next-x-in-loop-x.ensures.1, here ∙ sym (gather_skip a.rows.ns.now a.t a.some a.start (l.x + 1) _ c.next-x-in-loop-x.ensures.0 c.next-x-in-loop-x.ensures.2))
