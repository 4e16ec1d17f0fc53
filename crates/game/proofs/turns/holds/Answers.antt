-- `game::turns::holds` meets its contract. Assumes nothing.
use native.Mathlib.Nat.{mul-le-mul}
use native.Mathlib.Omega.{arith}
use mathlib.Core.Path.{◌≡◌}
use Prim.Native.Nat.{◌+◌}
use lib.ListN.{get_or}
use Rattle.game.specs.TurnLaws.{limit_at, limit_most, limit_holds}
use Rattle.game.specs.Costs.{limit}
use Rattle.game.proofs.turns.holds.Goals as goal

pub overflow_add-i : goal.overflow_add-i
overflow_add-i c =
    let a = c.args in
    let T = c.requires.0 in
    record { fits = omega (arith, c.requires.2.most_gap, c.requires.2.counted, T.ranged.largest_most, T.ranged.servers_most) }

pub paid-requires : goal.paid-requires
paid-requires c =
    let a = c.args in
    let T = c.requires.0 in
    (T.ranged.priced.transfer_most, omega (arith, c.sends.ensures.upper_bound))

pub overflow_add-cost : goal.overflow_add-cost
overflow_add-cost c =
    let a = c.args in
    let T = c.requires.0 in
    record { fits = omega (arith, c.requires.4, c.paid.ensures.upper_bound, c.sends.ensures.upper_bound) }

pub overflow_add-i-2 : goal.overflow_add-i-2
overflow_add-i-2 c =
    let a = c.args in
    let T = c.requires.0 in
    record { fits = omega (arith, c.requires.2.most_gap, c.requires.2.counted, T.ranged.largest_most, T.ranged.servers_most) }

pub paid-requires-2 : goal.paid-requires-2
paid-requires-2 c =
    let a = c.args in
    let T = c.requires.0 in
    (T.ranged.priced.hold_most, omega (arith, c.requires.2.most_gap, c.requires.2.counted, T.ranged.largest_most, T.ranged.servers_most))

pub scaled-gap-requires : goal.scaled-gap-requires
scaled-gap-requires c =
    let a = c.args in
    let T = c.requires.0 in
    (T.ranged.p_most, omega (arith, c.paid-2.ensures.upper_bound, c.requires.2.most_gap, c.requires.2.counted, T.ranged.largest_most, T.ranged.servers_most))

pub scaled-requires : goal.scaled-requires
scaled-requires c =
    let a = c.args in
    let T = c.requires.0 in
    (T.ranged.q_most, omega (arith, c.requires.4, c.paid.ensures.upper_bound, c.sends.ensures.upper_bound))

pub offset_bounds-allowed-at : goal.offset_bounds-allowed-at
offset_bounds-allowed-at c =
    let a = c.args in
    let T = c.requires.0 in
    record { fits = omega (arith, c.requires.2.most_gap, c.requires.2.counted, T.ranged.largest_most, T.ranged.servers_most) }

pub bounds-allowed-at : goal.bounds-allowed-at
bounds-allowed-at c =
    let a = c.args in
    let T = c.requires.0 in
    omega (arith, c.requires.2.most_gap, c.requires.2.counted, T.ranged.largest_most, T.ranged.servers_most)

pub overflow_add-result : goal.overflow_add-result
overflow_add-result c =
    let a = c.args in
    let T = c.requires.0 in
    let here : get_or a.allowed.now a.x 0 ≡ limit a.game a.board a.x =
    rw (T.allows) (limit_at a.game a.board a.x (omega (arith, c.requires.2.most_gap, c.requires.2.counted, T.ranged.largest_most, T.ranged.servers_most))) in
    let gap = mul-le-mul {n₁ = a.game.p} {m₁ = c.paid-2.result} {n₂ = 1000} {m₂ = 3000000} T.ranged.p_most (omega (arith, c.paid-2.ensures.upper_bound, c.requires.2.most_gap, c.requires.2.counted, T.ranged.largest_most, T.ranged.servers_most)) in
    record { fits = omega (arith, here, limit_most a.game a.board T.ranged T.fits c.requires.1 a.x, c.scaled-gap.ensures, gap) }

pub returns : goal.returns
returns c =
    let a = c.args in
    let T = c.requires.0 in
    let here : get_or a.allowed.now a.x 0 ≡ limit a.game a.board a.x =
    rw (T.allows) (limit_at a.game a.board a.x (omega (arith, c.requires.2.most_gap, c.requires.2.counted, T.ranged.largest_most, T.ranged.servers_most))) in
    rw (c.scaled.ensures, c.scaled-gap.ensures, c.paid-2.ensures.value, c.paid.ensures.value, c.sends.ensures.value, c.requires.3, here)
    (limit_holds a.game a.board a.stays (a.i + 1) a.x T.ranged T.fits T.set c.requires.1 c.requires.2)
