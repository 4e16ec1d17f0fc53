-- `game::settings::settings` meets its contract. Assumes nothing.
use native.Mathlib.Numerals.{add-one}
use native.Mathlib.Nat.{mul-le-mul}
use native.Mathlib.Omega.{arith}
use Prim.Native.Nat.{◌+◌, ◌*◌, ◌≤◌}
use Rattle.game.specs.Settings.{free, settings}
use Rattle.game.proofs.settings.settings.Goals as goal

pub overflow_mul-result : goal.overflow_mul-result
overflow_mul-result c =
    let two : (c.free.result + 1) * (c.free-2.result + 1) ≤ 16 = mul-le-mul {n₁ = c.free.result + 1} {m₁ = c.free-2.result + 1} {n₂ = 4} {m₂ = 4} (omega (arith, c.free.ensures.upper_bound)) (omega (arith, c.free-2.ensures.upper_bound)) in
    record { fits = omega (arith, two) }

pub overflow_mul-result-2 : goal.overflow_mul-result-2
overflow_mul-result-2 c =
    let two : (c.free.result + 1) * (c.free-2.result + 1) ≤ 16 = mul-le-mul {n₁ = c.free.result + 1} {m₁ = c.free-2.result + 1} {n₂ = 4} {m₂ = 4} (omega (arith, c.free.ensures.upper_bound)) (omega (arith, c.free-2.ensures.upper_bound)) in
    let three : (c.free.result + 1) * (c.free-2.result + 1) * (c.free-3.result + 1) ≤ 64 = mul-le-mul {n₁ = (c.free.result + 1) * (c.free-2.result + 1)} {m₁ = c.free-3.result + 1} {n₂ = 16} {m₂ = 4} two (omega (arith, c.free-3.ensures.upper_bound)) in
    record { fits = omega (arith, three) }

pub returns : goal.returns
unfolding settings
returns c =
    let two : (c.free.result + 1) * (c.free-2.result + 1) ≤ 16 = mul-le-mul {n₁ = c.free.result + 1} {m₁ = c.free-2.result + 1} {n₂ = 4} {m₂ = 4} (omega (arith, c.free.ensures.upper_bound)) (omega (arith, c.free-2.ensures.upper_bound)) in
    let three : (c.free.result + 1) * (c.free-2.result + 1) * (c.free-3.result + 1) ≤ 64 = mul-le-mul {n₁ = (c.free.result + 1) * (c.free-2.result + 1)} {m₁ = c.free-3.result + 1} {n₂ = 16} {m₂ = 4} two (omega (arith, c.free-3.ensures.upper_bound)) in
    record { value = rw (← add-one (free _ _ 2), ← add-one (free _ _ 1), ← add-one (free _ _ 0), c.free.ensures.value, c.free-2.ensures.value, c.free-3.ensures.value); upper_bound = three }
