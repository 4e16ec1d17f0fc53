-- `game::costs::paid` meets its contract. Assumes nothing.
use native.Mathlib.Nat.{mul-le-mul}
use native.Mathlib.Omega.{arith}
use mathlib.Core.Path.{refl}
use Rattle.game.proofs.costs.paid.Goals as goal

pub overflow_mul-result : goal.overflow_mul-result
overflow_mul-result c = record { fits = omega (arith, mul-le-mul {n₁ = c.args.price} {m₁ = c.args.n} {n₂ = 1000000} {m₂ = 27} c.requires.0 c.requires.1) }

pub returns : goal.returns
returns c = record { value = refl; upper_bound = mul-le-mul {n₁ = c.args.price} {m₁ = c.args.n} {n₂ = 1000000} {m₂ = c.args.n} c.requires.0 (omega arith) }
