-- `game::costs::scaled` meets its contract. Assumes nothing.
use native.Mathlib.Nat.{mul-le-mul}
use native.Mathlib.Omega.{arith}
use Rattle.game.proofs.costs.scaled.Goals as goal

pub overflow_mul-result : goal.overflow_mul-result
overflow_mul-result c =
    record {
      fits =
          omega (
            arith,
            mul-le-mul {n₁ = c.from.result} {m₁ = c.from-2.result} {n₂ = 1000} {m₂ = 40000000} (omega (arith, c.requires.0)) (omega (arith, c.requires.1)),
          );
    }

pub returns : goal.returns
returns c = rw (c.from.ensures, c.from-2.ensures)
