-- `online::Cache::closing_cost` meets its contract. Assumes nothing.
use mathlib.Core.Path.{ap₂}
use native.Mathlib.Omega.{arith}
use Prim.Native.Nat.{ℕ, ◌*◌}
use Rattle.online.specs.Rules.{closing}
use Rattle.online.proofs.ClosingLaws.{closing_fits}
use Rattle.online.proofs.Cache.closing_cost.Goals as goal

pub overflow_mul-result : goal.overflow_mul-result
unfolding closing
overflow_mul-result c =
    let left = ap₂ (λ (x y : ℕ). x * y) c.from.ensures c.all_remaining-left.ensures in
    record { fits = omega (arith, left, closing_fits c.args.self c.requires) }

pub overflow_add-result : goal.overflow_add-result
unfolding closing
overflow_add-result c =
    let left = ap₂ (λ (x y : ℕ). x * y) c.from.ensures c.all_remaining-left.ensures in
    record { fits = omega (arith, left, c.running_cost.ensures, closing_fits c.args.self c.requires) }
