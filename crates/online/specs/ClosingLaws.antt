-- What is left of the windows of a state, and how much the closing cost can be.
use Rattle.std.specs.Prelude.{true, false, ◌≡◌, ℕ, ◌+◌, ◌-◌, ◌≤◌}
use Rattle.std.proofs.Math.Nat.{div-le_self}
use native.Mathlib.Omega.{arith}
use Rattle.prices.specs.Prices.{window}
use Rattle.online.specs.declared.Cache.{Cache}
use Rattle.online.specs.Rules.{window_of, copy_at, use_at, running, remaining, closing}
use Rattle.online.specs.Intact.{Intact}

-- where there is no copy nothing is left
pub remaining_none : (c : Cache) (y : ℕ) → copy_at c y ≡ false → remaining c y ≡ 0
unfolding remaining
remaining_none c y e = rw e

-- a copy has what is left up to its end
pub remaining_at : (c : Cache) (y : ℕ) → copy_at c y ≡ true → remaining c y ≡ use_at c y + window_of c - c.second
unfolding remaining
remaining_at c y e = rw e

-- the closing cost is never below the running cost
pub closing_more : (c : Cache) → running c ≤ closing c
unfolding closing
closing_more c = omega arith

module _ (c : Cache) (s : Intact c) where
  -- the window is at most 1,000,000 seconds
  pub window_most : window_of c ≤ 1000000
  unfolding window_of window
  window_most = omega (arith, div-le_self c.prices.transfer c.prices.hold, s.priced.transfer_most)
