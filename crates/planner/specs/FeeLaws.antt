-- The code's fees stand for the rates.
use Rattle.std.specs.Prelude.{◌≡◌, refl, ℕ, Some, None, is_some}
use Rattle.std.specs.Prelude.{Option as Given}
use Rattle.std.proofs.Math.Option.{Option, none, some}
use Rattle.prices.specs.declared.Prices.{Prices}
use Rattle.prices.specs.Uploads.{if_given}
use Rattle.model.specs.Rates.{rates, some?}
use Rattle.planner.specs.Fees.{offered, fees_of, rated}

-- an upload price that was handed on is held as it was
pub offered_given : (g : Given ℕ) → offered (if_given g) ≡ g
unfolding offered if_given
offered_given (Some y) = refl
offered_given None = refl

-- there is one where one is held
pub is_offered : (g : Given ℕ) → some? (if_given g) ≡ is_some g
unfolding some? if_given
is_offered (Some y) = refl
is_offered None = refl

-- the fees stand for the rates
pub fees_rated : (p : Prices) (u : Option ℕ) → rated (fees_of p u) ≡ rates p u
unfolding fees_of rates offered if_given
fees_rated p none = refl
fees_rated p (some y) = refl
