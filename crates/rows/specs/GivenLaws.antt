-- An upload price as calls hand it on: whether one is given, and what is paid.
use Rattle.std.specs.Prelude.{Bool, true, false, ◌≡◌, refl, ℕ, Some, None, is_some}
use Rattle.std.specs.Prelude.{Option as Given}
use Rattle.std.proofs.Math.Option.{none, some}
use Rattle.std.specs.Option.{unwrap_or}
use Rattle.base.specs.Choice.{pick}
use Rattle.prices.specs.Uploads.{if_given}
use Rattle.model.specs.Rates.{some?, or_zero}

-- one is offered where one is given, and is paid there
pub given_some : (given : Bool) (y : ℕ) → some? (pick given (some y) none) ≡ given
unfolding some?
given_some true y = refl
given_some false y = refl

pub given_fee : (given : Bool) (y : ℕ) → or_zero (pick given (some y) none) ≡ pick given y 0
unfolding or_zero
given_fee true y = refl
given_fee false y = refl

-- there is one where one is handed on
pub asked_some : (u : Given ℕ) → some? (if_given u) ≡ is_some u
unfolding some? if_given
asked_some (Some y) = refl
asked_some None = refl

-- and it is paid
pub asked_fee : (u : Given ℕ) → or_zero (if_given u) ≡ unwrap_or u 0
unfolding or_zero if_given
asked_fee (Some y) = refl
asked_fee None = refl
