-- 01's 'Prices': the table of classes, the prices of a class, their range and their window. Assumes nothing.
use Rattle.std.specs.Prelude.{Bool, List, [], ◌∷◌, ℕ, ◌/◌, ◌≤◌, ltb, eqb, get_or}
use Rattle.base.specs.Choice.{either}
use Rattle.prices.specs.declared.Prices.{Prices}

-- a hold price and a transfer price
abbrev pub priced : ℕ → ℕ → Prices
priced h t = record { hold = h; transfer = t }

-- the built-in table, class 0 first
unfoldable pub classes : List Prices
classes =
    priced 1 10
    ∷ priced 1 25
    ∷ priced 2 25
    ∷ priced 3 30
    ∷ priced 3 100
    ∷ priced 5 600
    ∷ priced 7 5
    ∷ priced 1 1000000
    ∷ []

-- the prices of a class of a table, zeros past it
unfoldable pub prices_of : List Prices → ℕ → Prices
prices_of table class = get_or table class (priced 0 0)

-- a price is 0 or above 1,000,000
abbrev pub price_outside : ℕ → Bool
price_outside x = either (eqb x 0) (ltb 1000000 x)

-- one of the two is
unfoldable pub outside : Prices → Bool
outside p = either (price_outside p.hold) (price_outside p.transfer)

-- both prices are from 1 to 1,000,000
pub record InRange (p : Prices) : Type 0 where
  pub hold_least : 1 ≤ p.hold
  pub hold_most : p.hold ≤ 1000000
  pub transfer_least : 1 ≤ p.transfer
  pub transfer_most : p.transfer ≤ 1000000

-- the transfer price divided by the hold price, rounded down; 0 where the hold price is 0
unfoldable pub window : Prices → ℕ
window p = p.transfer / p.hold
