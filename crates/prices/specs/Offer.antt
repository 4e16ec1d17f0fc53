-- What is sold by a tariff: 02's Req 10 ends class 7 of the built-in table. Assumes nothing.
use Rattle.std.specs.Prelude.{Bool, false, List, ◌≡◌, ℕ, ◌<◌, eqb, length}
use Rattle.prices.specs.Tariff.{Tariff, built_in, price_file, Given, none, file}

-- a tariff, and which of its classes are no longer sold
pub record Offer : Type 0 where
  pub tariff : Tariff
  pub ended : ℕ → Bool

abbrev pub offer : Tariff → (ℕ → Bool) → Offer
offer t e = record { tariff = t; ended = e }

-- of the built-in table class 7 has ended
abbrev pub built_in_offer : Offer
built_in_offer = offer built_in (λ class. eqb class 7)

-- of a price file none has, whatever its bytes
abbrev pub file_offer : List ℕ → Offer
file_offer bytes = offer (price_file bytes) (λ class. false)

-- what is sold by each of the two that there are
unfoldable pub offer_of : {t : Tariff} → Given t → Offer
offer_of none = built_in_offer
offer_of (file bytes) = file_offer bytes

-- a class of the table that is sold
pub record Sold (o : Offer) (class : ℕ) : Type 0 where
  pub listed : class < length o.tariff.table
  pub unended : o.ended class ≡ false
