-- What a schedule is billed by: the hold price, the transfer price, and the upload price of 02's Req 11 where one is given. Assumes nothing.
use Rattle.std.specs.Prelude.{Bool, true, false, ℕ}
use Rattle.std.proofs.Math.Option.{Option, none, some}
use Rattle.prices.specs.declared.Prices.{Prices}

-- hold and transfer price, and the upload price if one is given: none is not 0
pub record Rates : Type 0 where
  pub hold : ℕ
  pub transfer : ℕ
  pub upload : Option ℕ

-- a class's prices, with an upload price or with none
unfoldable pub rates : Prices → Option ℕ → Rates
rates p u = record { hold = p.hold; transfer = p.transfer; upload = u }

-- with none, as 01 has them
abbrev pub plain : Prices → Rates
plain p = rates p none

-- the hold and the transfer price alone
abbrev pub pair : Rates → Prices
pair p = record { hold = p.hold; transfer = p.transfer }

-- is there one
unfoldable pub some? : {A : Type 0} → Option A → Bool
some? none = false
some? (some a) = true

-- a price, 0 where none is given
unfoldable pub or_zero : Option ℕ → ℕ
or_zero none = 0
or_zero (some y) = y

-- is an upload price given
abbrev pub offers : Rates → Bool
offers p = some? p.upload

-- the upload price; where none is given there is no upload to pay
abbrev pub upload_fee : Rates → ℕ
upload_fee p = or_zero p.upload
