-- What a plan is billed by, as the code holds it. Assumes nothing.
use Rattle.std.specs.Prelude.{ℕ, Some, None}
use Rattle.std.specs.Prelude.{Option as Given}
use Rattle.std.proofs.Math.Option.{Option, none, some}
use Rattle.prices.specs.declared.Prices.{Prices}
use Rattle.prices.specs.Uploads.{if_given}
use Rattle.model.specs.Rates.{Rates}
use Rattle.planner.specs.declared.requests.Fees.{Fees}

-- an upload price as the code holds it
unfoldable pub offered : Option ℕ → Given ℕ
offered none = None
offered (some y) = Some y

-- a class's prices and an upload price, as the code holds them
unfoldable pub fees_of : Prices → Option ℕ → Fees
fees_of p u = record { hold = p.hold; transfer = p.transfer; upload = offered u }

-- the rates that they stand for
abbrev pub rated : Fees → Rates
rated f = record { hold = f.hold; transfer = f.transfer; upload = if_given f.upload }
