-- The upload price of 02's Req 11: 44, which comes right after a log's conditions. Assumes nothing.
use Rattle.std.specs.Prelude.{List, [], ◌∷◌, ℕ, ◌≤◌, Some, None}
use Rattle.std.specs.Prelude.{Option as Given}
use Rattle.base.specs.declared.reasons.Reason.TheVariants as reason
use Rattle.std.proofs.Math.Option.{Option, none, some}
use Rattle.base.specs.Refusals.{Condition, refuse}
use Rattle.prices.specs.Prices.{price_outside}

-- 44: the upload price is not from 1 to 1,000,000; a call that is given none has no such condition
unfoldable pub upload_conditions : Option ℕ → List Condition
upload_conditions none = []
upload_conditions (some y) = refuse reason.UploadPrice 0 (price_outside y) ∷ []

-- none is given, or one in range
abbrev pub Taken : Option ℕ → Type 0
Taken none = Unit {0}
Taken (some y) = (1 ≤ y) × (y ≤ 1000000)

-- an upload price as calls hand it on
unfoldable pub if_given : Given ℕ → Option ℕ
if_given (Some y) = some y
if_given None = none
