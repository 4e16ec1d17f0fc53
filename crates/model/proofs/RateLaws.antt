-- Laws of the upload price: where none is given no feasible schedule has an upload; one that passed 44 is at most 1,000,000.
use Rattle.std.specs.Prelude.{false, ◌≡◌, ℕ, ◌≤◌, Ok}
use mathlib.Core.List.{List, Memᴰ}
use Rattle.std.proofs.Math.Option.{Option, none, some}
use Rattle.std.proofs.Common.{arith}
use Rattle.base.specs.Choice.{not_both}
use Rattle.base.specs.Refusals.{first}
use Rattle.prices.specs.Uploads.{upload_conditions}
use Rattle.prices.specs.UploadLaws.{taken_iff}
use Rattle.model.specs.Rates.{Rates, or_zero, offers}
use Rattle.model.specs.Sums.{total}
use Rattle.model.proofs.CountLaws.{total_zero}
use Rattle.model.specs.Requests.{Requests}
use Rattle.model.specs.Schedule.{Row, hold, move, transfer, upload, Feasible}

-- a price that passed 44
pub fee_most : (u : Option ℕ) → first (upload_conditions u) ≡ Ok tt → or_zero u ≤ 1000000
unfolding or_zero
fee_most none e = omega arith
fee_most (some y) e = ((taken_iff (some y)).0 e).1

module _ (p : Rates) (q : Requests) (n : ℕ) (rows : List Row) (F : Feasible p q n rows) (o : offers p ≡ false) where
  -- no row is an upload
  pub no_upload : (x τ : ℕ) → Memᴰ (move (upload x τ)) rows → ⊥
  no_upload x τ m = not_both (F.offered x τ m) o

  -- so a number that is 0 for holds and transfers is 0 for all of them
  pub no_uploads : (f : Row → ℕ) → ((x a b : ℕ) → f (hold x a b) ≡ 0) → ((y x τ : ℕ) → f (move (transfer y x τ)) ≡ 0) → total f rows ≡ 0
  no_uploads f held sent = total_zero f rows each
    where
      each : (r : Row) → Memᴰ r rows → f r ≡ 0
      each (hold x a b) m = held x a b
      each (move (transfer y x τ)) m = sent y x τ
      each (move (upload x τ)) m = absurd (no_upload x τ m)
