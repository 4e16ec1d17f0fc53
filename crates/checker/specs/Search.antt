-- Rows by their place in the order: a number that rises from row to row, and the first row from a number on.
use Rattle.std.specs.Prelude.{Bool, List, ℕ, ◌+◌, ◌*◌, ◌<◌, leb}
use Rattle.std.proofs.Props.{props}
use Rattle.base.specs.Sets.{lowest}
use Rattle.model.specs.Schedule.{Row, hold, move, transfer, upload}
use Rattle.model.specs.RowForm.{row_at}
use Rattle.model.specs.Checking.{row_count}

-- the place of a hold of server x from second τ on: below 2 ^ 28 where x < 64 and τ < 2 ^ 22
unfoldable pub hold_key : ℕ → ℕ → ℕ
hold_key x τ = 4194304 * x + τ

-- the place of the first transfer of second τ, after all holds
unfoldable pub second_key : ℕ → ℕ
second_key τ = 268435456 + 4096 * τ

-- the place of an upload of second τ to server x, after all transfers of seconds below 2 ^ 22: formed like a transfer's place, it rises with the second where x < 64
unfoldable pub upload_key : ℕ → ℕ → ℕ
upload_key τ x = 34359738368 + 4097 * τ + 64 * x

-- the place of a row
unfoldable pub key : Row → ℕ
key (hold x a b) = hold_key x a
key (move (transfer y x τ)) = second_key τ + 64 * y + x
key (move (upload x τ)) = upload_key τ x

-- is row i at place k or later
unfoldable pub from_on : List ℕ → ℕ → ℕ → Bool
from_on ns k i = leb k (key (row_at ns i))

-- the first row at place k or later; past the last row where there is none
unfoldable pub position : List ℕ → ℕ → ℕ
position ns k = lowest (row_count ns) (from_on ns k)

-- each row is at a higher place than every one before it
unfoldable pub InOrder : List ℕ → Type 0
InOrder ns = (i j : ℕ) → i < j → j < row_count ns → key (row_at ns i) < key (row_at ns j)

-- there is one way at most that they are
pub in_order-prop : (ns : List ℕ) → IsProp (InOrder ns)
unfolding InOrder
in_order-prop ns = Prim.hlevel props
