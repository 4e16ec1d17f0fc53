-- A row by its four numbers, as the code reads it. Assumes nothing.
use Rattle.std.specs.Prelude.{List, ℕ, ◌+◌, ◌*◌, get_or}
use Rattle.model.specs.Schedule.{Row, hold, move, transfer, upload}
use Rattle.model.specs.RowForm.{row_of}
use Rattle.rows.specs.declared.Quad.{Quad}
use Rattle.rows.specs.declared.kinds.Row.{Row as Read}
use Rattle.rows.specs.declared.kinds.Row.TheVariants.{Hold, Transfer, Upload}

-- the four numbers of row i, from 0
unfoldable pub quad_at : List ℕ → ℕ → Quad
quad_at ns i =
    record { kind = get_or ns (4 * i) 0; a = get_or ns (4 * i + 1) 0; b = get_or ns (4 * i + 2) 0; c = get_or ns (4 * i + 3) 0 }

-- the row that they are
abbrev pub as_row : Quad → Row
as_row r = row_of r.kind r.a r.b r.c

-- the row that the code reads them as
abbrev pub meant : Read → Row
meant (Hold x a b) = hold x a b
meant (Transfer y x τ) = move (transfer y x τ)
meant (Upload x τ) = move (upload x τ)

-- the server where a hold begins, a transfer leaves or an upload arrives, and the second
unfoldable pub server_of : Row → ℕ
server_of (hold x a b) = x
server_of (move (transfer y x τ)) = y
server_of (move (upload x τ)) = x

unfoldable pub second_of : Row → ℕ
second_of (hold x a b) = a
second_of (move (transfer y x τ)) = τ
second_of (move (upload x τ)) = τ

-- where a transfer arrives; of another row, its third number
unfoldable pub target_of : Row → ℕ
target_of (hold x a b) = a
target_of (move (transfer y x τ)) = x
target_of (move (upload x τ)) = τ
