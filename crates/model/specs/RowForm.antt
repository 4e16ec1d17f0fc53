-- Rows as numbers, and which lists of rows are well formed: 01's 'Schedules', and its conditions 14 to 16, with the uploads of 02's Req 11. Assumes nothing.
use Rattle.std.specs.Prelude.{Bool, true, false, not, List, [], ◌∷◌, ◌++◌, ℕ, zero, suc, ◌+◌, ◌*◌, ◌/◌, leb, ltb, eqb, get_or, length}
use Rattle.base.specs.Choice.{pick, both, either}
use Rattle.model.specs.Schedule.{Row, hold, move, Move, transfer, upload}

-- a row's four numbers: 0 server from to, 1 source target second, or 2 target second 0
unfoldable pub numbers : Row → List ℕ
numbers (hold x a b) = 0 ∷ x ∷ a ∷ b ∷ []
numbers (move (transfer y x τ)) = 1 ∷ y ∷ x ∷ τ ∷ []
numbers (move (upload x τ)) = 2 ∷ x ∷ τ ∷ 0 ∷ []

-- the numbers of a list of rows
unfoldable pub flat : List Row → List ℕ
flat [] = []
flat (r ∷ rows) = numbers r ++ flat rows

-- the row of four numbers; a kind above 1 is read as an upload, and 15 refuses it unless it is one
unfoldable pub row_of : ℕ → ℕ → ℕ → ℕ → Row
row_of kind a b c = pick (eqb kind 0) (hold a b c) (pick (eqb kind 1) (move (transfer a b c)) (move (upload a b)))

-- row i, from 0, of a list of numbers
unfoldable pub row_at : List ℕ → ℕ → Row
row_at ns i = row_of (get_or ns (4 * i) 0) (get_or ns (4 * i + 1) 0) (get_or ns (4 * i + 2) 0) (get_or ns (4 * i + 3) 0)

-- the first i rows of a list of numbers
unfoldable pub rows_upto : List ℕ → ℕ → List Row
rows_upto ns zero = []
rows_upto ns (suc i) = rows_upto ns i ++ (row_at ns i ∷ [])

-- the rows of a list of numbers, four for each; left-over numbers are no row (14)
unfoldable pub rows_of : List ℕ → List Row
rows_of ns = rows_upto ns (length ns / 4)

-- a row's servers are below the count, a hold ends after it begins, a transfer is between two servers, and none passes the last second
unfoldable pub fits : ℕ → ℕ → Row → Bool
fits count last (hold x a b) = both (ltb x count) (both (ltb a b) (leb b last))
fits count last (move (transfer y x τ)) = both (ltb y count) (both (ltb x count) (both (not (eqb y x)) (leb τ last)))
fits count last (move (upload x τ)) = both (ltb x count) (leb τ last)

-- a move comes before another: transfers by second, then source, then target; after them uploads by second, then target
unfoldable pub earlier : Move → Move → Bool
earlier (transfer y x τ) (transfer y' x' τ') =
    either (ltb τ τ') (both (eqb τ τ') (either (ltb y y') (both (eqb y y') (ltb x x'))))
earlier (transfer y x τ) (upload x' τ') = true
earlier (upload x τ) (transfer y' x' τ') = false
earlier (upload x τ) (upload x' τ') = either (ltb τ τ') (both (eqb τ τ') (ltb x x'))

-- a row may follow another: holds by server, then each beginning later than the former ends; then moves, rising strictly
unfoldable pub follows : Row → Row → Bool
follows (hold x a b) (hold y c d) = either (ltb x y) (both (eqb x y) (ltb b c))
follows (hold x a b) (move v) = true
follows (move u) (hold y c d) = false
follows (move u) (move v) = earlier u v

-- each row may follow the one before it
unfoldable pub ordered : List Row → Bool
ordered [] = true
ordered (r ∷ []) = true
ordered (r ∷ r' ∷ rows) = both (follows r r') (ordered (r' ∷ rows))

-- all rows fit
unfoldable pub all_fit : ℕ → ℕ → List Row → Bool
all_fit count last [] = true
all_fit count last (r ∷ rows) = both (fits count last r) (all_fit count last rows)

-- well formed for n requests, the last of them at second `last`; no request allows no row
unfoldable pub well_formed : ℕ → ℕ → ℕ → List Row → Bool
well_formed count n last [] = true
well_formed count n last (r ∷ rows) = both (ltb 0 n) (both (all_fit count last (r ∷ rows)) (ordered (r ∷ rows)))
