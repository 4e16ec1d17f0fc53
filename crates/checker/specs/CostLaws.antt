-- Sums over the rows of a list of numbers, row by row, and their bounds for rows that a log allows.
use Rattle.std.specs.Prelude.{List, [], ◌∷◌, ◌++◌, ◌⊎◌, ◌≡◌, ℕ, zero, suc, ◌+◌, ◌^◌, ◌≤◌, ◌<◌}
use Rattle.std.proofs.Common.{inl, inr, arith, add-one}
use Rattle.base.specs.Choice.{le_or_lt}
use Rattle.model.specs.Sums.{total}
use Rattle.model.specs.Schedule.{Row, length_of, is_transfer, is_upload}
use Rattle.model.specs.RowForm.{row_at, rows_upto, rows_of}
use Rattle.model.specs.Checking.{row_count}
use Rattle.rows.specs.declared.Quad.{Quad}
use Rattle.rows.specs.Reading.{quad_at, as_row}

-- sums small enough that 64 bits have room for them times prices
abbrev pub SumsFit : List ℕ → Type 0
SumsFit ns = (total length_of (rows_of ns) < 2 ^ 40) × (total is_transfer (rows_of ns) < 2 ^ 40) × (total is_upload (rows_of ns) < 2 ^ 40)

-- the total over two lists
total_append : (f : Row → ℕ) (xs ys : List Row) → total f (xs ++ ys) ≡ total f xs + total f ys
unfolding total
total_append f [] ys = omega arith
total_append f (x ∷ xs) ys = omega (arith, total_append f xs ys)

-- one row more
total_more : (f : Row → ℕ) (ns : List ℕ) (i : ℕ) → total f (rows_upto ns (suc i)) ≡ total f (rows_upto ns i) + f (row_at ns i)
unfolding rows_upto total
total_more f ns i = omega (arith, total_append f (rows_upto ns i) (row_at ns i ∷ []))

-- more rows have no smaller total
total_up : (f : Row → ℕ) (ns : List ℕ) (i k : ℕ) → i ≤ k → total f (rows_upto ns i) ≤ total f (rows_upto ns k)
total_up f ns i zero h = let e : i ≡ 0 = omega arith in rw e (omega arith)
total_up f ns i (suc k) h = go (le_or_lt i k) (total_up f ns i k)
  where
    go : (i ≤ k) ⊎ (k < i) → (i ≤ k → total f (rows_upto ns i) ≤ total f (rows_upto ns k)) → total f (rows_upto ns i) ≤ total f (rows_upto ns (suc k))
    go (inl l) r = omega (arith, r l, total_more f ns k)
    go (inr l) r = let e : i ≡ suc k = omega arith in rw e (omega arith)

-- the total with the row that was read, and that it is no more than that of all rows
pub total_read : (f : Row → ℕ) (ns : List ℕ) (i s : ℕ) (r : Quad) → r ≡ quad_at ns i → s ≡ total f (rows_upto ns i)
    → s + f (as_row r) ≡ total f (rows_upto ns (i + 1))
unfolding quad_at row_at
total_read f ns i s r d e = rw (add-one i, total_more f ns i, d, e)

pub total_within : (f : Row → ℕ) (ns : List ℕ) (i s : ℕ) (r : Quad) → i < row_count ns → r ≡ quad_at ns i → s ≡ total f (rows_upto ns i)
    → s + f (as_row r) ≤ total f (rows_of ns)
unfolding rows_of row_count
total_within f ns i s r h d e = omega (arith, total_read f ns i s r d e, total_up f ns (i + 1) (row_count ns) (omega arith))
