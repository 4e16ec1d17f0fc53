-- The rows of a legal marking: well formed, feasible, at most two for each request, and they cost what the marking costs.
use Rattle.std.specs.Prelude.{true, List, ◌≡◌, ℕ, ◌*◌, ◌≤◌, length}
use Rattle.std.proofs.Common.{sym}
use Rattle.base.specs.NearestLaws.{Nearest, nearest_is, nearest_unique}
use Rattle.model.specs.Rates.{Rates}
use Rattle.model.specs.Requests.{Requests, Rising, Within}
use Rattle.model.specs.Schedule.{Row, Feasible, cost_of}
use Rattle.model.specs.RowForm.{well_formed}
use Rattle.model.specs.Marking.{Mark, S, loads, holds, cost, source, rows_from, rows, Valid, Good}
use Rattle.model.proofs.HolderLaws.{gap_held}
use Rattle.model.proofs.RowsFeasible.{rows_feasible}
use Rattle.model.proofs.RowsFormed.{rows_formed}
use Rattle.model.proofs.RowsCost.{rows_cost, rows_few}

-- what the rows of a marking of n requests are
pub record Realizes (p : Rates) (q : Requests) (count : ℕ) (m : ℕ → Mark) (n : ℕ) (rows : List Row) : Type 0 where
  pub formed : well_formed count n (q.time n) rows ≡ true
  pub feasible : Feasible p q n rows
  pub few : length rows ≤ 2 * n
  pub costs : cost_of p rows ≡ cost p q m n

-- with any holders as sources
pub rows_from_realize : (p : Rates) (q : Requests) (count : ℕ) (m : ℕ → Mark) (n : ℕ) (from : ℕ → ℕ)
    → Rising q n → Within count q n → Valid p q m n → Good count q m n from → Realizes p q count m n (rows_from q count m n from)
rows_from_realize p q count m n from rise within valid good =
    record {
      formed = rows_formed p q count m n from rise within valid good;
      feasible = rows_feasible p q count m n from rise within valid good;
      few = rows_few q count m n from within;
      costs = rows_cost q count m n from rise within p valid;
    }

-- the source of a transfer holds over the gap before its request, no holder is nearer, and of two equally near it is the lower
pub source_nearest : (q : Requests) (count : ℕ) (m : ℕ → Mark) (n : ℕ) → Within count q n → (i : ℕ) → 1 ≤ i → i ≤ n → m i ≡ S
    → Nearest count (holds q m n i) (q.server i) (source q count m n i)
unfolding source loads
source_nearest q count m n within i a b e =
    let h = gap_held q m n count within i a b (rw e) in
    nearest_is (holds q m n i) (q.server i) count h.0 h.1 h.2

-- and there is only one such server
pub source_only : (q : Requests) (count : ℕ) (m : ℕ → Mark) (n i y : ℕ)
    → Nearest count (holds q m n i) (q.server i) y → y ≡ source q count m n i
unfolding source
source_only q count m n i y N = sym (nearest_unique (holds q m n i) (q.server i) count y N)

-- so it is a good source
pub source_good : (q : Requests) (count : ℕ) (m : ℕ → Mark) (n : ℕ) → Within count q n → Good count q m n (source q count m n)
source_good q count m n within i a b e =
    let N = source_nearest q count m n within i a b e in
    (N.within, N.passes)

-- with the nearest holders as sources
pub rows_realize : (p : Rates) (q : Requests) (count : ℕ) (m : ℕ → Mark) (n : ℕ)
    → Rising q n → Within count q n → Valid p q m n → Realizes p q count m n (rows q count m n)
unfolding rows
rows_realize p q count m n rise within valid =
    rows_from_realize p q count m n (source q count m n) rise within valid (source_good q count m n within)
