-- The conditions of a list of numbers as a schedule, in 01's order (14 to 18), and what the checker answers. Assumes nothing.
use Rattle.std.specs.Prelude.{Bool, true, not, List, [], ◌∷◌, ◌++◌, ◌≡◌, ℕ, suc, pred, ◌+◌, ◌*◌, ◌/◌, ◌%◌, ◌<◌, ltb, eqb, get_or, length}
use Rattle.base.specs.declared.reasons.Reason.TheVariants as reason
use Rattle.base.specs.Choice.{pick, both, either}
use Rattle.base.specs.Refusals.{Condition, refuse, each}
use Rattle.model.specs.Rates.{Rates, offers}
use Rattle.model.specs.Requests.{Requests}
use Rattle.model.specs.Schedule.{Row, hold, move, transfer, upload, Feasible, cost_of}
use Rattle.model.specs.Standing.{stands}
use Rattle.model.specs.RowForm.{row_at, rows_of, fits, follows, well_formed}

-- the number of rows of a list of numbers, four for each
unfoldable pub row_count : List ℕ → ℕ
row_count ns = length ns / 4

-- a row's kind, with its last number: 0 or 1 with any, or 2 with 0 where an upload price is given
unfoldable pub kind_fits : Rates → ℕ → ℕ → Bool
kind_fits p kind last = pick (ltb 1 kind) (both (eqb kind 2) (both (eqb last 0) (offers p))) true

-- the kind of row i fits
abbrev pub kind_of : Rates → List ℕ → ℕ → Bool
kind_of p ns i = kind_fits p (get_or ns (4 * i) 0) (get_or ns (4 * i + 3) 0)

-- 15: the kind of row i does not fit, there is no request, or the row does not fit
unfoldable pub misfits : Rates → ℕ → Requests → ℕ → List ℕ → ℕ → Bool
misfits p count q n ns i = either (not (kind_of p ns i)) (either (eqb n 0) (not (fits count (q.time n) (row_at ns i))))

-- 16: there is a row before row i, and row i may not follow it
unfoldable pub misplaced : List ℕ → ℕ → Bool
misplaced ns i = both (ltb 0 i) (not (follows (row_at ns (pred i)) (row_at ns i)))

-- row i, from 0: 15, then 16
unfoldable pub row_conditions : Rates → ℕ → Requests → ℕ → List ℕ → ℕ → List Condition
row_conditions p count q n ns i =
    refuse reason.RowForm (suc i) (misfits p count q n ns i) ∷ refuse reason.RowOrder (suc i) (misplaced ns i) ∷ []

-- a copy stands where and when a hold begins or a transfer leaves; an upload asks for none
unfoldable pub backed : ℕ → ℕ → List Row → Row → Bool
backed count home rows (hold x a b) = stands count home rows x a
backed count home rows (move (transfer y x τ)) = stands count home rows y τ
backed count home rows (move (upload x τ)) = true

-- row i, from 0: 17, no copy at its start or source
unfoldable pub copy_condition : ℕ → Requests → List ℕ → ℕ → List Condition
copy_condition count q ns i = refuse reason.NoCopy (suc i) (not (backed count (q.server 0) (rows_of ns) (row_at ns i))) ∷ []

-- request i + 1: 18, no copy at its server and second
unfoldable pub serve_condition : ℕ → Requests → List ℕ → ℕ → List Condition
serve_condition count q ns i =
    refuse reason.Unserved (suc i) (not (stands count (q.server 0) (rows_of ns) (q.server (suc i)) (q.time (suc i)))) ∷ []

-- 14, then each row's 15 and 16
abbrev pub form_conditions : Rates → ℕ → Requests → ℕ → List ℕ → List Condition
form_conditions p count q n ns =
    refuse reason.PartialRow 0 (not (eqb (length ns % 4) 0)) ∷ each (row_conditions p count q n ns) (row_count ns)

-- these, then each row's 17, then each request's 18
unfoldable pub schedule_conditions : Rates → ℕ → Requests → ℕ → List ℕ → List Condition
schedule_conditions p count q n ns =
    form_conditions p count q n ns ++ (each (copy_condition count q ns) (row_count ns) ++ each (serve_condition count q ns) n)

-- the cost that the checker answers where none holds
unfoldable pub check_cost : Rates → List ℕ → ℕ
check_cost p ns = cost_of p (rows_of ns)

-- the rows of numbers are accepted: four for each, of kinds that fit, well formed and feasible
pub record Scheduled (p : Rates) (count : ℕ) (q : Requests) (n : ℕ) (ns : List ℕ) : Type 0 where
  pub whole : length ns % 4 ≡ 0
  pub kinds : (i : ℕ) → i < row_count ns → kind_of p ns i ≡ true
  pub shaped : well_formed count n (q.time n) (rows_of ns) ≡ true
  pub feasible : Feasible p q n (rows_of ns)
