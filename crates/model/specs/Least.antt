-- The least cost of requests (01's 'What demand 3 compares'): some schedule, well formed and feasible, costs it, and no feasible schedule costs
-- less. Assumes nothing.
use Rattle.std.specs.Prelude.{true, List, ◌≡◌, ℕ, ◌≤◌}
use Rattle.model.specs.Rates.{Rates}
use Rattle.model.specs.Requests.{Requests}
use Rattle.model.specs.Schedule.{Row, Feasible, cost_of}
use Rattle.model.specs.RowForm.{well_formed}

-- the least cost of the first n requests, with servers below the count
pub record Least (p : Rates) (count : ℕ) (q : Requests) (n least : ℕ) : Type 0 where
  pub schedule : List Row
  pub formed : well_formed count n (q.time n) schedule ≡ true
  pub feasible : Feasible p q n schedule
  pub costs : cost_of p schedule ≡ least
  pub none_less : (rows : List Row) → Feasible p q n rows → least ≤ cost_of p rows
