-- The theorem, over all prices, an upload price given or none, every home and every list of requests whose seconds rise: the plan's rows are a schedule,
-- and no schedule costs less. A reader need believe only the definitions named here.
use Rattle.std.specs.Prelude.{true, List, ◌≡◌, ℕ, ◌*◌, ◌≤◌, length}
use Rattle.model.specs.Rates.{Rates}
use Rattle.model.specs.Requests.{Requests, Rising, Within}
use Rattle.model.specs.Schedule.{Row, Feasible, cost_of}
use Rattle.model.specs.RowForm.{well_formed}
use Rattle.model.specs.Marking.{Mark}
use Rattle.model.specs.Plan.{plan, plan_cost, plan_rows, Agree, Planned}
use Rattle.model.proofs.MarkingRows.{rows_realize}
use Rattle.model.proofs.PlanLaws.{plan_planned, plan_only}
use Rattle.model.proofs.PlanLeast.{plan_least}

-- the plan of the first n requests, with servers below the count
pub record Optimal (p : Rates) (count : ℕ) (q : Requests) (n : ℕ) : Type 0 where
  pub formed : well_formed count n (q.time n) (plan_rows p q count n) ≡ true
  pub feasible : Feasible p q n (plan_rows p q count n)
  pub few : length (plan_rows p q count n) ≤ 2 * n
  pub costs : cost_of p (plan_rows p q count n) ≡ plan_cost p q n
  pub none_less : (rows : List Row) → Feasible p q n rows → plan_cost p q n ≤ cost_of p rows

pub optimal : (p : Rates) (count : ℕ) (q : Requests) (n : ℕ) → Rising q n → Within count q n → Optimal p count q n
unfolding plan_rows plan_cost
optimal p count q n rising within =
    let r = rows_realize p q count (plan p q n) n rising within (plan_planned p q n).lawful in
    record {
      formed = r.formed;
      feasible = r.feasible;
      few = r.few;
      costs = r.costs;
      none_less = (plan_least p count q n rising within).none_less;
    }

-- THE TIE SENTENCE: the plan is a legal marking of the least cost, and where another of that cost differs, at the latest such request a tie goes
-- to the plan's mark: K, then S, then U; and it is the only one
pub record Chosen (p : Rates) (q : Requests) (n : ℕ) : Type 0 where
  pub planned : Planned p q n (plan p q n)
  pub only : (m : ℕ → Mark) → Planned p q n m → Agree n m (plan p q n)

pub chosen : (p : Rates) (q : Requests) (n : ℕ) → Chosen p q n
chosen p q n = record { planned = plan_planned p q n; only = plan_only p q n }
