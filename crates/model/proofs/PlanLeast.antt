-- There is one least cost of requests, and the plan costs it.
use Rattle.std.specs.Prelude.{◌≡◌, ℕ}
use Rattle.std.proofs.Common.{arith}
use Rattle.model.specs.Rates.{Rates}
use Rattle.model.specs.Requests.{Requests, Rising, Within}
use Rattle.model.specs.Plan.{plan, plan_cost, plan_rows}
use Rattle.model.specs.Least.{Least}
use Rattle.model.proofs.PlanLaws.{plan_planned, plan_best}
use Rattle.model.proofs.MarkingRows.{rows_realize}
use Rattle.model.proofs.LowerBound.{lower_bound}

-- there is only one
pub least_once : (p : Rates) (count : ℕ) (q : Requests) (n a b : ℕ) → Least p count q n a → Least p count q n b → a ≡ b
least_once p count q n a b A B =
    omega (arith, A.costs, B.costs, A.none_less B.schedule B.feasible, B.none_less A.schedule A.feasible)

-- the plan's rows cost it
pub plan_least : (p : Rates) (count : ℕ) (q : Requests) (n : ℕ) → Rising q n → Within count q n → Least p count q n (plan_cost p q n)
unfolding plan_cost plan_rows
plan_least p count q n rising within =
    let r = rows_realize p q count (plan p q n) n rising within (plan_planned p q n).lawful in
    record {
      schedule = plan_rows p q count n;
      formed = r.formed;
      feasible = r.feasible;
      costs = r.costs;
      none_less = λ rows F. omega (arith, plan_best p q n, lower_bound p q n rows rising F);
    }
