-- A quote beside the least cost of a log and of its first requests, proved.
use Rattle.std.specs.Prelude.{List, ℕ, suc, ◌≤◌, get_or}
use Rattle.std.proofs.Math.Option.{none}
use Rattle.std.proofs.Common.{sym, ap, ◌∙◌, arith}
use Rattle.base.specs.Lists.{build_at}
use Rattle.prices.specs.Tariff.{Tariff}
use Rattle.request_log.specs.Fields.{request_count, server_count_of}
use Rattle.request_log.specs.Conditions.{Accepted}
use Rattle.request_log.specs.Contents.{cut}
use Rattle.request_log.specs.Cutting.{cut_count}
use Rattle.model.specs.LogRequests.{requests_in, rates_in}
use Rattle.model.proofs.LogRequestLaws.{log_rising, log_within}
use Rattle.model.specs.Least.{Least}
use Rattle.model.specs.Plan.{plan_cost}
use Rattle.model.proofs.PlanLeast.{plan_least}
use Rattle.planner.specs.Answers.{least_costs}
use Rattle.guarantees.proofs.Demand3.{planned_best}
use Rattle.guarantees.specs.Quotes.{WithinTwice, within_twice}

-- there is such a cost: the plan's
planned_least : (t : Tariff) (log : List ℕ) → Accepted t log
    → Least (rates_in t none log) (server_count_of log) (requests_in log) (request_count log) (plan_cost (rates_in t none log) (requests_in log) (request_count log))
planned_least t log a = plan_least _ _ _ _ (log_rising t log a) (log_within t log a)

-- THE WHOLE LOG, beside the last cost that the planner's `least` gives for it
pub whole_within : (t : Tariff) (log : List ℕ) → Accepted t log → WithinTwice t log (get_or (least_costs t none log) (request_count log) 0)
unfolding least_costs
whole_within t log a =
    let n = request_count log in
    within_twice t log a _
    (rw (build_at (suc n) (λ k. plan_cost (rates_in t none log) (requests_in log) k) n 0 (omega arith)) (planned_least t log a))

-- THE LOG CUT to its first k requests, beside the cost that `least` gives for so many
pub cut_within : (t : Tariff) (log : List ℕ) (k : ℕ) → Accepted t log → k ≤ request_count log → WithinTwice t (cut k log) (get_or (least_costs t none log) k 0)
cut_within t log k a h =
    let b = planned_best t none tt log k a h in
    within_twice t (cut k log) b.accepted _
    (rw (b.least_is ∙ ap (plan_cost (rates_in t none (cut k log)) (requests_in (cut k log))) (sym (cut_count t log k a h))) (planned_least t (cut k log) b.accepted))
