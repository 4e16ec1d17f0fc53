-- Where planned transfers come from, over all prices, an upload price given or none, every home and every list of requests (02's request 03): each from the nearest holder.
-- Which holder it is changes neither the number of rows nor their cost, and the checker takes any.
use Rattle.std.specs.Prelude.{true, ℕ, ◌≤◌, length, Ok}
use mathlib.Core.List.{List, Memᴰ}
use Rattle.std.proofs.Math.Option.{Option}
use Rattle.std.proofs.Math.Path.{◌≡◌}
use Rattle.std.proofs.Common.{sym, ap, ◌∙◌, arith}
use Rattle.base.specs.Nearest.{distance}
use Rattle.model.specs.Rates.{Rates}
use Rattle.prices.specs.Tariff.{Tariff}
use Rattle.prices.specs.Uploads.{Taken}
use Rattle.request_log.specs.Fields.{server_count_of, request_count}
use Rattle.request_log.specs.Conditions.{Accepted}
use Rattle.model.specs.Requests.{Requests, Rising, Within}
use Rattle.model.specs.Schedule.{move, transfer, Feasible, cost_of}
use Rattle.model.specs.RowForm.{flat, well_formed}
use Rattle.model.specs.Marking.{Mark, S, holds, source, rows_from, rows, Good}
use Rattle.model.specs.Plan.{plan, plan_cost, plan_rows}
use Rattle.model.specs.LogRequests.{requests_in, rates_in}
use Rattle.model.proofs.LogRequestLaws.{log_rising, log_within}
use Rattle.model.proofs.RowsCost.{rows_as_many}
use Rattle.model.proofs.MarkingRows.{rows_from_realize}
use Rattle.model.proofs.PlanLaws.{plan_planned}
use Rattle.checker.specs.Answers.{check_answer}
use Rattle.guarantees.specs.CheckerAccepts.{schedule_accepted}

-- y holds over the gap before request i, no holder is nearer to its server, and of two equally near y is the lower
pub record NearestHolder (q : Requests) (m : ℕ → Mark) (n i y : ℕ) : Type 0 where
  pub there : holds q m n i y ≡ true
  pub none_nearer : (z : ℕ) → holds q m n i z ≡ true → distance y (q.server i) ≤ distance z (q.server i)
  pub lower : (z : ℕ) → holds q m n i z ≡ true → distance z (q.server i) ≡ distance y (q.server i) → y ≤ z

-- only one server is that
pub one_nearest : (q : Requests) (m : ℕ → Mark) (n i y z : ℕ) → NearestHolder q m n i y → NearestHolder q m n i z → y ≡ z
one_nearest q m n i y z Y Z =
    let far : distance z (q.server i) ≡ distance y (q.server i) = omega (arith, Y.none_nearer z Z.there, Z.none_nearer y Y.there) in
    omega (arith, Y.lower z Z.there far, Z.lower y Y.there (sym far))

-- a transfer from y to x at τ serves a request of the plan that is marked S, from the nearest holder
pub record Serves (p : Rates) (q : Requests) (n y x τ : ℕ) : Type 0 where
  pub request : ℕ
  pub first : 1 ≤ request
  pub upto : request ≤ n
  pub sent : plan p q n request ≡ S
  pub target : x ≡ q.server request
  pub second : τ ≡ q.time request
  pub nearest : NearestHolder q (plan p q n) n request y

-- the transfers among the plan's rows are these: each serves an S, and each S has one
pub record Sourced (p : Rates) (count : ℕ) (q : Requests) (n : ℕ) : Type 0 where
  pub each : (y x τ : ℕ) → Memᴰ (move (transfer y x τ)) (plan_rows p q count n) → Serves p q n y x τ
  pub every_s : (i : ℕ) → 1 ≤ i → i ≤ n → plan p q n i ≡ S
      → (y : ℕ) × NearestHolder q (plan p q n) n i y × Memᴰ (move (transfer y (q.server i) (q.time i))) (plan_rows p q count n)

-- the plan's rows with other holders as sources: as many, well formed, feasible, of the plan's cost
pub record AnyHolder (p : Rates) (count : ℕ) (q : Requests) (n : ℕ) (from : ℕ → ℕ) : Type 0 where
  pub as_many : length (rows_from q count (plan p q n) n from) ≡ length (plan_rows p q count n)
  pub formed : well_formed count n (q.time n) (rows_from q count (plan p q n) n from) ≡ true
  pub feasible : Feasible p q n (rows_from q count (plan p q n) n from)
  pub costs : cost_of p (rows_from q count (plan p q n) n from) ≡ plan_cost p q n

pub any_holder : (p : Rates) (count : ℕ) (q : Requests) (n : ℕ) (from : ℕ → ℕ) → Rising q n → Within count q n → Good count q (plan p q n) n from
    → AnyHolder p count q n from
unfolding plan_rows plan_cost rows
any_holder p count q n from rising within good =
    let r = rows_from_realize p q count (plan p q n) n from rising within (plan_planned p q n).lawful good in
    record {
      as_many = rows_as_many q count (plan p q n) n from (source q count (plan p q n) n);
      formed = r.formed;
      feasible = r.feasible;
      costs = r.costs;
    }

-- the checker takes them, for every accepted log
pub any_holder_checked : (t : Tariff) (u : Option ℕ) → Taken u → (log : List ℕ) → Accepted t log → (from : ℕ → ℕ)
    → Good (server_count_of log) (requests_in log) (plan (rates_in t u log) (requests_in log) (request_count log)) (request_count log) from
    → check_answer t u log
    (flat (rows_from (requests_in log) (server_count_of log) (plan (rates_in t u log) (requests_in log) (request_count log)) (request_count log) from))
    ≡ Ok (plan_cost (rates_in t u log) (requests_in log) (request_count log))
any_holder_checked t u taken log a from good =
    let h = any_holder (rates_in t u log) (server_count_of log) (requests_in log) (request_count log) from (log_rising t log a) (log_within t log a) good in
    schedule_accepted t u log _ a taken h.formed h.feasible ∙ ap Ok h.costs
