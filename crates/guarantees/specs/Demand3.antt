-- Demand 3 whole, for every price file that loads and for the built-in table. The planner's half: every accepted log, cut to its first requests, with an
-- upload price (02's Req 11) or with none. The online half: every list of calls after a start.
use mathlib.Core.List.{List}
use Rattle.base.specs.Refusals.{Verdict}
use Rattle.std.proofs.Math.Option.{Option}
use Rattle.std.specs.Prelude.{◌≡◌, refl, ℕ, ◌≤◌, get_or, Ok}
use Rattle.std.proofs.Common.{ap, ◌∙◌}
use Rattle.std.proofs.Math.ListN.{length}
use Rattle.prices.specs.Tariff.{Tariff, Given}
use Rattle.prices.specs.Prices.{prices_of, InRange}
use Rattle.prices.specs.Offer.{offer_of}
use Rattle.prices.specs.PriceLaws.{given_priced, offer_tariff}
use Rattle.request_log.specs.declared.Header.{Header}
use Rattle.request_log.specs.Fields.{server_count_of}
use Rattle.request_log.specs.Conditions.{Accepted}
use Rattle.request_log.specs.Ranges.{Allowed}
use Rattle.request_log.specs.Contents.{decode, setup_in, first_requests, cut}
use Rattle.model.specs.LogRequests.{requests_in, rates_in}
use Rattle.model.specs.Plan.{plan_cost, plan_rows}
use Rattle.model.specs.RowForm.{flat}
use Rattle.checker.specs.Answers.{check_answer}
use Rattle.planner.specs.Answers.{planned_rows, rows_of_plan, plan_verdict, planned, least_costs}
use Rattle.online.specs.declared.Cache.{Cache}
use Rattle.online.specs.Rules.{fresh}
use Rattle.online.specs.Answers.{start_verdict, log_start_verdict, scan_verdict, close_verdict, started_by, started, started_for_log, scanned, closed_answer}
use Rattle.online.specs.Passed.{log_start_passed, start_passed}
use Rattle.bounds.specs.Calls.{Call, scan, close, verdict, after}
use Rattle.bounds.specs.Claim.{Claim}
use Rattle.bounds.proofs.ClaimLaws.{claim}
use Rattle.guarantees.specs.Optimality.{Optimal}
use Rattle.planner.specs.Outcome.{a_plan}

-- the planner's answer for an accepted log cut to its first k requests
pub record PlannedBest (t : Tariff) (u : Option ℕ) (log : List ℕ) (k : ℕ) : Type 0 where
  -- the cut log is a log, and says the first k requests
  pub accepted : Accepted t (cut k log)
  pub says : decode (cut k log) ≡ first_requests k (decode log)
  -- with outputs long enough it is not refused
  pub answered : (marks rows : ℕ) → k ≤ marks → length (rows_of_plan t u (cut k log)) ≤ rows → plan_verdict t u (cut k log) marks rows ≡ Ok tt
  -- and the answer is the cost and the number of rows
  pub gives : (marks rows : ℕ) → k ≤ marks → length (rows_of_plan t u (cut k log)) ≤ rows
      → planned (plan_verdict t u (cut k log) marks rows) t u (cut k log)
      ≡ a_plan (plan_cost (rates_in t u (cut k log)) (requests_in (cut k log)) k) (length (planned_rows t u (cut k log)))
  -- the planned rows are those of the plan of its k requests
  pub rows_are : rows_of_plan t u (cut k log)
      ≡ flat (plan_rows (rates_in t u (cut k log)) (requests_in (cut k log)) (server_count_of (cut k log)) k)
  -- they are at most 4,096
  pub few : length (planned_rows t u (cut k log)) ≤ 4096
  -- the checker accepts the planned rows with the planned cost
  pub checks : check_answer t u (cut k log) (rows_of_plan t u (cut k log)) ≡ Ok (plan_cost (rates_in t u (cut k log)) (requests_in (cut k log)) k)
  -- they are well formed and feasible, cost that, and no feasible schedule costs less
  pub best : Optimal (rates_in t u (cut k log)) (server_count_of (cut k log)) (requests_in (cut k log)) k
  -- and it is the least cost that `least` gives for the first k requests
  pub least_is : get_or (least_costs t u log) k 0 ≡ plan_cost (rates_in t u (cut k log)) (requests_in (cut k log)) k

-- the calls of a list are those of the contracts: each gives back the state of the contract's answer, and is refused by its verdict
pub scan_call : (c : Cache) (id : List ℕ) (second server : ℕ)
    → (after c (scan id second server) ≡ (scanned c id second server).cache) × (verdict c (scan id second server) ≡ scan_verdict c id second server)
unfolding after verdict
scan_call c id second server = (refl, refl)

pub close_call : (c : Cache) → (after c close ≡ (closed_answer c).cache) × (verdict c close ≡ close_verdict c)
unfolding after verdict
close_call c = (refl, refl)

-- the state of a start that is not refused: one of what is sold, or one for a log that there is, whose class may have ended
pub data Ready (t : Tariff) (g : Given t) (s : Header) : Cache → Type 0 where
  sold : start_verdict (offer_of g) (setup_in s) ≡ Ok tt → Ready t g s (started (offer_of g) s).cache
  for_log : log_start_verdict t (setup_in s) ≡ Ok tt → Ready t g s (started_for_log t s).cache

-- either way it is fresh, with prices in range
pub ready_fresh : (t : Tariff) (g : Given t) (s : Header) (c : Cache) → Ready t g s c
    → Allowed (setup_in s) × InRange (prices_of t.table s.«class») × (c ≡ fresh t.table s)
unfolding started started_for_log started_by
ready_fresh t g s c (for_log e) =
    let (a, range) = log_start_passed t (given_priced t g) (setup_in s) e in
    (a, range, ap (λ (v : Verdict). (started_by v t.table s).cache) e)
ready_fresh t g s c (sold e) =
    let p : log_start_verdict t (setup_in s) ≡ (Ok tt) = rw (← offer_tariff t g) ((start_passed (offer_of g) (setup_in s)).0 e).0 in
    let (a, range) = log_start_passed t (given_priced t g) (setup_in s) p in
    (a, range, ap (λ (v : Verdict). (started_by v (offer_of g).tariff.table s).cache) e ∙ ap (λ (x : Tariff). fresh x.table s) (offer_tariff t g))

-- THE ONLINE HALF: for every start that is not refused, with a price file or without, and every list of scan and close calls, refused ones included
pub online_within_three : (t : Tariff) (g : Given t) (s : Header) (c : Cache) → Ready t g s c → (calls : List Call) → Claim t.table s c calls
online_within_three t g s c r calls =
    let (a, range, e) = ready_fresh t g s c r in
    rw e (claim t.table s a range calls)
