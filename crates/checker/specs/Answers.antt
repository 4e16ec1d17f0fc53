-- What the checker answers, by the conditions 1 to 18 of 01's 'Refused because of the input', with the upload price of 02's Req 11 where one is given. Assumes nothing.
use Rattle.std.specs.Prelude.{List, ◌++◌, ◌≡◌, ℕ, Ok, Err, Result}
use Rattle.base.specs.declared.Refusal.{Refusal}
use Rattle.std.proofs.Math.Option.{Option}
use Rattle.base.specs.Refusals.{Condition, first, otherwise, Verdict}
use Rattle.prices.specs.Tariff.{Tariff}
use Rattle.prices.specs.Uploads.{upload_conditions}
use Rattle.request_log.specs.Fields.{server_count_of, request_count}
use Rattle.request_log.specs.Conditions.{log_conditions, Accepted}
use Rattle.model.specs.LogRequests.{requests_in, rates_in}
use Rattle.model.specs.Checking.{schedule_conditions, check_cost, Scheduled}

-- the log's conditions, 1 to 13, then the upload price's, 44, then the schedule's, 14 to 18
unfoldable pub check_conditions : Tariff → Option ℕ → List ℕ → List ℕ → List Condition
check_conditions t u log ns =
    log_conditions t.table log
    ++ (upload_conditions u ++ schedule_conditions (rates_in t u log) (server_count_of log) (requests_in log) (request_count log) ns)

-- what the price file is answered, else refused by the first of these that holds, or passed
unfoldable pub check_verdict_of : Tariff → Option ℕ → List ℕ → List ℕ → Verdict
check_verdict_of t u log ns = otherwise t.judged (first (check_conditions t u log ns))

-- the answer by a verdict: the cost, or the refusal
unfoldable pub checked : Verdict → ℕ → Result ℕ Refusal
checked (Ok _) cost = Ok cost
checked (Err r) cost = Err r

-- what the checker answers to an upload price or none, the bytes of a log and the numbers of a schedule
unfoldable pub check_answer : Tariff → Option ℕ → List ℕ → List ℕ → Result ℕ Refusal
check_answer t u log ns = checked (check_verdict_of t u log ns) (check_cost (rates_in t u log) ns)

-- an accepted log, an upload price in range or none, rows that are accepted for the log's requests, and their cost
pub record Answered (t : Tariff) (u : Option ℕ) (log ns : List ℕ) (v : ℕ) : Type 0 where
  pub log_accepted : Accepted t log
  pub price_accepted : first (upload_conditions u) ≡ Ok tt
  pub rows_accepted : Scheduled (rates_in t u log) (server_count_of log) (requests_in log) (request_count log) ns
  pub cost_is : v ≡ check_cost (rates_in t u log) ns
