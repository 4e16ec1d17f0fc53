-- The columns of the sheet, at each request. The least cost is what the planner answers for the log cut there (01's 'What demand 3 compares'). The live
-- mark and the running cost are what the online cache answers when it is handed the requests up to there, and the cost is within three times the least.
-- The closing cost of the last line is what it answers when it is closed after all of them.
use Rattle.std.specs.Prelude.{List, ◌≡◌, ℕ, ◌+◌, ◌-◌, ◌*◌, ◌≤◌, length, get_or, replicate, Ok}
use Rattle.std.proofs.Math.Option.{none}
use Rattle.prices.specs.Prices.{window}
use Rattle.prices.specs.Tariff.{Tariff}
use Rattle.request_log.specs.Fields.{id_of, setup_of, request_count, header_of}
use Rattle.request_log.specs.Contents.{cut}
use Rattle.model.specs.LogRequests.{requests_in, prices_in, rates_in}
use Rattle.model.specs.Plan.{plan_cost}
use Rattle.planner.specs.Answers.{planned_rows, rows_of_plan, plan_verdict, planned, least_costs}
use Rattle.online.specs.declared.Scanned.{Scanned}
use Rattle.online.specs.Rules.{running}
use Rattle.online.specs.Answers.{log_start_verdict, close_verdict, scanned, closed_answer}
use Rattle.bounds.specs.Calls.{Call, run, verdicts}
use Rattle.bounds.specs.Claim.{Claim, served, served_count}
use Rattle.report.specs.declared.Entry.{Entry}
use Rattle.live.specs.Live.{calls_of, opened, closing_cost}
use Rattle.live.specs.Replies.{outcome_letter, outcome_cost}
use Rattle.report.specs.Sheet.{columns_of}
use Rattle.report.specs.Text.{entry_of}
use Rattle.planner.specs.Outcome.{a_plan}

-- what line k of a log's sheet says, from 1
abbrev pub line_of : Tariff → List ℕ → ℕ → Entry
line_of t log k = entry_of (columns_of t log) (k - 1)

pub record LeastColumn (t : Tariff) (log : List ℕ) (k : ℕ) : Type 0 where
  -- it is the line of request k
  pub number_is : (line_of t log k).number ≡ k
  -- its least cost is the cost of the plan of the log cut to its first k requests
  pub least_is : (line_of t log k).least ≡ plan_cost (rates_in t none (cut k log)) (requests_in (cut k log)) k
  -- so it is what the planner answers for the cut log, its outputs long enough
  pub answers : (marks rows : ℕ) → k ≤ marks → length (rows_of_plan t none (cut k log)) ≤ rows
      → planned (plan_verdict t none (cut k log) marks rows) t none (cut k log) ≡ a_plan (line_of t log k).least (length (planned_rows t none (cut k log)))

-- ---- the live columns

-- what the call of request k answers, after those before it
abbrev pub answer_of : Tariff → List ℕ → ℕ → Scanned
answer_of t log k = scanned (run (opened t log) (calls_of log (k - 1))) (id_of log) (line_of t log k).second (line_of t log k).server

pub record LiveColumns (t : Tariff) (log : List ℕ) (k : ℕ) : Type 0 where
  -- neither the start nor any of the first k calls is refused
  pub ready : log_start_verdict t (setup_of log) ≡ Ok tt
  pub passes : verdicts (opened t log) (calls_of log k) ≡ replicate k (Ok tt)
  -- the line has the mark and the running cost that call k answers, which is the cost of the state after all k
  pub mark_is : (line_of t log k).live ≡ outcome_letter (answer_of t log k).outcome
  pub cost_is : (line_of t log k).cost ≡ outcome_cost (answer_of t log k).outcome
  pub running_is : (line_of t log k).cost ≡ running (run (opened t log) (calls_of log k))
  -- demand 3's claim holds of these calls, and what they take are the requests of the cut log
  pub claimed : Claim t.table (header_of log) (opened t log) (calls_of log k)
  pub taken_are : served t.table (header_of log) (opened t log) (calls_of log k) ≡ requests_in (cut k log)
  pub all_taken : served_count t.table (header_of log) (opened t log) (calls_of log k) ≡ k
  -- so the running cost is at least the least cost that the line has, and at most three times that
  pub no_less : (line_of t log k).least ≤ (line_of t log k).cost
  pub no_more : (line_of t log k).cost ≤ 3 * (line_of t log k).least

-- ---- the last line

-- all requests of a log, as calls
abbrev pub all_calls : List ℕ → List Call
all_calls log = calls_of log (request_count log)

pub record CloseLine (t : Tariff) (log : List ℕ) : Type 0 where
  -- the close after all calls is not refused, and answers the closing cost that the line has
  pub passes : close_verdict (run (opened t log) (all_calls log)) ≡ Ok tt
  pub answers : (closed_answer (run (opened t log) (all_calls log))).outcome ≡ Ok (closing_cost t log)
  -- it is at least the running cost, and at most three times the least cost of all requests and one transfer price
  pub no_less : running (run (opened t log) (all_calls log)) ≤ closing_cost t log
  pub no_more : closing_cost t log ≤ 3 * get_or (least_costs t none log) (request_count log) 0 + (prices_in t log).transfer
  -- a log without requests has the holding of one window
  pub empty : request_count log ≡ 0 → closing_cost t log ≡ (prices_in t log).hold * window (prices_in t log)
