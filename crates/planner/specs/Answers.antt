-- What the planner answers, and what its lent lists hold at the end (01's 'The plan'), by an upload price u where one is given (02's Req 11). Assumes nothing.
use Rattle.std.specs.Prelude.{List, [], ◌∷◌, ◌++◌, ℕ, suc, length, Ok, Err, Result}
use Rattle.base.specs.declared.Refusal.{Refusal}
use Rattle.std.proofs.Math.Option.{Option}
use Rattle.base.specs.Lists.{build}
use Rattle.base.specs.Refusals.{first, otherwise, short, Verdict}
use Rattle.base.specs.Lent.{lent}
use Rattle.prices.specs.Tariff.{Tariff}
use Rattle.prices.specs.Uploads.{upload_conditions}
use Rattle.request_log.specs.Fields.{server_count_of, request_count}
use Rattle.request_log.specs.Conditions.{log_conditions}
use Rattle.model.specs.Schedule.{Row}
use Rattle.model.specs.RowForm.{flat}
use Rattle.model.specs.Marking.{Mark, K, S, U}
use Rattle.model.specs.Plan.{plan, plan_cost, plan_rows}
use Rattle.model.specs.LogRequests.{requests_in, rates_in}
use Rattle.planner.specs.Outcome.{Outcome, a_plan}

-- a mark as one ASCII letter
unfoldable pub letter : Mark → ℕ
letter K = 75
letter S = 83
letter U = 85

-- the marks of a log's plan, one letter for each request
unfoldable pub marks_of : Tariff → Option ℕ → List ℕ → List ℕ
marks_of t u log = build (request_count log) (λ i. letter (plan (rates_in t u log) (requests_in log) (request_count log) (suc i)))

-- the rows of a log's plan
unfoldable pub planned_rows : Tariff → Option ℕ → List ℕ → List Row
planned_rows t u log = plan_rows (rates_in t u log) (requests_in log) (server_count_of log) (request_count log)

-- the same as numbers, four for each row
unfoldable pub rows_of_plan : Tariff → Option ℕ → List ℕ → List ℕ
rows_of_plan t u log = flat (planned_rows t u log)

-- the plan's conditions: the price file's, the log's, 44, then 31 for marks and for rows, given the lengths of the lent lists
unfoldable pub plan_verdict : Tariff → Option ℕ → List ℕ → ℕ → ℕ → Verdict
plan_verdict t u log marks rows =
    otherwise t.judged (first (log_conditions t.table log ++ (upload_conditions u ++ (short (request_count log) marks ∷ short (length (rows_of_plan t u log)) rows ∷ []))))

-- the plan's answer by its verdict: the cost and the number of rows, or the refusal
unfoldable pub planned : Verdict → Tariff → Option ℕ → List ℕ → Outcome
planned (Ok _) t u log = a_plan (plan_cost (rates_in t u log) (requests_in log) (request_count log)) (length (planned_rows t u log))
planned (Err r) t u log = Err r

-- what the lent lists hold at the end
abbrev pub marks_left : Tariff → Option ℕ → List ℕ → List ℕ → List ℕ → List ℕ
marks_left t u log marks rows = lent (plan_verdict t u log (length marks) (length rows)) (marks_of t u log) marks

abbrev pub rows_left : Tariff → Option ℕ → List ℕ → List ℕ → List ℕ → List ℕ
rows_left t u log marks rows = lent (plan_verdict t u log (length marks) (length rows)) (rows_of_plan t u log) rows

-- the least cost of each number of a log's first requests, from none to all
unfoldable pub least_costs : Tariff → Option ℕ → List ℕ → List ℕ
least_costs t u log = build (suc (request_count log)) (λ k. plan_cost (rates_in t u log) (requests_in log) k)

-- the conditions of the least costs: the price file's, the log's, 44, then 31, given the length of the lent list
unfoldable pub least_verdict : Tariff → Option ℕ → List ℕ → ℕ → Verdict
least_verdict t u log costs = otherwise t.judged (first (log_conditions t.table log ++ (upload_conditions u ++ (short (suc (request_count log)) costs ∷ []))))

-- the answer by that verdict: how many costs were written, or the refusal
unfoldable pub least_answer : Verdict → List ℕ → Result ℕ Refusal
least_answer (Ok _) log = Ok (suc (request_count log))
least_answer (Err r) log = Err r

-- what the lent list holds at the end
abbrev pub costs_left : Tariff → Option ℕ → List ℕ → List ℕ → List ℕ
costs_left t u log costs = lent (least_verdict t u log (length costs)) (least_costs t u log) costs
