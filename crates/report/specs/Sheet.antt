-- The sheet of a log (01's 'The sheet'). Assumes nothing.
use Rattle.std.specs.Prelude.{List, [], ◌∷◌, ◌++◌, ℕ, length}
use Rattle.std.proofs.Math.Option.{none}
use Rattle.base.specs.Lent.{lent}
use Rattle.base.specs.Refusals.{first, otherwise, short, Verdict}
use Rattle.prices.specs.Tariff.{Tariff}
use Rattle.request_log.specs.Fields.{request_count, seconds_of, servers_of}
use Rattle.request_log.specs.Conditions.{log_conditions}
use Rattle.planner.specs.Answers.{marks_of, planned_rows, least_costs}
use Rattle.live.specs.Live.{live_marks, running_costs, closing_cost}
use Rattle.report.specs.Text.{Columns, columns, entry_of, sheet_text}

-- seconds, servers, plan marks over the whole log, online marks, least and running costs of the requests so far
unfoldable pub columns_of : Tariff → List ℕ → Columns
columns_of t log = columns (seconds_of log) (servers_of log) (marks_of t none log) (live_marks t log) (least_costs t none log) (running_costs t log)

-- the bytes of the sheet
unfoldable pub sheet_of : Tariff → List ℕ → List ℕ
sheet_of t log = sheet_text (entry_of (columns_of t log)) (request_count log) (length (planned_rows t none log)) (closing_cost t log)

-- its conditions: the price file's, the log's, then 31 for what is lent
unfoldable pub sheet_verdict : Tariff → List ℕ → ℕ → Verdict
sheet_verdict t log room = otherwise t.judged (first (log_conditions t.table log ++ (short (length (sheet_of t log)) room ∷ [])))

-- what a lent text holds at the end
abbrev pub text_left : Tariff → List ℕ → List ℕ → List ℕ
text_left t log text = lent (sheet_verdict t log (length text)) (sheet_of t log) text
