-- The week page of a log: what the call answers, and what the program prints (02's Req 01). Assumes nothing.
use Rattle.std.specs.Prelude.{List, [], ◌∷◌, ◌++◌, ℕ, ltb, length}
use Rattle.base.specs.declared.reasons.Reason.TheVariants as reason
use Rattle.std.proofs.Math.Option.{none}
use Rattle.base.specs.Lent.{lent}
use Rattle.base.specs.Refusals.{Condition, refuse, first, otherwise, short, Verdict}
use Rattle.prices.specs.Tariff.{Tariff}
use Rattle.request_log.specs.Fields.{server_count_of, request_count, seconds_of}
use Rattle.request_log.specs.Conditions.{before, log_conditions}
use Rattle.planner.specs.Answers.{planned_rows}
use Rattle.text.specs.RefusalText.{shown}
use Rattle.week.specs.Days.{week_seconds}
use Rattle.week.specs.PageText.{page_text}

-- the page of the plan, over all the log's servers
unfoldable pub page_of : Tariff → List ℕ → List ℕ
page_of t log = page_text (planned_rows t none log) (server_count_of log)

-- the second of a log's last request, 0 where there is none
abbrev pub last_second : List ℕ → ℕ
last_second log = before (seconds_of log) (request_count log)

-- 36: the last request is after the week
unfoldable pub after_week : List ℕ → Condition
after_week log = refuse reason.AfterWeek 0 (ltb week_seconds (last_second log))

-- the page's conditions: the log's, 36, then 31 for what is lent
unfoldable pub page_verdict : Tariff → List ℕ → ℕ → Verdict
page_verdict t log room = otherwise t.judged (first (log_conditions t.table log ++ (after_week log ∷ short (length (page_of t log)) room ∷ [])))

-- what a lent text holds at the end
abbrev pub page_left : Tariff → List ℕ → List ℕ → List ℕ
page_left t log text = lent (page_verdict t log (length text)) (page_of t log) text

-- without what is lent: the log's conditions, then 36
abbrev pub week_verdict : Tariff → List ℕ → Verdict
week_verdict t log = otherwise t.judged (first (log_conditions t.table log ++ (after_week log ∷ [])))

-- what the program prints for the bytes of an input: the page, or the one line of the refusal
unfoldable pub page_output : Tariff → List ℕ → List ℕ
page_output t log = shown (week_verdict t log) (page_of t log)
