-- Lists that have room for a log's answer: a call that is lent them refuses by the log's conditions alone.
use Rattle.std.specs.Prelude.{List, ◌++◌, ◌≡◌, ℕ, suc, ◌*◌, ◌≤◌, length, Ok, Err}
use Rattle.std.proofs.Math.Option.{none}
use Rattle.std.proofs.Math.Path.{refl}
use Rattle.std.proofs.Common.{◌∙◌, arith}
use borrow.Author.Tests.{le-ltb}
use Rattle.base.specs.Refusals.{Condition, first, otherwise, Verdict}
use Rattle.prices.specs.Tariff.{Tariff}
use Rattle.prices.specs.Uploads.{upload_conditions}
use Rattle.request_log.specs.Sizes.{most_requests}
use Rattle.request_log.specs.Fields.{server_count_of, request_count}
use Rattle.request_log.specs.Conditions.{Accepted, log_conditions, verdict_of}
use Rattle.request_log.specs.ConditionLaws.{after_log}
use Rattle.request_log.specs.AcceptedLaws.{accepted_sound}
use Rattle.model.proofs.FlatLaws.{flat_length}
use Rattle.model.specs.LogRequests.{requests_in}
use Rattle.model.proofs.LogRequestLaws.{log_within}
use Rattle.model.specs.Marking.{rows}
use Rattle.model.specs.Plan.{plan_rows}
use Rattle.model.proofs.RowsCost.{rows_few}
use Rattle.planner.specs.Sizes.{places, rows_room}
use Rattle.planner.specs.Answers.{planned_rows, rows_of_plan, plan_verdict, least_verdict}

-- lists of these lengths have room for the marks and rows of an accepted log's plan
abbrev pub Roomy : Tariff → List ℕ → ℕ → ℕ → Type 0
Roomy t log marks rows = Accepted t log → (request_count log ≤ marks) × (8 * request_count log ≤ rows)

module _ (t : Tariff) (log : List ℕ) where
  -- conditions that no accepted log meets add nothing to a log's
  no_more : (own : List Condition) → (Accepted t log → first own ≡ Ok tt) → otherwise t.judged (first (log_conditions t.table log ++ own)) ≡ verdict_of t log
  unfolding Accepted
  no_more own h = after_log t log own ∙ go (verdict_of t log) refl
    where
      go : (v : Verdict) → verdict_of t log ≡ v → otherwise (verdict_of t log) (first own) ≡ verdict_of t log
      go (Ok _) e = rw e (h e)
      go (Err r) e = rw e

  -- an accepted log's plan has at most two rows for each request
  pub few_rows : Accepted t log → length (planned_rows t none log) ≤ 2 * request_count log
  unfolding planned_rows plan_rows rows
  few_rows a = rows_few (requests_in log) (server_count_of log) _ (request_count log) _ (log_within t log a)

  -- a plan in such lists is refused exactly as the log is
  pub plan_roomy : (marks rows : ℕ) → Roomy t log marks rows → plan_verdict t none log marks rows ≡ verdict_of t log
  unfolding plan_verdict rows_of_plan upload_conditions first
  plan_roomy marks rows room =
      no_more _
      (λ a.
      rw (
        le-ltb marks (request_count log) (room a).0,
        le-ltb rows (length (rows_of_plan t none log)) (omega (arith, flat_length (planned_rows t none log), few_rows a, (room a).1)),
      ))

  -- the longest lists have it
  pub most_roomy : Roomy t log most_requests rows_room
  most_roomy a = let few = (accepted_sound t log a).requests_most in (few, omega (arith, few))

  -- so are the least costs in the longest list
  pub least_roomy : least_verdict t none log places ≡ verdict_of t log
  unfolding least_verdict upload_conditions first
  least_roomy = no_more _ (λ a. rw (le-ltb places (suc (request_count log)) (omega (arith, (accepted_sound t log a).requests_most))))
