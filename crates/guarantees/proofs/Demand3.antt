-- The planner's half of demand 3, proved.
use mathlib.Core.List.{List, [], ◌∷◌, ◌++◌}
use Rattle.std.proofs.Math.Option.{Option}
use Rattle.std.specs.Prelude.{◌≡◌, ℕ, suc, ◌*◌, ◌≤◌, get_or, Ok}
use Rattle.std.proofs.Common.{ap, ◌∙◌, arith}
use Rattle.std.proofs.Math.Path.{sym}
use borrow.Author.Tests.{le-ltb}
use Rattle.std.proofs.Math.ListN.{length}
use Rattle.base.specs.Refusals.{first, short}
use Rattle.base.specs.RefusalLaws.{first_append}
use Rattle.base.specs.Lists.{build_at}
use Rattle.prices.specs.Tariff.{Tariff}
use Rattle.prices.specs.Uploads.{upload_conditions, Taken}
use Rattle.prices.specs.UploadLaws.{taken_iff}
use Rattle.request_log.specs.Fields.{request_count, server_count_of}
use Rattle.request_log.specs.Conditions.{Accepted}
use Rattle.request_log.specs.AcceptedLaws.{accepted_sound}
use Rattle.request_log.specs.Contents.{cut}
use Rattle.request_log.specs.Cutting.{cut_accepted, cut_decodes, cut_count}
use Rattle.model.specs.LogRequests.{requests_in, rates_in}
use Rattle.model.proofs.LogRequestLaws.{log_rising, log_within, cut_alike, cut_prices}
use Rattle.model.proofs.Alike.{best_alike}
use Rattle.model.specs.Plan.{plan_cost, plan_rows}
use Rattle.model.proofs.PlanLaws.{plan_best}
use Rattle.model.specs.RowForm.{flat}
use Rattle.checker.specs.Answers.{check_answer}
use Rattle.planner.specs.Answers.{planned_rows, rows_of_plan, plan_verdict, planned, least_costs}
use Rattle.request_log.specs.ConditionLaws.{after_accepted}
use Rattle.guarantees.specs.CheckerAccepts.{schedule_accepted}
use Rattle.guarantees.specs.Optimality.{Optimal, optimal}
use Rattle.guarantees.specs.Demand3.{PlannedBest}
use Rattle.planner.specs.Outcome.{a_plan}

module _ (t : Tariff) (u : Option ℕ) (taken : Taken u) (log : List ℕ) (k : ℕ) (a : Accepted t log) (h : k ≤ request_count log) where
  part : List ℕ
  part = cut k log

  part_accepted : Accepted t part
  unfolding part
  part_accepted = cut_accepted t log k a h

  part_count : request_count part ≡ k
  unfolding part
  part_count = cut_count t log k a h

  part_best : Optimal (rates_in t u part) (server_count_of part) (requests_in part) k
  part_best =
      optimal (rates_in t u part) (server_count_of part) (requests_in part) k
      (rw part_count at (log_rising t part part_accepted))
      (rw part_count at (log_within t part part_accepted))

  part_rows : rows_of_plan t u part ≡ flat (plan_rows (rates_in t u part) (requests_in part) (server_count_of part) k)
  unfolding rows_of_plan planned_rows
  part_rows = rw part_count

  few : length (planned_rows t u part) ≤ 4096
  unfolding planned_rows
  few =
      let rows : length (plan_rows (rates_in t u part) (requests_in part) (server_count_of part) (request_count part)) ≤ 2 * k = rw part_count part_best.few in
      omega (arith, rows, (accepted_sound t log a).requests_most, h)

  checks : check_answer t u part (rows_of_plan t u part) ≡ Ok (plan_cost (rates_in t u part) (requests_in part) k)
  checks =
      let rows = plan_rows (rates_in t u part) (requests_in part) (server_count_of part) k in
      rw part_rows
      (schedule_accepted t u part rows part_accepted taken (rw part_count part_best.formed) (rw part_count part_best.feasible) ∙ ap Ok part_best.costs)

  answered : (marks rows : ℕ) → k ≤ marks → length (rows_of_plan t u part) ≤ rows → plan_verdict t u part marks rows ≡ Ok tt
  unfolding plan_verdict first
  answered marks rows l w =
      let room = short (request_count part) marks ∷ short (length (rows_of_plan t u part)) rows ∷ [] in
      after_accepted t part (upload_conditions u ++ room) part_accepted
      ∙ (first_append (upload_conditions u) room
      ∙ rw ((taken_iff u).1 taken, part_count, le-ltb marks k l, le-ltb rows (length (rows_of_plan t u part)) w))

  gives : (marks rows : ℕ) → k ≤ marks → length (rows_of_plan t u part) ≤ rows
      → planned (plan_verdict t u part marks rows) t u part ≡ a_plan (plan_cost (rates_in t u part) (requests_in part) k) (length (planned_rows t u part))
  unfolding planned
  gives marks rows l w = rw (answered marks rows l w, part_count)

  least_is : get_or (least_costs t u log) k 0 ≡ plan_cost (rates_in t u part) (requests_in part) k
  unfolding least_costs part
  least_is =
      build_at (suc (request_count log)) _ k 0 (omega arith)
      ∙ plan_best (rates_in t u log) (requests_in log) k
      ∙ sym (best_alike (requests_in part) (requests_in log) k (cut_alike t log k a h) (rates_in t u log) k k (omega arith))
      ∙ sym (plan_best (rates_in t u log) (requests_in part) k)
      ∙ rw (cut_prices t log k a h)

-- THE PLANNER'S HALF: for every tariff, a price file or the built-in table, every upload price that is taken, or none, and every log accepted with it
pub planned_best : (t : Tariff) (u : Option ℕ) → Taken u → (log : List ℕ) (k : ℕ) → Accepted t log → k ≤ request_count log → PlannedBest t u log k
unfolding part
planned_best t u taken log k a h =
    record {
      accepted = part_accepted t u taken log k a h;
      says = cut_decodes t log k a h;
      answered = answered t u taken log k a h;
      gives = gives t u taken log k a h;
      rows_are = part_rows t u taken log k a h;
      few = few t u taken log k a h;
      checks = checks t u taken log k a h;
      best = part_best t u taken log k a h;
      least_is = least_is t u taken log k a h;
    }
