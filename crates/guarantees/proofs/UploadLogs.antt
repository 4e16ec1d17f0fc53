-- The same of the least costs of a log.
use Rattle.std.specs.Prelude.{ℕ, ◌≤◌, get_or}
use mathlib.Core.List.{List}
use Rattle.std.proofs.Common.{arith}
use Rattle.std.proofs.Math.Option.{none, some}
use Rattle.prices.specs.Tariff.{Tariff}
use Rattle.prices.specs.Uploads.{Taken}
use Rattle.request_log.specs.Fields.{request_count, server_count_of}
use Rattle.request_log.specs.Conditions.{Accepted}
use Rattle.request_log.specs.Contents.{cut}
use Rattle.request_log.specs.Cutting.{cut_count}
use Rattle.model.specs.LogRequests.{requests_in, prices_in}
use Rattle.model.proofs.LogRequestLaws.{log_rising, log_within}
use Rattle.planner.specs.Answers.{least_costs}
use Rattle.guarantees.proofs.Demand3.{planned_best}
use Rattle.guarantees.proofs.Uploads.{no_dearer}

-- so for every accepted log, after each of its requests
pub least_no_dearer : (t : Tariff) (y : ℕ) → Taken (some y) → (log : List ℕ) (k : ℕ) → Accepted t log → k ≤ request_count log
    → get_or (least_costs t (some y) log) k 0 ≤ get_or (least_costs t none log) k 0
least_no_dearer t y taken log k a h =
    let part = cut k log in
    let with_uploads = planned_best t (some y) taken log k a h in
    let without = planned_best t none tt log k a h in
    omega (
      arith,
      with_uploads.least_is,
      without.least_is,
      no_dearer (prices_in t part) y (server_count_of part) (requests_in part) k
          (rw (cut_count t log k a h) at (log_rising t part without.accepted))
          (rw (cut_count t log k a h) at (log_within t part without.accepted)),
    )
