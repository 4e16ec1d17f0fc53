-- The answer by the verdicts of the log, the upload price and the schedule, and the bounds of a cost that is answered.
use Rattle.std.specs.Prelude.{List, ◌++◌, ◌≡◌, ℕ, zero, suc, ◌≤◌, Ok}
use Rattle.std.proofs.Math.Option.{Option}
use Rattle.std.proofs.Common.{sym, ap, ◌∙◌, mul-le-mul, arith}
use Rattle.base.specs.Refusals.{first, otherwise}
use Rattle.base.specs.RefusalLaws.{first_append}
use Rattle.prices.specs.Tariff.{Tariff}
use Rattle.prices.specs.PriceLaws.{Priced}
use Rattle.prices.specs.Uploads.{upload_conditions}
use Rattle.request_log.specs.Fields.{server_count_of, request_count}
use Rattle.request_log.specs.Conditions.{verdict_of, Accepted}
use Rattle.request_log.specs.ConditionLaws.{after_log}
use Rattle.request_log.specs.Ranges.{Sound}
use Rattle.request_log.specs.AcceptedLaws.{accepted_sound}
use Rattle.model.specs.Rates.{rates, some?}
use Rattle.model.specs.Requests.{requests}
use Rattle.model.specs.LogRequests.{requests_in, prices_in, rates_in}
use Rattle.model.proofs.LogRequestLaws.{log_priced}
use Rattle.model.specs.RowForm.{rows_of}
use Rattle.model.specs.Checking.{schedule_conditions}
use Rattle.model.proofs.CheckingLaws.{accepts_iff}
use Rattle.model.proofs.CostBound.{hold_seconds, transfer_count, upload_count}
use Rattle.checker.specs.Answers.{check_conditions, check_verdict_of}
use Rattle.checker.specs.CostLaws.{SumsFit}
use Rattle.checker.specs.Quick.{schedule_tests}
use Rattle.checker.specs.QuickTests.{same_verdict}

-- the log's verdict where it refuses, else the upload price's, else the schedule's
pub verdict_parts : (t : Tariff) (u : Option ℕ) (log ns : List ℕ)
    → check_verdict_of t u log ns
    ≡ otherwise (verdict_of t log)
    (otherwise (first (upload_conditions u)) (first (schedule_conditions (rates_in t u log) (server_count_of log) (requests_in log) (request_count log) ns)))
unfolding check_verdict_of check_conditions
verdict_parts t u log ns =
    let own = schedule_conditions (rates_in t u log) (server_count_of log) (requests_in log) (request_count log) ns in
    after_log t log (upload_conditions u ++ own) ∙ ap (otherwise (verdict_of t log)) (first_append (upload_conditions u) own)

-- ---- bounds

-- the last second of an accepted log
last_most : (log : List ℕ) → Sound log → (k : ℕ) → k ≤ request_count log → (requests_in log).time k ≤ 4000000
unfolding requests_in requests
last_most log a zero l = omega arith
last_most log a (suc k) l = (a.in_order k l).second_most

-- the seconds held, the transfers and the uploads of accepted rows
pub sums_fit : (t : Tariff) (u : Option ℕ) (log ns : List ℕ) → verdict_of t log ≡ Ok tt → first (schedule_tests (some? u) log ns) ≡ Ok tt
    → SumsFit ns
unfolding Accepted rates
sums_fit t u log ns a e =
    let s = accepted_sound t log a in
    let count = server_count_of log in
    let last = (requests_in log).time (request_count log) in
    let p = rates_in t u log in
    let w = ((accepts_iff p count (requests_in log) (request_count log) ns).0 (sym (same_verdict log ns s p) ∙ e)).shaped in
    let c : count ≤ 64 = s.setup.servers_most in
    let l : last ≤ 4000000 = last_most log s (request_count log) (omega arith) in
    let t : suc last ≤ 4000001 = omega arith in (
      omega (arith, hold_seconds count last (request_count log) (rows_of ns) w, mul-le-mul c l),
      omega (arith, transfer_count count last (request_count log) (rows_of ns) w, mul-le-mul (mul-le-mul t c) c),
      omega (arith, upload_count count last (request_count log) (rows_of ns) w, mul-le-mul t c),
    )

-- the prices of an accepted log
pub prices_fit : (t : Tariff) → Priced t → (log : List ℕ) → verdict_of t log ≡ Ok tt → ((prices_in t log).hold ≤ 1000000) × ((prices_in t log).transfer ≤ 1000000)
unfolding Accepted
prices_fit t p log a = let r = log_priced t p log a in (r.hold_most, r.transfer_most)
