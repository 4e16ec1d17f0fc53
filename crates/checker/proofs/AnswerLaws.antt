-- The answer, where the log or the upload price is refused, and where both are accepted.
use Rattle.std.specs.Prelude.{List, ◌≡◌, ℕ, Ok, Err}
use Rattle.std.proofs.Math.Option.{Option}
use Rattle.base.specs.declared.Refusal.{Refusal}
use Rattle.base.specs.Refusals.{first, Verdict}
use Rattle.prices.specs.Tariff.{Tariff}
use Rattle.prices.specs.Uploads.{upload_conditions}
use Rattle.request_log.specs.Conditions.{verdict_of, Accepted}
use Rattle.request_log.specs.AcceptedLaws.{accepted_sound}
use Rattle.model.specs.Rates.{rates, some?}
use Rattle.model.specs.LogRequests.{rates_in}
use Rattle.model.specs.Checking.{check_cost}
use Rattle.checker.specs.Answers.{checked, check_answer}
use Rattle.checker.specs.Quick.{schedule_tests}
use Rattle.checker.specs.QuickTests.{same_verdict}
use Rattle.checker.specs.AnswerLaws.{verdict_parts}

-- a refused log
pub log_refused : (t : Tariff) (u : Option ℕ) (log ns : List ℕ) (r : Refusal) → verdict_of t log ≡ Err r → check_answer t u log ns ≡ Err r
unfolding check_answer checked
log_refused t u log ns r e = rw (verdict_parts t u log ns, e)

-- an accepted log, a refused upload price
pub price_refused : (t : Tariff) (u : Option ℕ) (log ns : List ℕ) (r : Refusal) → verdict_of t log ≡ Ok tt → first (upload_conditions u) ≡ Err r
    → check_answer t u log ns ≡ Err r
unfolding check_answer checked
price_refused t u log ns r a e = rw (verdict_parts t u log ns, a, e)

-- both accepted: what the code's conditions give
pub log_accepted : (t : Tariff) (u : Option ℕ) (log ns : List ℕ) (v : Verdict) → verdict_of t log ≡ Ok tt → first (upload_conditions u) ≡ Ok tt
    → first (schedule_tests (some? u) log ns) ≡ v → check_answer t u log ns ≡ checked v (check_cost (rates_in t u log) ns)
unfolding check_answer Accepted rates
log_accepted t u log ns v a p e = rw (verdict_parts t u log ns, a, p, ← same_verdict log ns (accepted_sound t log a) (rates_in t u log), e)
