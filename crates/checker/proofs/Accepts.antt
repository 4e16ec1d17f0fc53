-- The checker answers a cost if and only if the log and the upload price are accepted, the rows are accepted for the log, and that is their cost.
use Rattle.std.specs.Prelude.{List, ◌↔◌, ◌≡◌, refl, ℕ, Ok, Err}
use Rattle.std.proofs.Math.Option.{Option}
use Rattle.std.proofs.Common.{sym, ◌∙◌, arith}
use Rattle.base.specs.Refusals.{first, Verdict}
use Rattle.base.specs.RefusalLaws.{otherwise_passed}
use Rattle.prices.specs.Tariff.{Tariff}
use Rattle.prices.specs.Uploads.{upload_conditions}
use Rattle.request_log.specs.Fields.{server_count_of, request_count}
use Rattle.request_log.specs.Conditions.{verdict_of}
use Rattle.request_log.specs.Conditions as logs
use Rattle.model.specs.LogRequests.{requests_in, rates_in}
use Rattle.model.specs.Checking.{schedule_conditions, check_cost, Scheduled}
use Rattle.model.proofs.CheckingLaws.{accepts_iff}
use Rattle.checker.specs.Answers.{check_verdict_of, checked, check_answer, Answered}
use Rattle.checker.specs.AnswerLaws.{verdict_parts}

-- a cost is answered where the verdict passed
cost_passed : (w : Verdict) (c v : ℕ) → checked w c ≡ Ok v → (w ≡ Ok tt) × (v ≡ c)
unfolding checked
cost_passed (Ok _) c v e = (refl, let d : v ≡ c = cc in d)
cost_passed (Err r) c v e = let z : ◌≡◌ {A = ℕ} 0 1 = cc in absurd (omega arith)

-- it is answered if and only if this holds
pub answers_cost : (t : Tariff) (u : Option ℕ) (log ns : List ℕ) (v : ℕ) → (check_answer t u log ns ≡ Ok v) ↔ Answered t u log ns v
unfolding check_answer checked logs.Accepted
answers_cost t u log ns v = (to, from)
  where
    scheduled : (first (schedule_conditions (rates_in t u log) (server_count_of log) (requests_in log) (request_count log) ns) ≡ Ok tt)
        ↔ Scheduled (rates_in t u log) (server_count_of log) (requests_in log) (request_count log) ns
    scheduled = accepts_iff (rates_in t u log) (server_count_of log) (requests_in log) (request_count log) ns

    to : checked (check_verdict_of t u log ns) (check_cost (rates_in t u log) ns) ≡ Ok v → Answered t u log ns v
    to e =
        let (p, c) = cost_passed (check_verdict_of t u log ns) (check_cost (rates_in t u log) ns) v e in
        let (a, r) = otherwise_passed (verdict_of t log) _ (sym (verdict_parts t u log ns) ∙ p) in
        let (b, d) = otherwise_passed (first (upload_conditions u)) _ r in
        record { log_accepted = a; price_accepted = b; rows_accepted = scheduled.0 d; cost_is = c }

    from : Answered t u log ns v → checked (check_verdict_of t u log ns) (check_cost (rates_in t u log) ns) ≡ Ok v
    from h = rw (verdict_parts t u log ns, h.log_accepted, h.price_accepted, scheduled.1 h.rows_accepted, h.cost_is)
