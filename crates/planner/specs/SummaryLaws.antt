-- What a loaded log tells: its verdict, and lists that are ready for the table.
use Rattle.std.specs.Prelude.{List, ◌++◌, ◌≡◌, refl, ℕ, Ok, Err, Result}
use Rattle.std.proofs.Math.Option.{Option}
use Rattle.std.proofs.Math.Path.{ap}
use Rattle.std.proofs.Common.{ap₂, ◌∙◌, arith}
use Rattle.base.specs.Lent.{lent}
use Rattle.base.specs.Refusals.{Condition, first, otherwise, Verdict}
use Rattle.base.specs.RefusalLaws.{first_append, otherwise_assoc, otherwise_passed}
use Rattle.base.specs.declared.Refusal.{Refusal}
use Rattle.prices.specs.Tariff.{Tariff}
use Rattle.prices.specs.PriceLaws.{Priced}
use Rattle.prices.specs.Uploads.{upload_conditions}
use Rattle.request_log.specs.Fields.{server_count_of, request_count}
use Rattle.request_log.specs.Conditions.{log_conditions, verdict_of, Accepted}
use Rattle.request_log.specs.ConditionLaws.{after_log}
use Rattle.model.specs.Requests.{Within}
use Rattle.model.specs.LogRequests.{requests_in, prices_in, rates_in}
use Rattle.model.specs.Rates.{Rates}
use Rattle.model.proofs.LogRequestLaws.{log_within}
use Rattle.planner.specs.declared.requests.Summary.{Summary}
use Rattle.planner.specs.Asked.{asks}
use Rattle.planner.specs.Fees.{rated}
use Rattle.planner.specs.FeeLaws.{fees_rated}
use Rattle.planner.specs.Fits.{Ready}
use Rattle.planner.specs.Loading.{seconds_with_home, servers_with_home, links, offer_verdict, summary_of, loaded}
use Rattle.planner.specs.LoadedLaws.{lent_requests, lent_ready}

-- the conditions of a call with an upload price: those before its own, and its own
pub offer_parts : (t : Tariff) (u : Option ℕ) (log : List ℕ) (own : List Condition)
    → otherwise t.judged (first (log_conditions t.table log ++ (upload_conditions u ++ own))) ≡ otherwise (offer_verdict t u log) (first own)
unfolding offer_verdict
offer_parts t u log own =
    after_log t log (upload_conditions u ++ own)
    ∙ ap (otherwise (verdict_of t log)) (first_append (upload_conditions u) own)
    ∙ otherwise_assoc (verdict_of t log) (first (upload_conditions u)) (first own)

-- a log that is loaded passed
pub loaded_log : (v : Verdict) (s₀ : Summary) (x : Result Summary Refusal) (s : Summary) → x ≡ loaded v s₀ → x ≡ Ok s → (v ≡ Ok tt) × (s ≡ s₀)
unfolding loaded
loaded_log (Ok _) s₀ x s e f = (refl, cc)
loaded_log (Err r) s₀ x s e f = absurd (let z : ◌≡◌ {A = ℕ} 0 1 = cc in omega arith)

-- one that is not is refused
pub loaded_refused : (v : Verdict) (s₀ : Summary) (x : Result Summary Refusal) (r : Refusal) → x ≡ loaded v s₀ → x ≡ Err r → v ≡ Err r
unfolding loaded
loaded_refused (Ok _) s₀ x r e f = absurd (let z : ◌≡◌ {A = ℕ} 0 1 = cc in omega arith)
loaded_refused (Err r') s₀ x r e f = cc

-- where both passed, the log and the upload price are accepted
pub offer_passed : (t : Tariff) (u : Option ℕ) (log : List ℕ) → offer_verdict t u log ≡ Ok tt → Accepted t log × (first (upload_conditions u) ≡ Ok tt)
unfolding offer_verdict Accepted
offer_passed t u log e = otherwise_passed (verdict_of t log) (first (upload_conditions u)) e

-- what its plan is billed by
pub summary_rates : (t : Tariff) (u : Option ℕ) (log : List ℕ) (s : Summary) → first (upload_conditions u) ≡ Ok tt → s ≡ summary_of t u log
    → rated s.fees ≡ rates_in t u log
unfolding summary_of
summary_rates t u log s offer e = ap (λ (x : Summary). rated x.fees) e ∙ fees_rated (prices_in t log) u

module _ (t : Tariff) (log : List ℕ) (ok : Accepted t log) (o₁ o₂ x y : List ℕ)
    (e : x ≡ lent (verdict_of t log) (seconds_with_home log) o₁) (f : y ≡ lent (verdict_of t log) (servers_with_home log) o₂) where
  passed : (l o : List ℕ) → lent (verdict_of t log) l o ≡ lent (Ok tt) l o
  unfolding Accepted
  passed l o = ap (λ (v : Verdict). lent v l o) ok

  -- the loaded lists hold its requests
  pub setup_requests : asks x y ≡ requests_in log
  setup_requests = ap₂ asks (e ∙ passed (seconds_with_home log) o₁) (f ∙ passed (servers_with_home log) o₂) ∙ lent_requests t log ok o₁ o₂ o₂

  -- at servers below its server count
  pub setup_within : Within (server_count_of log) (asks x y) (request_count log)
  setup_within = rw setup_requests (log_within t log ok)

  -- and are ready
  pub summary_ready : Priced t → (u : Option ℕ) → first (upload_conditions u) ≡ Ok tt → (p : Rates) → p ≡ rates_in t u log → (o₃ z : List ℕ) (s : Summary)
      → z ≡ lent (verdict_of t log) (links (servers_with_home log) (request_count log)) o₃ → s ≡ summary_of t u log → Ready p x y z s.requests
  unfolding summary_of
  summary_ready priced u offer p i o₃ z s g h =
      rw (i, h, e, f, g, passed (seconds_with_home log) o₁, passed (servers_with_home log) o₂, passed (links (servers_with_home log) (request_count log)) o₃)
      (lent_ready t log ok o₁ o₂ o₃ priced u offer)
