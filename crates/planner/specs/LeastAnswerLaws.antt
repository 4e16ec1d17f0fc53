-- The least costs that are written for a log are those that it has.
use Rattle.std.specs.Prelude.{List, [], ◌∷◌, ◌++◌, ◌≡◌, refl, ℕ, suc, ◌≤◌, ◌<◌, length, drop, Ok, Err, Result}
use Rattle.std.proofs.Math.Option.{Option}
use Rattle.std.proofs.Common.{sym, ap, ◌∙◌, arith, ext_get_or, lt-ltb, le-ltb}
use Rattle.std.proofs.lemmas.Bool.{ltb-false}
use Rattle.base.specs.Lists.{build, build_length, build_at, cleared}
use Rattle.base.specs.Lent.{lent}
use Rattle.base.specs.LentLaws.{lent_front}
use Rattle.base.specs.Refusals.{first, short, otherwise, Verdict}
use Rattle.base.specs.RefusalLaws.{first_met, first_failed, first_passed}
use Rattle.base.specs.declared.reasons.Reason.TheVariants as reason
use Rattle.base.specs.declared.Refusal.{Refusal}
use Rattle.prices.specs.Tariff.{Tariff}
use Rattle.request_log.specs.Fields.{request_count}
use Rattle.model.specs.Rates.{Rates}
use Rattle.model.specs.Requests.{Requests}
use Rattle.model.specs.Plan.{plan_cost}
use Rattle.model.proofs.PlanLaws.{plan_best}
use Rattle.model.proofs.TableLists.{lists, lists_length, lists_costs}
use Rattle.model.specs.LogRequests.{requests_in, rates_in}
use Rattle.planner.specs.declared.requests.Summary.{Summary}
use Rattle.planner.specs.Answers.{least_costs, least_verdict, least_answer, costs_left}
use Rattle.planner.specs.LeastAnswer.{costs_answer}
use Rattle.planner.specs.Loading.{offer_verdict, summary_of}
use Rattle.planner.specs.SummaryLaws.{offer_parts}

-- the table's C is the least cost of each number of requests
pub lists_least : (p : Rates) (q : Requests) (n : ℕ) → (lists p q n).costs ≡ build (suc n) (λ k. plan_cost p q k)
lists_least p q n =
    ext_get_or 0 (lists p q n).costs (build (suc n) (λ k. plan_cost p q k)) ((lists_length p q n).0 ∙ sym (build_length (suc n) (λ k. plan_cost p q k)))
    (λ k h.
    let l : k < suc n = omega (arith, lists_length p q n) in
    lists_costs p q n k (omega arith) ∙ sym (plan_best p q k) ∙ sym (build_at (suc n) (λ k. plan_cost p q k) k 0 l))

-- 31 or not, by the room for the costs of n requests
pub no_room : (n : ℕ) (o : List ℕ) → length o < suc n → first (short (suc n) (length o) ∷ []) ≡ Err (record { reason = reason.ShortOutput; place = suc n })
no_room n o h = first_met (short (suc n) (length o)) [] (lt-ltb (length o) (suc n) h)

pub room : (n : ℕ) (o : List ℕ) → suc n ≤ length o → first (short (suc n) (length o) ∷ []) ≡ Ok tt
unfolding first
room n o h = first_failed (short (suc n) (length o)) [] (le-ltb (length o) (suc n) h)

-- there is room for the costs of n requests where 31 does not refuse them
pub roomy : (n : ℕ) (o : List ℕ) → first (short (suc n) (length o) ∷ []) ≡ Ok tt → suc n ≤ length o
roomy n o e = ltb-false (length o) (suc n) ((first_passed (short (suc n) (length o) ∷ [])).0 e 0)

-- the costs at the front, zeroed beyond
pub costs_lent : (p : Rates) (q : Requests) (n : ℕ) (o : List ℕ) → suc n ≤ length o
    → cleared (suc n) ((lists p q n).costs ++ drop (suc n) o) ≡ lent (Ok tt) (lists p q n).costs o
costs_lent p q n o h = lent_front (lists p q n).costs o (suc n) (lists_length p q n).0 h

-- the answer for a log, and what the lent list holds at the end
abbrev pub LeastSo : Tariff → Option ℕ → List ℕ → List ℕ → Result ℕ Refusal → List ℕ → Type 0
LeastSo t u log costs r costs' = (r ≡ least_answer (least_verdict t u log (length costs)) log) × (costs' ≡ costs_left t u log costs)

-- the verdict by the log's and the upload price's, and by the length of the lent list
least_parts : (t : Tariff) (u : Option ℕ) (log costs : List ℕ)
    → least_verdict t u log (length costs) ≡ otherwise (offer_verdict t u log) (first (short (suc (request_count log)) (length costs) ∷ []))
unfolding least_verdict
least_parts t u log costs = offer_parts t u log (short (suc (request_count log)) (length costs) ∷ [])

-- a refused log or upload price
pub least_refused : (t : Tariff) (u : Option ℕ) (log costs : List ℕ) (e : Refusal) (r : Result ℕ Refusal) → offer_verdict t u log ≡ Err e → r ≡ costs_answer (Err e) 0
    → LeastSo t u log costs r costs
unfolding least_answer lent costs_answer
least_refused t u log costs e r v a =
    let w : least_verdict t u log (length costs) ≡ Err e = least_parts t u log costs ∙ rw v in
    (rw w a, rw w)

-- an answer by a verdict
answer_least : (v : Verdict) (log : List ℕ) → costs_answer v (request_count log) ≡ least_answer v log
unfolding costs_answer least_answer
answer_least (Ok _) log = refl
answer_least (Err e) log = refl

-- an accepted one, by its requests as they were read and what its plan is billed by
pub least_accepted : (t : Tariff) (u : Option ℕ) (log costs : List ℕ) → offer_verdict t u log ≡ Ok tt → (s : Summary) → s ≡ summary_of t u log
    → (q : Requests) → q ≡ requests_in log → (p : Rates) → p ≡ rates_in t u log → (r : Result ℕ Refusal) (costs' : List ℕ)
    → r ≡ costs_answer (first (short (suc s.requests) (length costs) ∷ [])) s.requests
    → costs' ≡ lent (first (short (suc s.requests) (length costs) ∷ [])) (lists p q s.requests).costs costs
    → LeastSo t u log costs r costs'
unfolding least_costs summary_of
least_accepted t u log costs ok s e q f p g r costs' a b =
    let v : first (short (suc (request_count log)) (length costs) ∷ []) ≡ least_verdict t u log (length costs) = sym (least_parts t u log costs ∙ rw ok) in (
      a ∙ rw (e, v) (answer_least (least_verdict t u log (length costs)) log),
      b ∙ rw (e, f, g, v) (ap (λ (x : List ℕ). lent (least_verdict t u log (length costs)) x costs) (lists_least (rates_in t u log) (requests_in log) (request_count log))),
    )
