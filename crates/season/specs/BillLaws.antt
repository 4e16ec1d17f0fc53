-- What the planner and the online cache answer for a log, as the code takes it: its verdict, and the costs of an accepted one.
use Rattle.std.specs.Prelude.{Result, List, ◌++◌, ◌≡◌, refl, ℕ, suc, ◌-◌, ◌<◌, length, get_or, replicate, Ok, Err}
use Rattle.std.specs.Result.{result_unwrap_or}
use Rattle.base.specs.Refusals.{Verdict}
use Rattle.std.proofs.Math.Option.{none}
use Rattle.std.proofs.Common.{◌∙◌, arith, length-append}
use Rattle.std.proofs.lemmas.List.{length-replicate}
use Rattle.std.proofs.Math.ListN.{get_or-append}
use Rattle.base.specs.Lent.{lent}
use Rattle.base.specs.Lists.{build, build_at, build_length}
use Rattle.base.specs.declared.Refusal.{Refusal}
use Rattle.prices.specs.PriceFile.{built_in_bytes}
use Rattle.prices.specs.PriceLaws.{classes_ranged}
use Rattle.prices.specs.FileLaws.{built_in_file}
use Rattle.prices.specs.Tariff.{built_in, price_file}
use Rattle.request_log.specs.Fields.{request_count}
use Rattle.request_log.specs.Conditions.{Accepted, verdict_of}
use Rattle.request_log.specs.AcceptedLaws.{accepted_sound}
use Rattle.model.specs.LogRequests.{requests_in, rates_in}
use Rattle.model.specs.Plan.{plan_cost}
use Rattle.planner.specs.Sizes.{places}
use Rattle.planner.specs.Answers.{least_costs, least_verdict, least_answer, costs_left}
use Rattle.planner.specs.RoomLaws.{least_roomy}
use Rattle.online.specs.Answers.{running_answer}
use Rattle.live.specs.Live.{running_bill, state_of}
use Rattle.live.specs.LiveClaim.{running_answered}
use Rattle.season.specs.Met.{least_bill, met_as, looked_at}

-- the cost that is answered; none where it is refused
unfoldable pub cost_answered : Result ℕ Refusal → ℕ
cost_answered (Ok cost) = cost
cost_answered (Err r) = 0

-- as the code takes it
pub cost_taken : (answer : Result ℕ Refusal) → result_unwrap_or answer 0 ≡ cost_answered answer
unfolding cost_answered
cost_taken (Ok cost) = refl
cost_taken (Err r) = refl

-- the online cache's, by the built-in table as a file
pub running_found : (file log : List ℕ) → file ≡ built_in_bytes → Accepted built_in log → cost_answered (running_answer (state_of (price_file file) log)) ≡ running_bill built_in log
unfolding cost_answered
running_found file log e a = rw (built_in_file file e, running_answered built_in (λ p. classes_ranged) log a)

-- the planner refuses as the log is refused
pub least_refused : (log : List ℕ) (r : Refusal) → least_answer (least_verdict built_in none log places) log ≡ Err r → looked_at built_in log ≡ met_as (Err r) built_in log
unfolding least_answer looked_at
least_refused log r e = go (verdict_of built_in log) (least_roomy built_in log)
  where
    go : (v : Verdict) → least_verdict built_in none log places ≡ v → met_as v built_in log ≡ met_as (Err r) built_in log
    go (Ok _) f = let z : Ok (suc (request_count log)) ≡ Err r = rw f at e in absurd (let z : ◌≡◌ {A = ℕ} 0 1 = cc in omega arith)
    go (Err q) f = let z : Err q ≡ Err r = rw f at e in let y : q ≡ r = cc in rw y

-- else it is accepted
pub least_accepted : (log : List ℕ) (n : ℕ) → least_answer (least_verdict built_in none log places) log ≡ Ok n → Accepted built_in log
unfolding least_answer Accepted
least_accepted log n e = go (verdict_of built_in log) (least_roomy built_in log)
  where
    go : (v : Verdict) → least_verdict built_in none log places ≡ v → v ≡ Ok tt
    go (Ok _) f = refl
    go (Err q) f = let z : Err q ≡ Ok n = rw f at e in absurd (let z : ◌≡◌ {A = ℕ} 0 1 = cc in omega arith)

-- and the last of its least costs is that of all its requests
pub record Found (log costs : List ℕ) : Type 0 where
  pub there : request_count log < length costs
  pub last : get_or costs (request_count log) 0 ≡ least_bill built_in log

pub least_found : (log costs costs' : List ℕ) → Accepted built_in log → length costs ≡ places → costs' ≡ costs_left built_in none log costs → Found log costs'
unfolding lent least_costs least_bill Accepted
least_found log costs costs' a l e =
    let n = request_count log in
    let few = (accepted_sound built_in log a).requests_most in
    let v : least_verdict built_in none log (length costs) ≡ (Ok tt) = rw l (least_roomy built_in log ∙ a) in
    let xs = build (suc n) (λ k. plan_cost (rates_in built_in none log) (requests_in log) k) in
    let long : length xs ≡ suc n = build_length (suc n) _ in
    let f : costs' ≡ xs ++ replicate (length costs - length xs) 0 = rw v at e in
    record {
      there = rw f (simp (length-append, length-replicate) (omega (arith, long)));
      last = rw f (get_or-append xs _ 0 n (omega (arith, long)) ∙ build_at (suc n) _ n 0 (omega arith));
    }

-- an accepted log is met with its costs
pub accepted_met : (log : List ℕ) → Accepted built_in log → looked_at built_in log ≡ met_as (Ok tt) built_in log
unfolding looked_at Accepted
accepted_met log a = rw a
