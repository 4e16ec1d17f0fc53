-- What holds of each log that is met: those of an input, by any table.
use Rattle.std.specs.Prelude.{Bool, true, false, ◌≡◌, length, take, drop, Ok, Err}
use Rattle.base.specs.Refusals.{Verdict}
use mathlib.Core.List.{List, [], ◌∷◌}
use Rattle.std.proofs.Common.{inl, inr, sym, ap, ◌∙◌}
use Rattle.std.proofs.Math.Path.{refl}
use Prim.Native.Nat.{ℕ, zero, suc, ◌^◌, ◌≤◌, ◌<◌}
use native.Mathlib.Omega.{arith}
use Rattle.base.specs.Choice.{pick, same_or_not}
use Rattle.base.specs.declared.Refusal.{Refusal}
use Rattle.prices.specs.PriceLaws.{Priced}
use Rattle.prices.specs.Tariff.{Tariff, built_in}
use Rattle.request_log.specs.Fields.{total_length}
use Rattle.request_log.specs.Conditions.{Accepted, head_verdict, verdict_of}
use Rattle.request_log.specs.HeadLaws.{nine, head_refused, head_number, length_refused, late_refused}
use Rattle.live.specs.Live.{running_bill}
use Rattle.live.specs.LiveClaim.{bills, least_some, built_in_bills, least_most}
use Rattle.season.specs.Tallies.{Met}
use Rattle.season.specs.Tallies.{ends}
use Rattle.season.specs.TallyLaws.{Each, SmallLog, NumberedVerdict, FairLog}
use Rattle.season.specs.WorstLaws.{RatedLog}
use Rattle.season.specs.Met.{least_bill, met_as, looked_at, one_too_many, log_length, empty, met}
use Rattle.base.specs.Reasons.{number}

-- what holds of every log that is looked at, and of the one too many, holds of each log met
module _ (t : Tariff) (P : Met → Type 0) (looked : (s : List ℕ) → P (looked_at t s)) (beyond : P one_too_many) where
  or_none : (w : Bool) (ms : List Met) → Each P ms → Each P (pick w [] ms)
  or_none true ms e = tt
  or_none false ms e = e

  pub each_met : (k : ℕ) (s : List ℕ) → Each P (met t k s)
  unfolding met
  each_met zero s = or_none (empty s) (one_too_many ∷ []) (beyond, tt)
  each_met (suc k) s =
      let log = looked_at t (take (log_length s) s) in
      let rest = met t k (drop (log_length s) s) in
      or_none (empty s) (log ∷ pick (ends log.verdict) [] rest) (looked (take (log_length s) s), or_none (ends log.verdict) rest (each_met k (drop (log_length s) s)))

-- so many at most
few_or_none : (w : Bool) (ms : List Met) (k : ℕ) → length ms ≤ k → length (pick w [] ms) ≤ k
few_or_none true ms k h = omega arith
few_or_none false ms k h = h

pub met_few : (t : Tariff) (k : ℕ) (s : List ℕ) → length (met t k s) ≤ suc k
unfolding met
met_few t zero s = few_or_none (empty s) (one_too_many ∷ []) 1 (omega arith)
met_few t (suc k) s =
    let log = looked_at t (take (log_length s) s) in
    let rest = pick (ends log.verdict) [] (met t k (drop (log_length s) s)) in
    few_or_none (empty s) (log ∷ rest) (suc (suc k)) (omega (arith, few_or_none (ends log.verdict) (met t k (drop (log_length s) s)) (suc k) (met_few t k (drop (log_length s) s))))

-- ---- a log looked at, by its verdict

module _ (t : Tariff) where
  by_verdict : (P : Met → Type 0) (s : List ℕ) → (Accepted t s → P (met_as (Ok tt) t s)) → ((r : Refusal) → verdict_of t s ≡ Err r → P (met_as (Err r) t s)) → P (looked_at t s)
  unfolding looked_at Accepted
  by_verdict P s a b = go (verdict_of t s) refl
    where
      go : (v : Verdict) → verdict_of t s ≡ v → P (met_as v t s)
      go (Ok _) e = a e
      go (Err r) e = b r e

  -- its running cost is at least its least one, and at most three times that
  pub fair : Priced t → (s : List ℕ) → FairLog (looked_at t s)
  unfolding met_as least_bill one_too_many
  fair priced s = by_verdict FairLog s (λ a. let b = bills t priced s a in (b.no_less, b.no_more)) (λ r e. (omega arith, omega arith))

  -- with a request it costs something
  pub rated : Priced t → (s : List ℕ) → RatedLog (looked_at t s)
  unfolding met_as least_bill
  rated priced s = by_verdict RatedLog s (λ a n. least_some t priced s a (omega arith)) (λ r e n. absurd (n refl))

  -- refused, it has one of the numbers 1 to 13
  pub log_number : t.judged ≡ Ok tt → (s : List ℕ) (r : Refusal) → verdict_of t s ≡ Err r → number r.reason ≤ 13
  log_number j s r e = go (head_verdict t s) refl
    where
      go : (v : Verdict) → head_verdict t s ≡ v → number r.reason ≤ 13
      go (Err q) f = let z : Err q ≡ Err r = sym (head_refused t s q f) ∙ e in let y : q ≡ r = cc in omega (arith, (head_number t s q j f).1, ap (λ (x : Refusal). number x.reason) y)
      go (Ok _) f = elim (same_or_not (length s) (total_length s)) [
        | inl h ↦ (late_refused t s r f h e).1
        | inr h ↦ let z : Err nine ≡ Err r = sym (length_refused t s f h) ∙ e in let y : nine ≡ r = cc in omega (arith, ap (λ (x : Refusal). number x.reason) y)
      ]

  pub numbered : t.judged ≡ Ok tt → (s : List ℕ) → NumberedVerdict (looked_at t s).verdict
  unfolding met_as
  numbered j s = by_verdict (λ m. NumberedVerdict m.verdict) s (λ a. tt) (λ r e. omega (arith, log_number j s r e))

-- by the built-in table its costs have 32 bits
pub built_in_fits : (log : List ℕ) → Accepted built_in log → (least_bill built_in log < 2 ^ 32) × (running_bill built_in log < 2 ^ 32)
unfolding least_bill
built_in_fits log a = (least_most log a, built_in_bills log a)

pub small : (s : List ℕ) → SmallLog (looked_at built_in s)
unfolding met_as
small s = by_verdict built_in SmallLog s (λ a. built_in_fits s a) (λ r e. (omega arith, omega arith))
