-- An input longer than any log is refused as its first bytes are, one more than the longest log has.
use Rattle.std.specs.Prelude.{List, ◌⊎◌, ◌≡◌, refl, ℕ, ◌≤◌, ◌<◌, length, take, Ok, Err}
use Rattle.base.specs.Refusals.{Verdict}
use Rattle.std.proofs.Common.{inl, inr, sym, ap, ◌∙◌, arith, get_or-take, length-take-le, take_all}
use Rattle.base.specs.Choice.{le_or_lt}
use Rattle.base.specs.declared.Refusal.{Refusal}
use Rattle.prices.specs.Tariff.{Tariff}
use Rattle.request_log.specs.Sizes.{log_limit}
use Rattle.request_log.specs.Fields.{length_for}
use Rattle.request_log.specs.Conditions.{head_verdict, verdict_of}
use Rattle.request_log.specs.HeadLaws.{headed, head_same, nine, head_refused, length_refused}

-- a longer input is refused, and so are its first bytes, alike
long_refused : (t : Tariff) (s : List ℕ) → log_limit ≤ length s → (r : Refusal) × (verdict_of t (take log_limit s) ≡ Err r) × (verdict_of t s ≡ Err r)
unfolding log_limit length_for
long_refused t s h = go (head_verdict t s) refl
  where
    front : List ℕ
    front = take log_limit s

    long : length front ≡ log_limit
    long = length-take-le log_limit s h

    same : head_verdict t front ≡ head_verdict t s
    same = head_same t s front (omega arith) (omega (arith, long)) (λ k l. get_or-take log_limit s k 0 (omega arith))

    go : (v : Verdict) → head_verdict t s ≡ v → (r : Refusal) × (verdict_of t front ≡ Err r) × (verdict_of t s ≡ Err r)
    go (Ok _) e =
        let f = headed t front (same ∙ e) in
        let g = headed t s e in
        (nine, length_refused t front (same ∙ e) (λ z. omega (arith, long, f.few, f.total_is)), length_refused t s e (λ z. omega (arith, g.few, g.total_is)))
    go (Err r) e = (r, head_refused t front r (same ∙ e), head_refused t s r e)

-- so where a refused input is answered by its refusal alone, an input is answered as its first bytes are
pub enough : {A : Type 0} (t : Tariff) (answer : List ℕ → A) (line : Refusal → A)
    → ((s : List ℕ) (r : Refusal) → verdict_of t s ≡ Err r → answer s ≡ line r) → (s : List ℕ) → answer (take log_limit s) ≡ answer s
enough t answer line refused s = go (le_or_lt (length s) log_limit)
  where
    go : (length s ≤ log_limit) ⊎ (log_limit < length s) → answer (take log_limit s) ≡ answer s
    go (inl h) = ap answer (take_all log_limit s h)
    go (inr h) = let (r, p, q) = long_refused t s (omega arith) in refused (take log_limit s) r p ∙ sym (refused s r q)
