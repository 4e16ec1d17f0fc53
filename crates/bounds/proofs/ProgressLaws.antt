-- A state that keeps pace with the calls refuses what the calls alone say, and 32 is no call's verdict.
use Rattle.std.specs.Prelude.{false, not, ◌⊎◌, ◌≢◌, ◌≡◌, refl, ℕ, leb, ltb, eqb, Ok, Err}
use Rattle.base.specs.declared.reasons.Reason.TheVariants as reason
use mathlib.Core.List.Memᴰ
use mathlib.Core.List.{List, [], ◌∷◌, Memᴰ}
use Rattle.std.proofs.Common.{inl, inr, sym, ap, ◌∙◌, arith}
use Rattle.std.proofs.lemmas.Bool.{not-false}
use Rattle.base.specs.Choice.{either}
use Rattle.base.specs.Lists.{same}
use Rattle.base.specs.SameLaws.{same_equal}
use Rattle.base.specs.Refusals.{Condition, refuse, first, otherwise, Never, Verdict}
use Rattle.base.specs.NumberLaws.{empty, other, first_never}
use Rattle.base.specs.RefusalLaws.{first_append, first_failed, first_passed}
use Rattle.base.specs.declared.Refusal.{Refusal}
use Rattle.request_log.specs.declared.Header.{Header}
use Rattle.online.specs.declared.Cache.{Cache}
use Rattle.online.specs.Conditions.{broken, scan_conditions, close_conditions}
use Rattle.online.specs.Answers.{scan_verdict, close_verdict}
use Rattle.bounds.specs.Calls.{Call, scan, close, verdict, Request}
use Rattle.bounds.specs.Progress.{Progress, call_conditions, due, advanced, with_request, dues, taken}
use Rattle.base.specs.Reasons.{number}

-- a state says what was taken so far, and 32 does not hold of it
pub record InPace (s : Header) (c : Cache) (p : Progress) : Type 0 where
  pub id_is : c.id ≡ s.id
  pub count_is : c.server_count ≡ s.server_count
  pub second_is : c.second ≡ p.second
  pub requests_are : c.requests ≡ p.taken
  pub closed_is : c.closed ≡ p.closed
  pub unbroken : broken c ≡ false

-- so its verdict is the one that the calls alone give
pub verdict_due : (s : Header) (c : Cache) (p : Progress) → InPace s c p → (a : Call) → verdict c a ≡ due s p a
unfolding verdict due scan_verdict close_verdict scan_conditions close_conditions call_conditions
verdict_due s c p k (scan id second server) =
    rw (← k.id_is, ← k.count_is, ← k.second_is, ← k.requests_are, ← k.closed_is)
    (first_append own (refuse reason.BrokenState 0 (broken c) ∷ state)
    ∙ ap (λ (v : Verdict). otherwise (first own) v) (first_failed (refuse reason.BrokenState 0 (broken c)) state k.unbroken)
    ∙ sym (first_append own state))
  where
    own : List Condition
    own = refuse reason.UnknownServer 0 (leb c.server_count server) ∷ refuse reason.SecondRange 0 (either (eqb second 0) (ltb 4000000 second)) ∷ []

    state : List Condition
    state =
        refuse reason.Closed 0 c.closed
        ∷ refuse reason.OtherFile 0 (not (same id c.id))
        ∷ refuse reason.Full 0 (leb 2048 c.requests)
        ∷ refuse reason.PastSecond 0 (leb second c.second)
        ∷ []
verdict_due s c p k close =
    rw (← k.closed_is) (first_failed (refuse reason.BrokenState 0 (broken c)) (refuse reason.Closed 0 c.closed ∷ []) k.unbroken)

-- which is never 32
due_not_32 : (s : Header) (p : Progress) (a : Call) → Never 32 (due s p a)
unfolding due call_conditions
due_not_32 s p (scan id τ y) =
    first_never 32 (call_conditions s p (scan id τ y))
    (other (λ z. omega arith)
    (other (λ z. omega arith)
    (other (λ z. omega arith)
    (other (λ z. omega arith)
    (other (λ z. omega arith)
    (other (λ z. omega arith) empty))))))
due_not_32 s p close = first_never 32 (call_conditions s p close) (other (λ z. omega arith) empty)

-- nor is it among those of a list
pub never_32 : (s : Header) (p : Progress) (calls : List Call) (x : Refusal) → Memᴰ (Err x) (dues s p calls) → number x.reason ≢ 32
unfolding dues
never_32 s p [] x m = absurd (Memᴰ.not-nil m)
never_32 s p (a ∷ calls) x m = go (Memᴰ.cases_cons m) (never_32 s (advanced (due s p a) a p) calls x)
  where
    go : (Err x ≡ due s p a) ⊎ Memᴰ (Err x) (dues s (advanced (due s p a) a p) calls)
        → (Memᴰ (Err x) (dues s (advanced (due s p a) a p) calls) → number x.reason ≢ 32) → number x.reason ≢ 32
    go (inl e) ih = due_not_32 s p a x (sym e)
    go (inr k) ih = ih k

-- a scan that the calls alone do not refuse came with the start's id
pub due_own : (s : Header) (p : Progress) (id : List ℕ) (τ y : ℕ) → due s p (scan id τ y) ≡ Ok tt → id ≡ s.id
unfolding due call_conditions
due_own s p id τ y e = same_equal id s.id (not-false _ ((first_passed (call_conditions s p (scan id τ y))).0 e 3))

-- so did each request taken
pub taken_own : (s : Header) (p : Progress) (calls : List Call) (r : Request) → Memᴰ r (taken s p calls) → r.id ≡ s.id
unfolding taken with_request
taken_own s p [] r m = absurd (Memᴰ.not-nil m)
taken_own s p (a ∷ calls) r m = go a (due s p a) refl m (taken_own s (advanced (due s p a) a p) calls r)
  where
    later : List Request
    later = taken s (advanced (due s p a) a p) calls

    go : (b : Call) (v : Verdict) → due s p b ≡ v → Memᴰ r (with_request v b later) → (Memᴰ r later → r.id ≡ s.id) → r.id ≡ s.id
    go (scan id τ y) (Ok _) e k ih = first_or_later (Memᴰ.cases_cons k)
      where
        first_or_later : (r ≡ record { id = id; second = τ; server = y }) ⊎ Memᴰ r later → r.id ≡ s.id
        first_or_later (inl z) = ap (λ (x : Request). x.id) z ∙ due_own s p id τ y e
        first_or_later (inr l) = ih l
    go close (Ok _) e k ih = ih k
    go b (Err x) e k ih = ih k
