-- Laws of the servers that hold over each gap of a marking.
use Rattle.std.specs.Prelude.{Bool, not, ◌⊎◌, ◌≡◌, ℕ, suc, pred, ◌≤◌, ◌<◌, leb, eqb}
use Rattle.std.proofs.Math.Bool.{true, false}
use Rattle.std.proofs.lemmas.Bool.{false≢true, not-true}
use Rattle.std.proofs.Common.{inl, inr, sym, ap, ◌∙◌, arith, lt-ltb, ltb-true, le-leb, leb-true, eq-eqb, eqb-true}
use Rattle.std.proofs.Math.Option.{Option, none, some}
use Rattle.std.proofs.Math.Path.{refl}
use Rattle.base.specs.Choice.{both, le_or_lt, true_or_false, not_both}
use Rattle.model.specs.Rates.{Rates}
use Rattle.model.specs.Requests.{Requests, previous, Within}
use Rattle.model.proofs.RequestLaws.{previous_some}
use Rattle.model.specs.Marking.{Mark, K, S, U, keeps, loads, begin, after, spans, covered, holds, Valid}
use Rattle.base.specs.ChoiceLaws.{both_true}
use Rattle.model.proofs.TestLaws.{any_true, any_has}
use Rattle.model.proofs.LegalLaws.{kept_from, sent_apart}

-- request i is kept, and its span, from `start`, lies over gap k
pub record Span (q : Requests) (m : ℕ → Mark) (i k : ℕ) : Type 0 where
  pub start : ℕ
  pub kept : m i ≡ K
  pub since : previous q i ≡ some start
  pub above : start < k
  pub upto : k ≤ i

module _ (q : Requests) (m : ℕ → Mark) where
  -- what the test of a span says
  pub spans_true : (i k : ℕ) → spans q m i k ≡ true → Span q m i k
  unfolding spans begin after keeps
  spans_true i k e = go (m i) (previous q i) refl refl
    where
      t : (leb k i ≡ true) × (after (begin q m i) k ≡ true)
      t = both_true (leb k i) (after (begin q m i) k) e

      go : (a : Mark) (o : Option ℕ) → m i ≡ a → previous q i ≡ o → Span q m i k
      go K none p r = absurd (false≢true (rw (p, r) at t.1))
      go K (some j) p r =
          record { start = j; kept = p; since = r; above = ltb-true j k (rw (p, r) at t.1); upto = leb-true k i t.0 }
      go S o p r = absurd (false≢true (rw p at t.1))
      go U o p r = absurd (false≢true (rw p at t.1))

  -- and the other way
  pub spans_over : (i k : ℕ) → Span q m i k → spans q m i k ≡ true
  unfolding spans begin after keeps
  spans_over i k s = rw (le-leb k i s.upto, s.kept, s.since) (lt-ltb s.start k s.above)

  module _ (n : ℕ) where
    -- why a server holds over gap k
    pub data Holder (k y : ℕ) : Type 0 where
      by_span : (i : ℕ) → 1 ≤ i → i ≤ n → q.server i ≡ y → Span q m i k → Holder k y
      by_gap : covered q m n k ≡ false → loads (m k) ≡ false → y ≡ q.server (pred k) → Holder k y

    -- it is for one of the two reasons
    pub holds_true : (k y : ℕ) → holds q m n k y ≡ true → Holder k y
    unfolding holds
    holds_true k y e = go (covered q m n k) refl
      where
        go : (b : Bool) → covered q m n k ≡ b → Holder k y
        go true c =
            let r = any_true n (λ i. both (eqb (q.server i) y) (spans q m i k)) (rw c at e) in
            let t = both_true (eqb (q.server r.0) y) (spans q m r.0 k) r.3 in
            by_span r.0 r.1 r.2 (eqb-true (q.server r.0) y t.0) (spans_true r.0 k t.1)
        go false c =
            let t = both_true (not (loads (m k))) (eqb y (q.server (pred k))) (rw c at e) in
            by_gap c (not-true (loads (m k)) t.0) (eqb-true y (q.server (pred k)) t.1)

    -- a kept request's server holds over every gap of its span
    pub span_held : (i k : ℕ) → 1 ≤ i → i ≤ n → Span q m i k → holds q m n k (q.server i) ≡ true
    unfolding holds covered
    span_held i k a b s =
        let t : both (eqb (q.server i) (q.server i)) (spans q m i k) ≡ true = rw (eq-eqb (q.server i) (q.server i) refl) (spans_over i k s) in
        rw (any_has n (λ l. spans q m l k) i a b (spans_over i k s)) (any_has n (λ l. both (eqb (q.server l) (q.server i)) (spans q m l k)) i a b t)

    -- over a gap that no span covers, unless it is before a U, the server of the earlier request holds
    pub open_held : (k : ℕ) → covered q m n k ≡ false → loads (m k) ≡ false → holds q m n k (q.server (pred k)) ≡ true
    unfolding holds
    open_held k c u = rw (c, u) (eq-eqb (q.server (pred k)) (q.server (pred k)) refl)

    -- each gap has a holder, unless it is before a U
    pub gap_held : (count : ℕ) → Within count q n → (k : ℕ) → 1 ≤ k → k ≤ n → loads (m k) ≡ false → (y : ℕ) × (y < count) × (holds q m n k y ≡ true)
    unfolding Within covered
    gap_held count w k a b u = go (true_or_false (covered q m n k))
      where
        go : (covered q m n k ≡ true) ⊎ (covered q m n k ≡ false) → (y : ℕ) × (y < count) × (holds q m n k y ≡ true)
        go (inl c) =
            let r = any_true n (λ i. spans q m i k) c in
            (q.server r.0, w r.0 r.2, span_held r.0 k r.1 r.2 (spans_true r.0 k r.3))
        go (inr c) = (q.server (pred k), w (pred k) (omega arith), open_held k c u)

    -- and each holder is below the count, as the servers of the requests are
    pub holder_below : (count : ℕ) → Within count q n → (k : ℕ) → 1 ≤ k → k ≤ n → (y : ℕ) → holds q m n k y ≡ true → y < count
    unfolding Within
    holder_below count w k a b y e = go (holds_true k y e)
      where
        go : Holder k y → y < count
        go (by_span i c d p s) = omega (arith, w i d)
        go (by_gap c u p) = omega (arith, w (pred k) (omega arith))

    -- a server that holds over gap k + 1, and not over gap k if there is one, is that of request k
    pub new_holder : (k y : ℕ) → holds q m n (suc k) y ≡ true → (1 ≤ k → holds q m n k y ≡ false) → y ≡ q.server k
    new_holder k y e f = go (holds_true (suc k) y e)
      where
        go : Holder (suc k) y → y ≡ q.server k
        go (by_gap c u p) = p
        go (by_span i a b p s) = elim (le_or_lt k s.start) [
          | inl h ↦
              (let z : s.start ≡ k = omega (arith, s.above) in
              sym p ∙ (sym (previous_some q i s.start s.since).there ∙ ap q.server z))
          | inr h ↦
              (let t : Span q m i k = record { start = s.start; kept = s.kept; since = s.since; above = h; upto = omega (arith, s.upto) } in
              absurd (not_both (rw p at (span_held i k a b t)) (f (omega arith))))
        ]

    -- a K request's server holds over the gap before it
    pub kept_held : (p : Rates) → Valid p q m n → (i : ℕ) → 1 ≤ i → i ≤ n → m i ≡ K → holds q m n i (q.server i) ≡ true
    kept_held p v i a b e =
        let j = kept_from p q i (rw e at (v i a b)) in
        span_held i i a b (record { start = j.0; kept = e; since = j.1; above = (previous_some q i j.0 j.1).below; upto = omega arith })

    -- an S request's server does not
    pub sent_unheld : (p : Rates) → Valid p q m n → (i : ℕ) → 1 ≤ i → i ≤ n → m i ≡ S → holds q m n i (q.server i) ≡ false
    sent_unheld p v i a b e = go (true_or_false (holds q m n i (q.server i)))
      where
        clash : Holder i (q.server i) → ⊥
        clash (by_gap c u z) = sent_apart p q i (rw e at (v i a b)) z
        clash (by_span l c d z s) = elim (le_or_lt l i) [
          | inl h ↦ (let f : i ≡ l = omega (arith, s.upto) in let t : m l ≡ S = rw f at e in let w : ◌≡◌ {A = ℕ} 0 1 = cc s.kept in omega arith)
          | inr h ↦ (previous_some q l s.start s.since).last i s.above h (sym z)
        ]

        go : (holds q m n i (q.server i) ≡ true) ⊎ (holds q m n i (q.server i) ≡ false) → holds q m n i (q.server i) ≡ false
        go (inl t) = absurd (clash (holds_true i (q.server i) t))
        go (inr t) = t
