-- The words are right: server y is a member of the word of gap k if and only if it holds over gap k.
use Rattle.std.specs.Prelude.{Bool, true, false, not, ◌⊎◌, ◌≢◌, ◌≡◌, ltb, eqb}
use Rattle.std.proofs.Math.Logic.{inl, inr}
use Rattle.std.proofs.Math.Path.{refl}
use Rattle.std.proofs.Common.{sym, ap, ◌∙◌, lt-ltb, ltb-true, eq-eqb, ne_eqb, eqb-true}
use native.Mathlib.Omega.{arith}
use Prim.Native.Nat.{ℕ, zero, suc, pred, ◌+◌, ◌-◌, ◌^◌, ◌≤◌, ◌<◌}
use Rattle.base.specs.Choice.{pick, both, le_or_lt, same_or_not, true_or_false, not_both}
use Rattle.base.specs.Sets.{has, put, cut}
use Rattle.base.specs.SetLaws.{has_none, has_put, has_put_other, has_cut, has_cut_other, put_under, cut_le}
use Rattle.base.specs.WordLaws.{leading_highest}
use Rattle.model.specs.Rates.{Rates}
use Rattle.model.specs.Requests.{Requests, Within}
use Rattle.model.proofs.RequestLaws.{previous_some}
use Rattle.model.specs.Marking.{Mark, K, S, U, keeps, loads, spans, any, covered, holds, Valid}
use Rattle.base.specs.ChoiceLaws.{both_true}
use Rattle.model.proofs.TestLaws.{any_true, any_has}
use Rattle.model.proofs.LegalLaws.{kept_from}
use Rattle.model.proofs.HolderLaws.{Span, spans_true, spans_over}
use Rattle.planner.specs.HolderWords.{joined, kept_step, kept_word, or_server, holders_word}

-- tests that follow from each other are one
same_test : (a b : Bool) → (a ≡ true → b ≡ true) → (b ≡ true → a ≡ true) → a ≡ b
same_test true b f g = sym (f refl)
same_test false true f g = g refl
same_test false false f g = refl

-- a server below 64 is put into the word
joined_put : (w x : ℕ) → x < 64 → joined w x ≡ put w x
unfolding joined
joined_put w x h = rw (lt-ltb x 64 h)

-- a word of 64 that is not empty has a member
pub some_member : (w : ℕ) → w < 2 ^ 64 → w ≢ 0 → (y : ℕ) × (y < 64) × (has w y ≡ true)
some_member w h d =
    let t = leading_highest 64 w (omega (arith, d)) h in
    (t.0, t.2.within, t.2.met)

-- one step back: the request's server is a member by its mark, and the others stay
step_same : (w x : ℕ) (kept : Bool) → x < 64 → has (kept_step w x kept) x ≡ kept
unfolding kept_step
step_same w x true h = ap (λ (u : ℕ). has u x) (joined_put (cut w x) x h) ∙ has_put (cut w x) x
step_same w x false h = has_cut w x

step_other : (w x : ℕ) (kept : Bool) (y : ℕ) → x < 64 → y ≢ x → has (kept_step w x kept) y ≡ has w y
unfolding kept_step
step_other w x true y h d = ap (λ (u : ℕ). has u y) (joined_put (cut w x) x h) ∙ has_put_other (cut w x) x y d ∙ has_cut_other w x y d
step_other w x false y h d = has_cut_other w x y d

-- every word is one of 64 servers
joined_under : (w x : ℕ) → w < 2 ^ 64 → joined w x < 2 ^ 64
unfolding joined
joined_under w x h = go (ltb x 64) refl
  where
    go : (b : Bool) → ltb x 64 ≡ b → pick b (put w x) w < 2 ^ 64
    go true e = put_under 64 w x h (ltb-true x 64 e)
    go false e = h

step_under : (w x : ℕ) (kept : Bool) → w < 2 ^ 64 → kept_step w x kept < 2 ^ 64
unfolding kept_step
step_under w x true h = joined_under (cut w x) x (omega (arith, cut_le w x))
step_under w x false h = omega (arith, cut_le w x)

kept_under : (s : ℕ → ℕ) (m : ℕ → Mark) (d k : ℕ) → kept_word s m k d < 2 ^ 64
unfolding kept_word
kept_under s m zero k = omega arith
kept_under s m (suc d) k = step_under (kept_word s m (suc k) d) (s k) (keeps (m k)) (kept_under s m d (suc k))

module _ (q : Requests) (m : ℕ → Mark) (n : ℕ) where
  -- a K span at server y lies over gap k
  pub record Kept (k y : ℕ) : Type 0 where
    pub request : ℕ
    pub low : 1 ≤ request
    pub high : request ≤ n
    pub there : q.server request ≡ y
    pub span : Span q m request k

  -- one over a gap and not that of the request after the gap lies over the next gap too, and the other way
  kept_next : (k y : ℕ) → y ≢ q.server k → Kept k y → Kept (suc k) y
  kept_next k y d r =
      let s = r.span in
      let e : k ≢ r.request = λ z. d (sym r.there ∙ ap q.server (sym z)) in
      record {
        request = r.request;
        low = r.low;
        high = r.high;
        there = r.there;
        span = record { start = s.start; kept = s.kept; since = s.since; above = omega (arith, s.above); upto = omega (arith, s.upto) };
      }

  kept_earlier : (k y : ℕ) → y ≢ q.server k → Kept (suc k) y → Kept k y
  kept_earlier k y d r =
      let s = r.span in
      let e : k ≢ s.start = λ z. d (sym r.there ∙ (sym (previous_some q r.request s.start s.since).there ∙ ap q.server (sym z))) in
      record {
        request = r.request;
        low = r.low;
        high = r.high;
        there = r.there;
        span = record { start = s.start; kept = s.kept; since = s.since; above = omega (arith, s.above); upto = omega (arith, s.upto) };
      }

  -- over the gap before a request there is one at its server if and only if the request is K
  kept_here : (p : Rates) → Valid p q m n → (k : ℕ) → 1 ≤ k → k ≤ n → keeps (m k) ≡ true → Kept k (q.server k)
  unfolding keeps
  kept_here p v k a b e = go (m k) refl
    where
      go : (c : Mark) → m k ≡ c → Kept k (q.server k)
      go K z =
          let t = kept_from p q k (rw z at (v k a b)) in
          record {
            request = k;
            low = a;
            high = b;
            there = refl;
            span = record { start = t.0; kept = z; since = t.1; above = (previous_some q k t.0 t.1).below; upto = omega arith };
          }
      go S z = absurd (not_both e (rw z))
      go U z = absurd (not_both e (rw z))

  here_kept : (k : ℕ) → Kept k (q.server k) → keeps (m k) ≡ true
  unfolding keeps
  here_kept k r = elim (le_or_lt r.request k) [
    | inl h ↦ (let z : k ≡ r.request = omega (arith, r.span.upto) in rw (z, r.span.kept))
    | inr h ↦ absurd ((previous_some q r.request r.span.start r.span.since).last k r.span.above h (sym r.there))
  ]

  module _ (p : Rates) (valid : Valid p q m n) (within : Within 64 q n) where
    -- the word of a gap has the servers with a K span over it
    pub kept_true : (d k : ℕ) → k + d ≡ suc n → 1 ≤ k → (y : ℕ) → has (kept_word q.server m k d) y ≡ true → Kept k y
    unfolding kept_word Within
    kept_true zero k e a y h = absurd (not_both h (has_none y))
    kept_true (suc d) k e a y h = go (same_or_not y (q.server k)) (kept_true d (suc k) (omega arith) (omega arith) y)
      where
        x : q.server k < 64
        x = within k (omega arith)

        go : (y ≡ q.server k) ⊎ (y ≢ q.server k) → (has (kept_word q.server m (suc k) d) y ≡ true → Kept (suc k) y) → Kept k y
        go (inl z) ih =
            let t : keeps (m k) ≡ true = sym (step_same (kept_word q.server m (suc k) d) (q.server k) (keeps (m k)) x) ∙ rw z at h in
            rw z (kept_here p valid k a (omega arith) t)
        go (inr z) ih = kept_earlier k y z (ih (sym (step_other (kept_word q.server m (suc k) d) (q.server k) (keeps (m k)) y x z) ∙ h))

    -- and no other
    pub kept_has : (d k : ℕ) → k + d ≡ suc n → 1 ≤ k → (y : ℕ) → Kept k y → has (kept_word q.server m k d) y ≡ true
    unfolding kept_word Within
    kept_has zero k e a y r = absurd (omega (arith, r.span.upto, r.high))
    kept_has (suc d) k e a y r = go (same_or_not y (q.server k)) (kept_has d (suc k) (omega arith) (omega arith) y)
      where
        x : q.server k < 64
        x = within k (omega arith)

        go : (y ≡ q.server k) ⊎ (y ≢ q.server k) → (Kept (suc k) y → has (kept_word q.server m (suc k) d) y ≡ true) → has (kept_word q.server m k (suc d)) y ≡ true
        go (inl z) ih = rw z (step_same (kept_word q.server m (suc k) d) (q.server k) (keeps (m k)) x ∙ here_kept k (rw z at r))
        go (inr z) ih = step_other (kept_word q.server m (suc k) d) (q.server k) (keeps (m k)) y x z ∙ ih (kept_next k y z r)

    -- a server is a member of a gap's word if and only if it holds over the gap
    pub holders_has : (k y : ℕ) → 1 ≤ k → k ≤ n → has (holders_word q.server m n k) y ≡ holds q m n k y
    unfolding holders_word or_server holds covered Within
    holders_has k y a b = go (same_or_not w 0)
      where
        w : ℕ
        w = kept_word q.server m k (suc n - k)

        at_gap : k + (suc n - k) ≡ suc n
        at_gap = omega arith

        there : has w y ≡ any n (λ i. both (eqb (q.server i) y) (spans q m i k))
        there = same_test (has w y) (any n (λ i. both (eqb (q.server i) y) (spans q m i k))) to from
          where
            to : has w y ≡ true → any n (λ i. both (eqb (q.server i) y) (spans q m i k)) ≡ true
            to e =
                let r = kept_true (suc n - k) k at_gap a y e in
                any_has n (λ i. both (eqb (q.server i) y) (spans q m i k)) r.request r.low r.high
                (rw (eq-eqb (q.server r.request) y r.there) (spans_over q m r.request k r.span))

            from : any n (λ i. both (eqb (q.server i) y) (spans q m i k)) ≡ true → has w y ≡ true
            from e =
                let r = any_true n (λ i. both (eqb (q.server i) y) (spans q m i k)) e in
                let t = both_true (eqb (q.server r.0) y) (spans q m r.0 k) r.3 in
                kept_has (suc n - k) k at_gap a y
                (record { request = r.0; low = r.1; high = r.2; there = eqb-true (q.server r.0) y t.0; span = spans_true q m r.0 k t.1 })

        empty : w ≡ 0 → any n (λ i. spans q m i k) ≡ false
        empty z = elim (true_or_false (any n (λ i. spans q m i k))) [
          | inl e ↦
              (let r = any_true n (λ i. spans q m i k) e in
              let u : Kept k (q.server r.0) = record { request = r.0; low = r.1; high = r.2; there = refl; span = spans_true q m r.0 k r.3 } in
              absurd (not_both (rw z at (kept_has (suc n - k) k at_gap a (q.server r.0) u)) (has_none (q.server r.0))))
          | inr e ↦ e
        ]

        full : w ≢ 0 → any n (λ i. spans q m i k) ≡ true
        full z =
            let r = some_member w (kept_under q.server m (suc n - k) k) z in
            let u = kept_true (suc n - k) k at_gap a r.0 r.2 in
            any_has n (λ i. spans q m i k) u.request u.low u.high (spans_over q m u.request k u.span)

        alone : (x : ℕ) → x < 64 → has (joined 0 x) y ≡ eqb y x
        alone x h = elim (same_or_not y x) [
          | inl e ↦ rw (joined_put 0 x h, eq-eqb y x e, e) (has_put 0 x)
          | inr e ↦ rw (joined_put 0 x h, ne_eqb y x e) (has_put_other 0 x y e ∙ has_none y)
        ]

        unheld : (b : Bool) → has (pick b 0 (joined 0 (q.server (pred k)))) y ≡ both (not b) (eqb y (q.server (pred k)))
        unheld true = has_none y
        unheld false = alone (q.server (pred k)) (within (pred k) (omega arith))

        go : (w ≡ 0) ⊎ (w ≢ 0) → has (pick (eqb w 0) (pick (loads (m k)) 0 (joined 0 (q.server (pred k)))) w) y ≡ holds q m n k y
        go (inl z) = rw (eq-eqb w 0 z, empty z) (unheld (loads (m k)))
        go (inr z) = rw (ne_eqb w 0 z, full z) there
