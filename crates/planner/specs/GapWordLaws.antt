-- The words of the gaps, filled in from the last gap to the first.
use Rattle.std.specs.Prelude.{Bool, true, false, not, List, ◌⊎◌, ◌≢◌, ◌≡◌, refl, ltb, eqb, length, get_or, set, replicate}
use Rattle.std.proofs.Common.{inl, inr, ◌∙◌}
use Rattle.std.proofs.Math.Path.{sym}
use native.Mathlib.Omega.{arith}
use Prim.Native.Nat.{ℕ, suc, pred, ◌-◌, ◌≤◌, ◌<◌}
use Rattle.std.proofs.lemmas.List.{length-replicate, get_or-replicate}
use Rattle.std.proofs.Math.Seq.{ext_get_or}
use borrow.Author.Tests.{lt-ltb, le-ltb, le-leb, lt-leb, ne_eqb}
use Rattle.base.specs.Choice.{pick, le_or_lt, same_or_not}
use Rattle.base.specs.Lists.{build, build_length, build_at, build_same, build_set}
use Rattle.model.specs.Marking.{Mark, K, S, U, keeps, sends, loads}
use Rattle.planner.specs.HolderWords.{kept_step, kept_word, or_server, holders_word, gap_word, spelled, marking}

-- a mark by its letter
pub keeps_letter : (letters : List ℕ) (i : ℕ) → keeps (marking letters (suc i)) ≡ eqb (get_or letters i 0) 75
unfolding keeps marking spelled
keeps_letter letters i = go (eqb (get_or letters i 0) 75) (eqb (get_or letters i 0) 85)
  where
    go : (a b : Bool) → keeps (pick a K (pick b U S)) ≡ a
    go true b = refl
    go false true = refl
    go false false = refl

pub sends_letter : (letters : List ℕ) (i : ℕ) → sends (marking letters (suc i)) ≡ pick (eqb (get_or letters i 0) 75) false (not (eqb (get_or letters i 0) 85))
unfolding sends marking spelled
sends_letter letters i = go (eqb (get_or letters i 0) 75) (eqb (get_or letters i 0) 85)
  where
    go : (a b : Bool) → sends (pick a K (pick b U S)) ≡ pick a false (not b)
    go true b = refl
    go false true = refl
    go false false = refl

pub loads_letter : (letters : List ℕ) (i : ℕ) → loads (marking letters (suc i)) ≡ eqb (get_or letters i 0) 85
unfolding loads marking spelled
loads_letter letters i = go (same_or_not (get_or letters i 0) 75)
  where
    by : (b : Bool) → loads (pick b U S) ≡ b
    by true = refl
    by false = refl

    go : (get_or letters i 0 ≡ 75) ⊎ (get_or letters i 0 ≢ 75) → loads (spelled (get_or letters i 0)) ≡ eqb (get_or letters i 0) 85
    go (inl e) = rw e
    go (inr d) = rw (ne_eqb (get_or letters i 0) 75 d) (by (eqb (get_or letters i 0) 85))

module _ (s : ℕ → ℕ) (m : ℕ → Mark) (n : ℕ) where
  -- the words of the gaps above i
  unfoldable pub words_above : ℕ → ℕ → ℕ
  words_above i k = pick (ltb i k) (gap_word s m n k) 0

  -- above gap n there is none
  pub words_none : (size : ℕ) → replicate size 0 ≡ build size (words_above n)
  unfolding words_above gap_word
  words_none size =
      ext_get_or 0 (replicate size 0) (build size (words_above n)) (length-replicate size 0 ∙ sym (build_length size (words_above n))) each
    where
      none : (k : ℕ) → (k ≤ n) ⊎ (n < k) → words_above n k ≡ 0
      none k (inl h) = rw (le-ltb n k h)
      none k (inr h) = rw (lt-ltb n k h, lt-ltb 0 k (omega arith), lt-leb k n h)

      each : (k : ℕ) → k < length (replicate {A = ℕ} size 0) → get_or (replicate size 0) k 0 ≡ get_or (build size (words_above n)) k 0
      each k l =
          let h : k < size = omega (arith, length-replicate {A = ℕ} size 0) in
          get_or-replicate size k 0 0 h ∙ sym (build_at size (words_above n) k 0 h ∙ none k (le_or_lt k n))

  -- over the gap after the last no server is kept
  pub kept_none : 0 ≡ kept_word s m (suc n) (n - n)
  unfolding kept_word
  kept_none = let e : n - n ≡ 0 = omega arith in rw e

  -- one gap back: the servers kept there
  pub kept_back : (i : ℕ) → 1 ≤ i → i ≤ n
      → kept_step (kept_word s m (suc i) (n - i)) (s i) (keeps (m (suc (i - 1)))) ≡ kept_word s m (suc (i - 1)) (n - (i - 1))
  unfolding kept_word
  kept_back i a b =
      let e : suc (i - 1) ≡ i = omega arith in
      let d : n - (i - 1) ≡ suc (n - i) = omega arith in
      rw (e, d)

  -- and its word
  pub words_back : (size i : ℕ) → 1 ≤ i → i ≤ n → n < size
      → set (build size (words_above i)) i (or_server (kept_word s m (suc (i - 1)) (n - (i - 1))) (s (i - 1)) (loads (m (suc (i - 1))))) ≡ build size (words_above (i - 1))
  unfolding words_above gap_word holders_word
  words_back size i a b l =
      build_set size i (or_server (kept_word s m (suc (i - 1)) (n - (i - 1))) (s (i - 1)) (loads (m (suc (i - 1))))) (words_above i) (words_above (i - 1)) here (λ k d. sym (there k d (le_or_lt k (i - 1))))
    where
      here : words_above (i - 1) i ≡ or_server (kept_word s m (suc (i - 1)) (n - (i - 1))) (s (i - 1)) (loads (m (suc (i - 1))))
      here =
          let e : suc (i - 1) ≡ i = omega arith in
          let d : n - (i - 1) ≡ suc n - i = omega arith in
          let p : i - 1 ≡ pred i = omega arith in
          rw (lt-ltb (i - 1) i (omega arith), lt-ltb 0 i a, le-leb i n b, e, d, p)

      there : (k : ℕ) → k ≢ i → (k ≤ i - 1) ⊎ (i - 1 < k) → words_above i k ≡ words_above (i - 1) k
      there k d (inl h) = rw (le-ltb i k (omega arith), le-ltb (i - 1) k h)
      there k d (inr h) = rw (lt-ltb i k (omega arith), lt-ltb (i - 1) k h)

  -- above gap 0 are all
  pub words_all : (size : ℕ) → build size (words_above 0) ≡ build size (gap_word s m n)
  unfolding words_above gap_word
  words_all size = build_same size (words_above 0) (gap_word s m n) (λ k l. go (le_or_lt k 0))
    where
      go : {k : ℕ} → (k ≤ 0) ⊎ (0 < k) → words_above 0 k ≡ gap_word s m n k
      go {k} (inl h) = rw (le-ltb 0 k h)
      go {k} (inr h) = rw (lt-ltb 0 k h)
