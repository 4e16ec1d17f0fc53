-- The rows by the holders' words are the rows of the marking.
use Rattle.std.specs.Prelude.{Bool, ◌≡◌, get_or}
use Rattle.std.proofs.Math.Bool.{true}
use mathlib.Core.List.{List, [], ◌∷◌, ◌++◌}
use Rattle.std.proofs.Math.Path.{refl, sym, ap₂}
use Rattle.std.proofs.Common.{ap, ◌∙◌, arith, lt-ltb, le-leb}
use Prim.Native.Nat.{ℕ, zero, suc, ◌+◌, ◌-◌, ◌≤◌, ◌<◌}
use Rattle.base.specs.Choice.{pick}
use Rattle.base.specs.Sets.{has}
use Rattle.base.specs.Lists.{build, build_at}
use Rattle.base.specs.NearestLaws.{nearest_unique}
use Rattle.model.specs.Rates.{Rates}
use Rattle.model.specs.Requests.{Requests, Within}
use Rattle.model.specs.Schedule.{Row, move, transfer}
use Rattle.model.specs.Marking.{Mark, K, S, U, sends, loads, holds, begins_run, run_end, hold_rows, all_holds, transfers, uploads, source, rows_from, rows, Valid}
use Rattle.model.specs.Plan.{Agree}
use Rattle.model.proofs.HolderLaws.{holder_below}
use Rattle.model.proofs.MarkingRows.{source_nearest}
use Rattle.planner.specs.HolderWords.{kept_word, holders_word, gap_word}
use Rattle.planner.specs.HolderWordLaws.{holders_has}
use Rattle.planner.specs.WordRows.{holder_at, word_holds, word_source, word_rows}

-- ---- what looks only at gaps 1 to n

-- a run ends alike where the tests agree on the gaps looked at
run_end_same : (f g : ℕ → Bool) (d k : ℕ) → ((l : ℕ) → k < l → l ≤ k + d → f l ≡ g l) → run_end f k d ≡ run_end g k d
unfolding run_end
run_end_same f g zero k h = refl
run_end_same f g (suc d) k h =
    rw (h (suc k) (omega arith) (omega arith), run_end_same f g d (suc k) (λ l a b. h l (omega arith) (omega arith)))

-- and begins alike
begins_same : (f g : ℕ → Bool) (n k : ℕ) → ((l : ℕ) → 1 ≤ l → l ≤ n → f l ≡ g l) → k < n → begins_run f (suc k) ≡ begins_run g (suc k)
unfolding begins_run
begins_same f g n zero h a = rw (h 1 (omega arith) (omega arith))
begins_same f g n (suc k) h a = rw (h (suc (suc k)) (omega arith) (omega arith), h (suc k) (omega arith) (omega arith))

-- so the holds are the same
hold_rows_same : (q : Requests) (f g : ℕ → Bool) (n y k : ℕ) → ((l : ℕ) → 1 ≤ l → l ≤ n → f l ≡ g l) → k ≤ n
    → hold_rows q f n y k ≡ hold_rows q g n y k
unfolding hold_rows
hold_rows_same q f g n y zero h a = refl
hold_rows_same q f g n y (suc k) h a =
    rw (
      hold_rows_same q f g n y k h (omega arith),
      begins_same f g n k h a,
      run_end_same f g (n - suc k) (suc k) (λ l b c. h l (omega arith) (omega arith)),
    )

-- the transfers are the same where the marks are, and the sources of those that are S
transfers_same : (q : Requests) (m m' : ℕ → Mark) (from to : ℕ → ℕ) (n i : ℕ) → Agree n m m'
    → ((l : ℕ) → 1 ≤ l → l ≤ n → m' l ≡ S → from l ≡ to l) → i ≤ n → transfers q m from i ≡ transfers q m' to i
unfolding transfers sends
transfers_same q m m' from to n zero g h a = refl
transfers_same q m m' from to n (suc i) g h a =
    rw (transfers_same q m m' from to n i g h (omega arith), g (suc i) (omega arith) a) (ap (λ (rows : List Row). transfers q m' to i ++ rows) (one (m' (suc i)) refl))
  where
    row : ℕ → Row
    row source = move (transfer source (q.server (suc i)) (q.time (suc i)))

    one : (k : Mark) → m' (suc i) ≡ k
        → pick (sends (m' (suc i))) (row (from (suc i)) ∷ []) [] ≡ pick (sends (m' (suc i))) (row (to (suc i)) ∷ []) []
    one K e = rw e
    one S e = rw (h (suc i) (omega arith) a e)
    one U e = rw e

-- and so are the uploads
uploads_same : (q : Requests) (m m' : ℕ → Mark) (n i : ℕ) → Agree n m m' → i ≤ n → uploads q m i ≡ uploads q m' i
unfolding uploads
uploads_same q m m' n zero g a = refl
uploads_same q m m' n (suc i) g a = rw (uploads_same q m m' n i g (omega arith), g (suc i) (omega arith) a)

-- the words are the same where the marks are
kept_word_same : (s : ℕ → ℕ) (m m' : ℕ → Mark) (n : ℕ) → Agree n m m' → (d k : ℕ) → 1 ≤ k → k + d ≤ suc n → kept_word s m k d ≡ kept_word s m' k d
unfolding kept_word
kept_word_same s m m' n g zero k a b = refl
kept_word_same s m m' n g (suc d) k a b =
    rw (kept_word_same s m m' n g d (suc k) (omega arith) (omega arith), g k a (omega arith))

-- ---- the rows

-- the words of a list are right for gaps 1 to n of a marking
abbrev pub Right : Requests → (ℕ → Mark) → ℕ → List ℕ → Type 0
Right q m n words = (k : ℕ) → 1 ≤ k → k ≤ n → (y : ℕ) → has (get_or words k 0) y ≡ holds q m n k y

-- the words of the gaps are, and those of a marking with the same marks are too
pub gap_words_right : (p : Rates) (q : Requests) (m m' : ℕ → Mark) (n size : ℕ) → Valid p q m n → Within 64 q n → Agree n m m' → n < size
    → Right q m n (build size (gap_word q.server m' n))
unfolding gap_word holders_word
gap_words_right p q m m' n size valid within agree h k a b y =
    ap (λ (w : ℕ). has w y) (build_at size (gap_word q.server m' n) k 0 (omega arith) ∙ rw (lt-ltb 0 k a, le-leb k n b, ← kept_word_same q.server m m' n agree (suc n - k) k a (omega arith), ← agree k a b))
    ∙ holders_has q m n p valid within k y a b

module _ (q : Requests) (m : ℕ → Mark) (n : ℕ) (words : List ℕ) (right : Right q m n words) where
  -- the holds are those of the marking
  pub word_holds_right : (c : ℕ) → word_holds q words n c ≡ all_holds q m n c
  unfolding word_holds all_holds holder_at
  word_holds_right zero = refl
  word_holds_right (suc y) =
      ap₂ (λ (x z : List Row). x ++ z) (word_holds_right y)
      (hold_rows_same q (holder_at words y) (λ k. holds q m n k y) n y n (λ l a b. right l a b y) (omega arith))

  -- a member of a gap's word is a holder, so below the count
  pub member_below : (count : ℕ) → Within count q n → (k : ℕ) → 1 ≤ k → k ≤ n → (y : ℕ) → has (get_or words k 0) y ≡ true → y < count
  member_below count within k a b y e = holder_below q m n count within k a b y (sym (right k a b y) ∙ e)

  -- the sources are those of the marking
  pub word_source_right : (count : ℕ) → Within count q n → count ≤ 64 → (i : ℕ) → 1 ≤ i → i ≤ n → m i ≡ S → word_source q words i ≡ source q count m n i
  unfolding word_source loads
  word_source_right count within few i a b s =
      let N = source_nearest q count m n within i a b (rw s) in
      let holder : (z : ℕ) → has (get_or words i 0) z ≡ true → holds q m n i z ≡ true = λ z e. sym (right i a b z) ∙ e in
      nearest_unique (has (get_or words i 0)) (q.server i) 64 (source q count m n i) (record {
        within = omega (arith, N.within);
        passes = right i a b (source q count m n i) ∙ N.passes;
        least = λ z l e. N.least z (member_below count within i a b z e) (holder z e);
        lower = λ z l e. N.lower z (member_below count within i a b z e) (holder z e);
      })

  -- and so are the rows
  pub word_rows_right : (m' : ℕ → Mark) (count : ℕ) → Agree n m m' → Within count q n → count ≤ 64 → word_rows q words count m' n ≡ rows q count m n
  unfolding word_rows rows rows_from
  word_rows_right m' count agree within few =
      let back : Agree n m' m = λ l a b. sym (agree l a b) in
      ap₂ (λ (x z : List Row). x ++ z) (word_holds_right count)
      (ap₂ (λ (x z : List Row). x ++ z)
      (transfers_same q m' m (word_source q words) (source q count m n) n n back (word_source_right count within few) (omega arith))
      (uploads_same q m' m n n back (omega arith)))
