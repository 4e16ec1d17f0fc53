-- The number of rows counted by the words is right.
use Rattle.std.specs.Prelude.{Bool, not, List, [], ◌∷◌, ◌++◌, ◌⊎◌, ◌≡◌, eqb, ltb, get_or}
use Rattle.std.proofs.Math.Bool.{true, false}
use Rattle.std.proofs.Common.{inl, inr, ◌∙◌, lt-ltb}
use Rattle.std.proofs.Math.Path.{refl, sym, ap}
use native.Mathlib.Omega.{arith}
use Prim.Native.Nat.{ℕ, zero, suc, pred, ◌+◌, ◌/◌, ◌%◌, ◌^◌, ◌≤◌, ◌<◌}
use Rattle.std.specs.Int.Bits.{bit_and}
use mir.Val.{bool_byte}
use Rattle.std.proofs.lemmas.Nat.{and_shr, and_mod}
use Rattle.std.proofs.Math.ListN.{length, length-append}
use Rattle.base.specs.Choice.{pick, both, le_or_lt, true_or_false}
use Rattle.base.specs.Sets.{has, members}
use Rattle.base.specs.SetLaws.{has_none}
use Rattle.model.specs.Sums.{sum}
use Rattle.model.proofs.SumLaws.{sum_same, sum_add, sum_zero}
use Rattle.model.specs.Requests.{Requests, Within}
use Rattle.model.specs.Schedule.{Row, move, transfer, upload}
use Rattle.model.specs.Marking.{Mark, K, S, U, keeps, sends, loads, begins_run, hold_rows, all_holds, transfers, uploads, source, rows_from, rows}
use Rattle.model.proofs.RunLaws.{hold_rows_count}
use Rattle.model.specs.Plan.{Agree}
use Rattle.planner.specs.WordRows.{holder_at, word_holds}
use Rattle.planner.specs.WordRowLaws.{Right, member_below, word_holds_right}
use Rattle.planner.specs.RowCount.{begun, sent_at, row_count}

-- ---- words

-- a member of both words
has_and : (a b k : ℕ) → has (bit_and a b) k ≡ both (has a k) (has b k)
unfolding has
has_and a b k = ap (λ (x : ℕ). eqb (x % 2) 1) (and_shr a b k) ∙ go (a / 2 ^ k) (b / 2 ^ k)
  where
    digits : (x y : ℕ) → x < 2 → y < 2 → eqb (bit_and x y) 1 ≡ both (eqb x 1) (eqb y 1)
    digits zero zero h g = refl
    digits zero (suc zero) h g = refl
    digits zero (suc (suc y)) h g = absurd (omega arith)
    digits (suc zero) zero h g = refl
    digits (suc zero) (suc zero) h g = refl
    digits (suc zero) (suc (suc y)) h g = absurd (omega arith)
    digits (suc (suc x)) y h g = absurd (omega arith)

    go : (x y : ℕ) → eqb (bit_and x y % 2) 1 ≡ both (eqb (x % 2) 1) (eqb (y % 2) 1)
    go x y = ap (λ (z : ℕ). eqb z 1) (and_mod x y 1) ∙ digits (x % 2) (y % 2) (omega arith) (omega arith)

-- no more are in both than in one
pub members_and : (n a b : ℕ) → members n (bit_and a b) ≤ members n a
unfolding members
members_and zero a b = omega arith
members_and (suc n) a b = rw (has_and a b n) (go (has a n) (has b n) (members_and n a b))
  where
    go : (x y : Bool) → members n (bit_and a b) ≤ members n a → members n (bit_and a b) + pick (both x y) 1 0 ≤ members n a + pick x 1 0
    go true true ih = omega arith
    go true false ih = omega arith
    go false y ih = omega arith

-- the members below n are those below c where none is from c on
members_wider : (w c n : ℕ) → ((y : ℕ) → c ≤ y → has w y ≡ false) → c ≤ n → members n w ≡ members c w
unfolding members
members_wider w c zero none h = let e : c ≡ 0 = omega arith in rw e
members_wider w c (suc n) none h = go (le_or_lt c n) (members_wider w c n none)
  where
    go : (c ≤ n) ⊎ (n < c) → (c ≤ n → members n w ≡ members c w) → members (suc n) w ≡ members c w
    go (inl l) ih = rw (none n l) (omega (arith, ih l))
    go (inr l) ih = let e : c ≡ suc n = omega arith in rw e

-- ---- the holds of words

module _ (words : List ℕ) where
  -- how many servers below c begin a hold with gap k
  starts : ℕ → ℕ → ℕ
  starts zero k = 0
  starts (suc c) k = starts c k + pick (begins_run (holder_at words c) k) 1 0

  -- the holds are as many as begin with the n gaps
  holds_length : (q : Requests) (n c : ℕ) → length (word_holds q words n c) ≡ sum n (starts c)
  unfolding word_holds starts
  holds_length q n zero = sym (sum_zero n (starts 0) (λ i a b. refl))
  holds_length q n (suc c) =
      omega (
        arith,
        length-append (word_holds q words n c) (hold_rows q (holder_at words c) n c n),
        holds_length q n c,
        hold_rows_count q (holder_at words c) n c n,
        sum_add n (starts c) (λ k. pick (begins_run (holder_at words c) k) 1 0),
      )

  module _ (none_first : get_or words 0 0 ≡ 0) where
    -- a hold begins where a server holds and did not over the gap before
    begins_words : (y k : ℕ) → 1 ≤ k → begins_run (holder_at words y) k ≡ both (has (get_or words k 0) y) (not (has (get_or words (pred k) 0) y))
    unfolding begins_run holder_at
    begins_words y k a = go (le_or_lt k 1)
      where
        go : (k ≤ 1) ⊎ (1 < k) → both (has (get_or words k 0) y) (not (both (ltb 1 k) (has (get_or words (pred k) 0) y)))
            ≡ both (has (get_or words k 0) y) (not (has (get_or words (pred k) 0) y))
        go (inl h) =
            let e : k ≡ 1 = omega arith in
            rw (e, none_first, has_none y)
        go (inr h) = rw (lt-ltb 1 k h)

    -- so as many begin as copies stand, less those that stood before
    starts_count : (c k : ℕ) → 1 ≤ k
        → members c (get_or words k 0) ≡ members c (bit_and (get_or words k 0) (get_or words (pred k) 0)) + starts c k
    unfolding members starts
    starts_count zero k a = refl
    starts_count (suc c) k a = rw (begins_words c k a, has_and (get_or words k 0) (get_or words (pred k) 0) c) (go (has (get_or words k 0) c) (has (get_or words (pred k) 0) c) (starts_count c k a))
      where
        go : (x y : Bool) → members c (get_or words k 0) ≡ members c (bit_and (get_or words k 0) (get_or words (pred k) 0)) + starts c k
            → members c (get_or words k 0) + pick x 1 0
            ≡ members c (bit_and (get_or words k 0) (get_or words (pred k) 0)) + pick (both x y) 1 0 + (starts c k + pick (both x (not y)) 1 0)
        go true true e = omega arith
        go true false e = omega arith
        go false y e = omega arith

-- ---- the transfers and uploads

-- they are as many as the marks that are not K
moves_length : (q : Requests) (m : ℕ → Mark) (from : ℕ → ℕ) (n : ℕ) → length (transfers q m from n) + length (uploads q m n) ≡ sum n (sent_at m)
unfolding transfers uploads sum sent_at keeps sends loads
moves_length q m from zero = refl
moves_length q m from (suc n) = go (m (suc n)) (moves_length q m from n)
  where
    row : Row
    row = move (transfer (from (suc n)) (q.server (suc n)) (q.time (suc n)))

    load : Row
    load = move (upload (q.server (suc n)) (q.time (suc n)))

    go : (a : Mark) → length (transfers q m from n) + length (uploads q m n) ≡ sum n (sent_at m)
        → length (transfers q m from n ++ pick (sends a) (row ∷ []) []) + length (uploads q m n ++ pick (loads a) (load ∷ []) [])
        ≡ pick (keeps a) 0 1 + sum n (sent_at m)
    go K ih = omega (arith, length-append (transfers q m from n) [], length-append (uploads q m n) [])
    go S ih = omega (arith, length-append (transfers q m from n) (row ∷ []), length-append (uploads q m n) [])
    go U ih = omega (arith, length-append (transfers q m from n) [], length-append (uploads q m n) (load ∷ []))

-- the transfer or upload to a request, as the number of a test
pub sent_number : (m : ℕ → Mark) (i : ℕ) → (bool_byte (not (keeps (m i))) ≡ sent_at m i) × (sent_at m i ≤ 1)
unfolding sent_at
sent_number m i = go (keeps (m i))
  where
    go : (b : Bool) → (bool_byte (not b) ≡ pick b 0 1) × (pick b 0 1 ≤ 1)
    go true = (refl, omega arith)
    go false = (refl, omega arith)

-- ---- the rows

-- one gap more
pub row_count_more : (words : List ℕ) (m : ℕ → Mark) (k : ℕ) → begun words (suc k) + sent_at m (suc k) + row_count words m k ≡ row_count words m (suc k)
unfolding row_count sum
row_count_more words m k = refl

module _ (q : Requests) (m : ℕ → Mark) (n count : ℕ) (words : List ℕ) (right : Right q m n words) (within : Within count q n) (few : count ≤ 64) where
  -- no server from the count on holds
  none_over : (k : ℕ) → 1 ≤ k → k ≤ n → (y : ℕ) → count ≤ y → has (get_or words k 0) y ≡ false
  none_over k a b y h = elim (true_or_false (has (get_or words k 0) y)) [
    | inl e ↦ absurd (omega (arith, member_below q m n words right count within k a b y e))
    | inr e ↦ e
  ]

  -- so all the servers of the words begin as many holds as those below the count
  begun_starts : get_or words 0 0 ≡ 0 → (k : ℕ) → 1 ≤ k → k ≤ n → begun words k ≡ starts words count k
  unfolding begun
  begun_starts first k a b =
      omega (
        arith,
        starts_count words first count k a,
        members_wider (get_or words k 0) count 64 (none_over k a b) few,
        members_wider (bit_and (get_or words k 0) (get_or words (pred k) 0)) count 64
            (λ y h. has_and (get_or words k 0) (get_or words (pred k) 0) y ∙ rw (none_over k a b y h)) few,
      )

  -- as many rows as are counted, by any marks that agree
  pub row_count_right : (m' : ℕ → Mark) → Agree n m m' → get_or words 0 0 ≡ 0 → row_count words m' n ≡ length (rows q count m n)
  unfolding row_count rows rows_from sent_at
  row_count_right m' agree first =
      omega (
        arith,
        sum_add n (begun words) (sent_at m'),
        sum_same n (begun words) (starts words count) (begun_starts first),
        sum_same n (sent_at m') (sent_at m) (λ i a b. rw (agree i a b)),
        holds_length words q n count,
        ap length (word_holds_right q m n words right count),
        moves_length q m (source q count m n) n,
        length-append (all_holds q m n count) (transfers q m (source q count m n) n ++ uploads q m n),
        length-append (transfers q m (source q count m n) n) (uploads q m n),
      )
