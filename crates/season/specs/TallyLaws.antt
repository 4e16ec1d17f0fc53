-- The tally of one log more, how large a tally's numbers are, and how they hang together.
use Rattle.std.specs.Prelude.{Bool, true, false, List, [], ◌∷◌, ◌++◌, ◌⊎◌, ◌≢◌, ◌≡◌, refl, ℕ, zero, suc, ◌+◌, ◌-◌, ◌*◌, ◌^◌, ◌≤◌, ◌<◌, ltb, eqb, length, get_or, Ok, Err}
use Rattle.base.specs.Refusals.{Verdict}
use Rattle.std.proofs.Common.{inl, inr, sym, ap, ◌∙◌, mul-le-mul, arith, length-append, lt-ltb, le-ltb, eq-eqb, ne_eqb}
use Rattle.base.specs.Choice.{either, le_or_lt, same_or_not}
use Rattle.base.specs.Lists.{build, build_at, build_same}
use Rattle.model.specs.Sums.{total}
use Rattle.model.proofs.SumLaws.{total_append}
use Rattle.season.specs.Tallies.{Met}
use Rattle.season.specs.declared.Worst.{Worst}
use Rattle.season.specs.Tallies.{numbers, one_if, accepts, refuses, ends, no_worst, worse, worst_of, ended, tally_of}
use Rattle.season.specs.Counting.{summed, fresh, counted}
use Rattle.base.specs.Reasons.{number}

-- ---- what holds of each log of a list

abbrev pub Each : (Met → Type 0) → List Met → Type 0
Each P [] = Unit {0}
Each P (m ∷ ms) = P m × Each P ms

-- both costs have 32 bits
abbrev pub SmallLog : Met → Type 0
SmallLog m = (m.least < 2 ^ 32) × (m.running < 2 ^ 32)

abbrev pub Small : List Met → Type 0
Small = Each SmallLog

-- a refusal has one of the numbers counted
abbrev pub NumberedVerdict : Verdict → Type 0
NumberedVerdict (Ok _) = Unit {0}
NumberedVerdict (Err r) = number r.reason < numbers

abbrev pub Numbered : List Met → Type 0
Numbered = Each (λ m. NumberedVerdict m.verdict)

-- the running cost is between the least one and three times that
abbrev pub FairLog : Met → Type 0
FairLog m = (m.least ≤ m.running) × (m.running ≤ 3 * m.least)

abbrev pub Fair : List Met → Type 0
Fair = Each FairLog

-- what holds of any log holds of each
pub each_any : (P : Met → Type 0) → ((m : Met) → P m) → (ms : List Met) → Each P ms
each_any P p [] = tt
each_any P p (m ∷ ms) = (p m, each_any P p ms)

-- one list after another
pub each_append : (P : Met → Type 0) (xs ys : List Met) → Each P xs → Each P ys → Each P (xs ++ ys)
each_append P [] ys p q = q
each_append P (x ∷ xs) ys (p, ps) q = (p, each_append P xs ys ps q)

-- the log at an index
pub each_at : (P : Met → Type 0) (ms : List Met) (j : ℕ) (d : Met) → Each P ms → j < length ms → P (get_or ms j d)
each_at P [] j d p l = absurd (omega arith)
each_at P (m ∷ ms) zero d (p, ps) l = p
each_at P (m ∷ ms) (suc j) d (p, ps) l = each_at P ms j d ps (omega arith)

pub small_one : (m : Met) → SmallLog m → Small (m ∷ [])
small_one m p = (p, tt)

pub small_append : (xs ys : List Met) → Small xs → Small ys → Small (xs ++ ys)
small_append = each_append SmallLog

-- ---- lists one after the other

-- the places of the second go on after the first
pub worst_append : (w : Worst) (k : ℕ) (xs ys : List Met) → worst_of w k (xs ++ ys) ≡ worst_of (worst_of w k xs) (k + length xs) ys
unfolding worst_of
worst_append w k [] ys = ap (λ (n : ℕ). worst_of w n ys) (let e : k ≡ k + 0 = omega arith in e)
worst_append w k (x ∷ xs) ys =
    worst_append (worse w (suc k) x) (suc k) xs ys
    ∙ ap (λ (n : ℕ). worst_of (worst_of (worse w (suc k) x) (suc k) xs) n ys)
    (let e : suc k + length xs ≡ k + suc (length xs) = omega arith in e)

-- one of the two ends the report
pub ended_append : (xs ys : List Met) → ended (xs ++ ys) ≡ either (ended xs) (ended ys)
unfolding ended
ended_append [] ys = refl
ended_append (x ∷ xs) ys = rw (ended_append xs ys) (either_assoc (ends x.verdict) (ended xs) (ended ys))
  where
    either_assoc : (a b c : Bool) → either a (either b c) ≡ either (either a b) c
    either_assoc true b c = refl
    either_assoc false b c = refl

-- ---- how large the numbers are

-- each item at most c, and the total at most c times as many
pub total_most : (f : Met → ℕ) (c : ℕ) (ms : List Met) → Each (λ m. f m ≤ c) ms → total f ms ≤ c * length ms
unfolding total
total_most f c [] p = omega arith
total_most f c (m ∷ ms) (p, ps) = omega (arith, total_most f c ms ps)

-- as many as pass a test
pub one_if_most : (b : Bool) → one_if b ≤ 1
one_if_most true = omega arith
one_if_most false = omega arith

pub count_most : (f : Met → Bool) (ms : List Met) → total (λ m. one_if (f m)) ms ≤ length ms
count_most f ms =
    omega (arith, total_most (λ m. one_if (f m)) 1 ms (each_any (λ m. one_if (f m) ≤ 1) (λ m. one_if_most (f m)) ms))

pub least_most : (ms : List Met) → Small ms → (tally_of ms).least ≤ 2 ^ 32 * length ms
unfolding tally_of total
least_most [] p = omega arith
least_most (m ∷ ms) (p, ps) = omega (arith, least_most ms ps)

pub running_most : (ms : List Met) → Small ms → (tally_of ms).running ≤ 2 ^ 32 * length ms
unfolding tally_of total
running_most [] p = omega arith
running_most (m ∷ ms) (p, ps) = omega (arith, running_most ms ps)

-- the totals of all logs that are looked at, and of one more, have 64 bits
pub totals_fit : (ms : List Met) → length ms ≤ 4097 → Small ms → ((tally_of ms).least < 2 ^ 64) × ((tally_of ms).running < 2 ^ 64)
totals_fit ms l p = omega (arith, least_most ms p, running_most ms p)

-- so has a product that is compared
pub product_fits : (a b : ℕ) → a < 2 ^ 32 → b < 2 ^ 32 → a * b < 2 ^ 64
product_fits a b p q =
    let x : a ≤ 2 ^ 32 - 1 = omega arith in
    let y : b ≤ 2 ^ 32 - 1 = omega arith in
    omega (arith, mul-le-mul x y)

-- ---- one log more

-- no log
pub fresh_is : fresh ≡ tally_of []
unfolding fresh tally_of total worst_of ended build
fresh_is = refl

-- a sum of 64 bits
pub summed_is : (a b : ℕ) → a + b < 2 ^ 64 → summed a b ≡ a + b
unfolding summed
summed_is a b h = rw (lt-ltb _ _ h)

summed_total : (f : Met → ℕ) (ms : List Met) (m : Met) → total f ms + f m < 2 ^ 64 → summed (total f ms) (f m) ≡ total f (ms ++ (m ∷ []))
unfolding total
summed_total f ms m h = omega (arith, summed_is (total f ms) (f m) h, total_append f ms (m ∷ []))

summed_count : (f : Met → Bool) (ms : List Met) (m : Met) → length ms ≤ 4096
    → summed (total (λ m. one_if (f m)) ms) (one_if (f m)) ≡ total (λ m. one_if (f m)) (ms ++ (m ∷ []))
summed_count f ms m l = summed_total (λ m. one_if (f m)) ms m (omega (arith, count_most f ms, one_if_most (f m)))

pub counted_next : (ms : List Met) (m : Met) → length ms ≤ 4096 → Small ms → SmallLog m → ended ms ≡ false
    → counted (tally_of ms) m ≡ tally_of (ms ++ (m ∷ []))
unfolding counted tally_of worst_of ended
counted_next ms m l p q e =
    λ i.
    record {
      logs = logs i;
      accepted = summed_count (λ m. accepts m.verdict) ms m l i;
      refused = build_same numbers _ _ refused i;
      least = summed_total (λ m. m.least) ms m (omega (arith, least_most ms p)) i;
      running = summed_total (λ m. m.running) ms m (omega (arith, running_most ms p)) i;
      worst = worst i;
      over = over i;
    }
  where
    logs : summed (length ms) 1 ≡ length (ms ++ (m ∷ []))
    logs = omega (arith, summed_is (length ms) 1 (omega arith), length-append ms (m ∷ []))

    refused : (n : ℕ) → n < numbers
        → summed (get_or (build numbers (λ n. total (λ m. one_if (refuses n m.verdict)) ms)) n 0) (one_if (refuses n m.verdict))
        ≡ total (λ m. one_if (refuses n m.verdict)) (ms ++ (m ∷ []))
    refused n h =
        rw (build_at numbers (λ n. total (λ m. one_if (refuses n m.verdict)) ms) n 0 h)
        (summed_count (λ m. refuses n m.verdict) ms m l)

    worst : worse (worst_of no_worst 0 ms) (summed (length ms) 1) m ≡ worst_of no_worst 0 (ms ++ (m ∷ []))
    worst =
        let s : summed (length ms) 1 ≡ suc (0 + length ms) = omega (arith, summed_is (length ms) 1 (omega arith)) in
        ap (λ (n : ℕ). worse (worst_of no_worst 0 ms) n m) s
        ∙ sym (worst_append no_worst 0 ms (m ∷ []))

    or_none : (b : Bool) → b ≡ either b false
    or_none true = refl
    or_none false = refl

    over : ends m.verdict ≡ ended (ms ++ (m ∷ []))
    over = rw (ended_append ms (m ∷ []), e) (or_none (ends m.verdict))

-- ---- accepted and refused together are all

-- counts added one by one
total_build : (n : ℕ) (f g : ℕ → ℕ) → total (λ c. c) (build n (λ i. f i + g i)) ≡ total (λ c. c) (build n f) + total (λ c. c) (build n g)
unfolding build total
total_build zero f g = refl
total_build (suc n) f g =
    omega (
      arith,
      total_build n f g,
      total_append (λ c. c) (build n (λ i. f i + g i)) ((f n + g n) ∷ []),
      total_append (λ c. c) (build n f) (f n ∷ []),
      total_append (λ c. c) (build n g) (g n ∷ []),
    )

-- no counts
total_none : (n : ℕ) → total (λ c. c) (build n (λ i. 0)) ≡ 0
unfolding build total
total_none zero = refl
total_none (suc n) = omega (arith, total_none n, total_append (λ c. c) (build n (λ i. 0)) (0 ∷ []))

-- one count, of a number that is among them
total_one : (n k : ℕ) → total (λ c. c) (build n (λ i. one_if (eqb i k))) ≡ one_if (ltb k n)
unfolding build total
total_one zero k = rw (le-ltb k 0 (omega arith))
total_one (suc n) k =
    total_append (λ c. c) (build n (λ i. one_if (eqb i k))) (one_if (eqb n k) ∷ [])
    ∙ rw (total_one n k) (go (same_or_not n k) (le_or_lt n k))
  where
    go : (n ≡ k) ⊎ (n ≢ k) → (n ≤ k) ⊎ (k < n) → one_if (ltb k n) + (one_if (eqb n k) + 0) ≡ one_if (ltb k (suc n))
    go (inl e) _ = rw (le-ltb k n (omega arith), eq-eqb n k e, lt-ltb k (suc n) (omega arith))
    go (inr d) (inl h) = rw (le-ltb k n h, ne_eqb n k d, le-ltb k (suc n) (omega arith))
    go (inr d) (inr h) = rw (lt-ltb k n h, ne_eqb n k d, lt-ltb k (suc n) (omega arith))

-- each log is counted once
counted_once : (v : Verdict) → NumberedVerdict v → one_if (accepts v) + total (λ c. c) (build numbers (λ n. one_if (refuses n v))) ≡ 1
unfolding accepts refuses
counted_once (Ok _) p = rw (total_none numbers)
counted_once (Err r) p = rw (total_one numbers (number r.reason), lt-ltb (number r.reason) numbers p)

pub all_counted : (ms : List Met) → Numbered ms → (tally_of ms).accepted + total (λ c. c) (tally_of ms).refused ≡ (tally_of ms).logs
unfolding tally_of total
all_counted [] p = rw (total_none numbers)
all_counted (m ∷ ms) (p, ps) =
    omega (
      arith,
      all_counted ms ps,
      counted_once m.verdict p,
      total_build numbers (λ n. one_if (refuses n m.verdict)) (λ n. total (λ m. one_if (refuses n m.verdict)) ms),
    )

-- ---- the totals are as fair as each log

pub totals_fair : (ms : List Met) → Fair ms → ((tally_of ms).least ≤ (tally_of ms).running) × ((tally_of ms).running ≤ 3 * (tally_of ms).least)
unfolding tally_of total
totals_fair [] p = omega arith
totals_fair (m ∷ ms) (p, ps) = omega (arith, totals_fair ms ps)
