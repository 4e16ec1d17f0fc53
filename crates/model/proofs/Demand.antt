-- The demand lemma: the table is no more than the fees of the requests that are not kept, and the hold price of D copies over each second,
-- for any D that is at least the number of spans kept over each second, and at least 1 over each open gap that asks for a copy.
use Rattle.std.specs.Prelude.{Bool, true, ◌⊎◌, ◌≡◌}
use Rattle.std.proofs.Math.Bool.{false}
use Rattle.std.proofs.Math.Logic.{inl}
use Rattle.std.proofs.Common.{inr, ap, mul-add, mul-le-mul_left}
use Rattle.std.proofs.Math.Option.{Option, none, some}
use Rattle.std.proofs.Math.Path.{refl}
use native.Mathlib.Omega.{arith}
use Prim.Native.Nat.{ℕ, zero, suc, ◌+◌, ◌-◌, ◌*◌, ◌≤◌, ◌<◌, min}
use Rattle.base.specs.Choice.{pick, le_or_lt, true_or_false, not_both}
use Rattle.model.specs.Rates.{Rates, some?, upload_fee}
use Rattle.model.specs.Sums.{sum}
use Rattle.model.proofs.SumLaws.{sum_le, sum_add, sum_scale, sum_longer, sum_ones, sum_minus, inside, inside_low, sum_inside}
use Rattle.model.specs.Requests.{Requests, previous, Rising}
use Rattle.model.proofs.RequestLaws.{previous_some, rises_le}
use Rattle.model.specs.Marking.{Mark, K, S, U, keeps, sends, loads, legal, begin, fee, sent, loaded}
use Rattle.model.specs.Table.{open_gap, table, send_price, free_price, free}
use Rattle.model.proofs.TableLaws.{May, table_away, table_kept, open_gap_open, open_gap_shut}
use Rattle.model.proofs.LegalLaws.{begun}
use Rattle.model.proofs.MarkLaws.{sends_S}
use Rattle.model.proofs.Leaving.{free_S, free_U}

-- 1 where the span from a previous request to request i holds second τ
unfoldable pub spanned : Requests → Option ℕ → ℕ → ℕ → ℕ
spanned q none i τ = 0
spanned q (some j) i τ = inside (q.time j) (q.time i) τ

-- a fee, for a request that is not kept
unfoldable pub unkept : Option ℕ → ℕ → ℕ
unkept none x = x
unkept (some j) x = 0

-- the spans of the first i requests that hold second τ; `from l` is the previous request of l, if l is kept
unfoldable pub spans_over : Requests → (ℕ → Option ℕ) → ℕ → ℕ → ℕ
spans_over q from i τ = sum i (λ l. spanned q (from l) l τ)

-- the fees of the first i requests
unfoldable pub fees : (ℕ → Option ℕ) → (ℕ → ℕ) → ℕ → ℕ
fees from fee i = sum i (λ l. unkept (from l) (fee l))

-- what one request more does to the fees
fees_gone : (from : ℕ → Option ℕ) (fee : ℕ → ℕ) (i : ℕ) → from (suc i) ≡ none → fees from fee (suc i) ≡ fee (suc i) + fees from fee i
unfolding fees sum unkept
fees_gone from fee i e = rw e

fees_kept : (from : ℕ → Option ℕ) (fee : ℕ → ℕ) (i j : ℕ) → from (suc i) ≡ some j → fees from fee (suc i) ≡ fees from fee i
unfolding fees sum unkept
fees_kept from fee i j e = rw e (omega arith)

-- and what one more does to the spans
spans_gone : (q : Requests) (from : ℕ → Option ℕ) (i τ : ℕ) → from (suc i) ≡ none → spans_over q from (suc i) τ ≡ spans_over q from i τ
unfolding spans_over sum spanned
spans_gone q from i τ e = rw e (omega arith)

spans_kept : (q : Requests) (from : ℕ → Option ℕ) (i j τ : ℕ) → from (suc i) ≡ some j
    → spans_over q from (suc i) τ ≡ inside (q.time j) (q.time (suc i)) τ + spans_over q from i τ
unfolding spans_over sum spanned
spans_kept q from i j τ e = rw e

-- what a table lets a policy do, for the first n requests: keep some since their previous ones, the others for a fee, and the gap before
-- them if they ask for a copy over it
pub record Policy (p : Rates) (q : Requests) (n : ℕ) (allow : ℕ → Bool) (away : ℕ → ℕ → ℕ)
    (from : ℕ → Option ℕ) (fee : ℕ → ℕ) (asks : ℕ → Bool) : Type 0 where
  pub kept : (i j : ℕ) → i < n → from (suc i) ≡ some j → previous q (suc i) ≡ some j
  pub may : (i : ℕ) → i < n → from (suc i) ≡ none → May p q allow (suc i)
  pub pays : (i c : ℕ) → i < n → from (suc i) ≡ none → away i c ≤ fee (suc i) + pick (asks (suc i)) (open_gap p q i c) 0

-- copies enough for the first i requests when the gaps above c are covered
pub record Enough (q : Requests) (from : ℕ → Option ℕ) (asks : ℕ → Bool) (D : ℕ → ℕ) (i c : ℕ) : Type 0 where
  pub spans : (τ : ℕ) → 1 ≤ τ → spans_over q from i τ ≤ D τ
  pub gaps : (l τ : ℕ) → l < c → from (suc l) ≡ none → asks (suc l) ≡ true → q.time l < τ → τ ≤ q.time (suc l) → 1 ≤ D τ

module _ (p : Rates) (q : Requests) (n : ℕ) (r : Rising q n) (allow : ℕ → Bool) (away : ℕ → ℕ → ℕ)
    (from : ℕ → Option ℕ) (fee : ℕ → ℕ) (asks : ℕ → Bool) (policy : Policy p q n allow away from fee asks) where
  -- the table
  abbrev t : ℕ → ℕ → ℕ
  t = table p q allow away

  -- the claim for the first i requests
  abbrev Bound : ℕ → Type 0
  Bound i = (c : ℕ) (D : ℕ → ℕ) → i ≤ n → c ≤ i → Enough q from asks D i c → t i c ≤ fees from fee i + p.hold * sum (q.time i) D

  -- the seconds rise
  rise : (i : ℕ) → i < n → q.time i ≤ q.time (suc i)
  rise i h = rises_le r i (suc i) (omega arith) h

  -- the seconds of a gap pay for it where it is open
  gap_paid : (i c : ℕ) (D : ℕ → ℕ) → i < n → from (suc i) ≡ none → Enough q from asks D (suc i) c
      → pick (asks (suc i)) (open_gap p q i c) 0 + p.hold * sum (q.time i) D ≤ p.hold * sum (q.time (suc i)) D
  gap_paid i c D h e d = go (true_or_false (asks (suc i))) (le_or_lt c i)
    where
      longer : p.hold * sum (q.time i) D ≤ p.hold * sum (q.time (suc i)) D
      longer = mul-le-mul_left p.hold (sum_longer D (q.time i) (q.time (suc i)) (rise i h))

      ones : asks (suc i) ≡ true → i < c → sum (q.time i) D + (q.time (suc i) - q.time i) ≤ sum (q.time (suc i)) D
      ones a b = sum_ones D (q.time i) (q.time (suc i)) (rise i h) (λ τ x y. d.gaps i τ b e a x y)

      go : (asks (suc i) ≡ true) ⊎ (asks (suc i) ≡ false) → (c ≤ i) ⊎ (i < c)
          → pick (asks (suc i)) (open_gap p q i c) 0 + p.hold * sum (q.time i) D ≤ p.hold * sum (q.time (suc i)) D
      go (inr a) b = rw a (omega (arith, longer))
      go (inl a) (inl b) = rw a (omega (arith, longer, open_gap_shut p q i c b))
      go (inl a) (inr b) = rw a (omega (arith, open_gap_open p q i c b, rw mul-add at (mul-le-mul_left p.hold (ones a b))))

  -- a request that is not kept
  step_gone : (i : ℕ) → Bound i → from (suc i) ≡ none → Bound (suc i)
  step_gone i ih e c D h k d =
      omega (
        arith,
        table_away p q allow away i c (policy.may i h e),
        policy.pays i c h e,
        gap_paid i c D h e d,
        fees_gone from fee i e,
        ih (min c i) D (omega arith) (omega arith) rest,
      )
    where
      rest : Enough q from asks D i (min c i)
      rest = record { spans = λ τ a. omega (arith, spans_gone q from i τ e, d.spans τ a); gaps = λ l τ a. d.gaps l τ (omega arith) }

  -- a request that is kept: its span is paid by a copy taken off D
  step_kept : (i j : ℕ) → Bound i → from (suc i) ≡ some j → Bound (suc i)
  step_kept i j ih e c D h k d =
      omega (
        arith,
        table_kept p q allow away i c j (policy.kept i j h e),
        fees_kept from fee i j e,
        ih (min c j) less (omega arith) (omega (arith, before)) rest,
        mul-le-mul_left p.hold (sum_longer less (q.time i) end (rise i h)),
        ap (λ (x : ℕ). p.hold * x) whole,
      )
    where
      before : j < suc i
      before = (previous_some q (suc i) j (policy.kept i j h e)).below

      end : ℕ
      end = q.time (suc i)

      less : ℕ → ℕ
      less τ = D τ - inside (q.time j) end τ

      fits : (τ : ℕ) → 1 ≤ τ → inside (q.time j) end τ + spans_over q from i τ ≤ D τ
      fits τ a = omega (arith, spans_kept q from i j τ e, d.spans τ a)

      rest : Enough q from asks less i (min c j)
      rest =
          record {
            spans = λ τ a. omega (arith, fits τ a);
            gaps = λ l τ a b f x y.
                omega (
                  arith,
                  d.gaps l τ (omega arith) b f x y,
                  inside_low (q.time j) end τ (omega (arith, rises_le r (suc l) j (omega arith) (omega (arith, before)))),
                );
          }

      whole : sum end D ≡ sum end less + (end - q.time j)
      whole = omega (arith, sum_minus end D (inside (q.time j) end) (λ τ a b. omega (arith, fits τ a)), sum_inside (q.time j) end end)

  -- request by request
  bound : (i : ℕ) → Bound i
  unfolding table
  bound zero c D h k d = omega arith
  bound (suc i) c D h k d = go (from (suc i)) refl (bound i)
    where
      go : (o : Option ℕ) → from (suc i) ≡ o → Bound i → t (suc i) c ≤ fees from fee (suc i) + p.hold * sum (q.time (suc i)) D
      go none e ih = step_gone i ih e c D h k d
      go (some j) e ih = step_kept i j ih e c D h k d

  -- the demand lemma, for any policy
  pub demand_of : (c : ℕ) (D : ℕ → ℕ) → c ≤ n → Enough q from asks D n c → t n c ≤ fees from fee n + p.hold * sum (q.time n) D
  demand_of c D h d = bound n c D (omega arith) h d

-- a marking of the first n requests that is K only where there is a previous request, and U only where there is an upload price
pub record Proper (p : Rates) (q : Requests) (n : ℕ) (m : ℕ → Mark) : Type 0 where
  pub kept : (i : ℕ) → i < n → m (suc i) ≡ K → legal p q (suc i) K ≡ true
  pub offered : (i : ℕ) → i < n → m (suc i) ≡ U → legal p q (suc i) U ≡ true

module _ (p : Rates) (q : Requests) (n : ℕ) (m : ℕ → Mark) (proper : Proper p q n m) where
  -- where no span begins it is not K
  not_begun : (i : ℕ) → i < n → begin q m (suc i) ≡ none → keeps (m (suc i)) ≡ false
  unfolding begin keeps legal some?
  not_begun i h e = go (m (suc i)) refl
    where
      go : (a : Mark) → m (suc i) ≡ a → keeps (m (suc i)) ≡ false
      go S d = rw d
      go U d = rw d
      go K d =
          let f : previous q (suc i) ≡ none = rw (d, begin) at e in
          absurd (not_both (proper.kept i h d) (rw f))

  -- the transfer price for each S and the upload price for each U
  mark_fees : fees (begin q m) (λ l. fee p (m l)) n ≤ p.transfer * sent m n + upload_fee p * loaded m n
  unfolding fees sent loaded keeps sends loads fee unkept
  mark_fees =
      omega (
        arith,
        sum_le n (λ l. unkept (begin q m l) (fee p (m l))) (λ l. by_mark (m l)) each,
        sum_add n (λ l. p.transfer * pick (sends (m l)) 1 0) (λ l. upload_fee p * pick (loads (m l)) 1 0),
        sum_scale p.transfer n (λ l. pick (sends (m l)) 1 0),
        sum_scale (upload_fee p) n (λ l. pick (loads (m l)) 1 0),
      )
    where
      by_mark : Mark → ℕ
      by_mark a = p.transfer * pick (sends a) 1 0 + upload_fee p * pick (loads a) 1 0

      paid : (a : Mark) → keeps a ≡ false → fee p a ≤ by_mark a
      paid K e = absurd (not_both refl e)
      paid S e = omega arith
      paid U e = omega arith

      one : (i : ℕ) → i < n → (o : Option ℕ) → begin q m (suc i) ≡ o → unkept o (fee p (m (suc i))) ≤ by_mark (m (suc i))
      one i h none e = paid (m (suc i)) (not_begun i h e)
      one i h (some j) e = omega arith

      each : (l : ℕ) → 1 ≤ l → l ≤ n → unkept (begin q m l) (fee p (m l)) ≤ by_mark (m l)
      each zero a b = absurd (omega arith)
      each (suc i) a b = one i b (begin q m (suc i)) refl

  -- the table where S is allowed everywhere lets it, with a copy over the gap before an S
  policy : Policy p q n (λ i. true) (free_price p q) (begin q m) (λ l. fee p (m l)) (λ l. sends (m l))
  unfolding May keeps sends fee send_price
  policy = record { kept = λ i j b e. begun q m (suc i) j e; may = λ i b e. inl refl; pays = λ i c b e. pays i c b (m (suc i)) refl (not_begun i b e) }
    where
      pays : (i c : ℕ) → i < n → (a : Mark) → m (suc i) ≡ a → keeps (m (suc i)) ≡ false
          → free_price p q i c ≤ fee p (m (suc i)) + pick (sends (m (suc i))) (open_gap p q i c) 0
      pays i c b K d e = absurd (not_both (rw d) e)
      pays i c b S d e = rw d (free_S p q i c)
      pays i c b U d e = rw d (omega (arith, free_U p q i c (proper.offered i b d)))

-- the demand lemma for a proper marking, each S at the transfer price and each U at the upload price
pub demand : (p : Rates) (q : Requests) (n : ℕ) → Rising q n → (m : ℕ → Mark) → Proper p q n m
    → (c : ℕ) (D : ℕ → ℕ) → c ≤ n → ((τ : ℕ) → 1 ≤ τ → spans_over q (begin q m) n τ ≤ D τ)
    → ((l τ : ℕ) → l < c → m (suc l) ≡ S → q.time l < τ → τ ≤ q.time (suc l) → 1 ≤ D τ)
    → free p q n c ≤ p.transfer * sent m n + upload_fee p * loaded m n + p.hold * sum (q.time n) D
unfolding free
demand p q n r m proper c D h spans gaps =
    omega (
      arith,
      demand_of p q n r (λ i. true) (free_price p q) (begin q m) (λ l. fee p (m l)) (λ l. sends (m l)) (policy p q n m proper) c D h
          (record { spans = spans; gaps = λ l τ a b f x y. gaps l τ a (sends_S (m (suc l)) f) x y }),
      mark_fees p q n m proper,
    )
