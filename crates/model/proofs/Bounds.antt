-- Bounds of the least cost: without uploads at least what each request costs by itself, and at least one copy held throughout; with uploads or
-- without at most both together.
use Rattle.std.specs.Prelude.{Bool, true, false, ◌⊎◌, ◌≡◌}
use Rattle.std.proofs.Common.{inl, inr, mul-le-mul_left}
use Rattle.std.proofs.Math.Option.{Option, none, some}
use Rattle.std.proofs.Math.Path.{refl, ap}
use Rattle.std.proofs.Math.Nat.{mul-sub, min-eq_left, min-eq_right}
use native.Mathlib.Omega.{arith}
use Prim.Native.Nat.{ℕ, zero, suc, ◌+◌, ◌*◌, ◌≤◌, ◌<◌, min}
use Rattle.base.specs.Choice.{le_or_lt}
use Rattle.model.specs.Rates.{Rates, pair}
use Rattle.model.specs.Sums.{sum}
use Rattle.model.specs.Requests.{Requests, previous, Rising}
use Rattle.model.proofs.RequestLaws.{previous_some, rises_le}
use Rattle.model.specs.Quote.{least_own}
use Rattle.model.specs.Marking.{S, keeps, loads, legal, fee}
use Rattle.model.specs.Table.{open_gap, table, send_price, away_price, may_leave, best}
use Rattle.model.proofs.TableLaws.{held, span, open_gap_shut, open_gap_open, send_fair, Attained, gone, kept, table_cases, table_rises, table_slope_upto}
use Rattle.model.proofs.Leaving.{cheaper_fair}
use Rattle.model.proofs.BestLaws.{forced_next, best_zero, best_leave, best_K, best_plain}

module _ (p : Rates) (q : Requests) where
  -- what a request costs by itself is at most a transfer
  own_transfer : (i : ℕ) → least_own (pair p) q i ≤ p.transfer
  unfolding least_own
  own_transfer i = go (previous q i) refl
    where
      go : (o : Option ℕ) → previous q i ≡ o → least_own (pair p) q i ≤ p.transfer
      go none e = rw (e, least_own) (omega arith)
      go (some j) e = rw (e, least_own) (omega arith)

  -- at most its span
  own_span : (i j : ℕ) → previous q i ≡ some j → least_own (pair p) q i ≤ span p q j i
  unfolding least_own
  own_span i j e = rw (e, least_own) (omega arith)

  -- which of the two it is
  data Own (i : ℕ) : Type 0 where
    by_span : (j : ℕ) → previous q i ≡ some j → least_own (pair p) q i ≡ span p q j i → Own i
    by_transfer : least_own (pair p) q i ≡ p.transfer → Own i

  -- it is one of them
  own_cases : (i : ℕ) → Own i
  unfolding least_own
  own_cases i = go (previous q i) refl
    where
      two : (j : ℕ) → previous q i ≡ some j → (span p q j i ≤ p.transfer) ⊎ (p.transfer < span p q j i) → Own i
      two j e (inl h) = by_span j e (rw (e, least_own) (omega arith))
      two j e (inr h) = by_transfer (rw (e, least_own) (omega arith))

      go : (o : Option ℕ) → previous q i ≡ o → Own i
      go none e = by_transfer (rw (e, least_own))
      go (some j) e = two j e (le_or_lt (span p q j i) p.transfer)

  -- all together at most a transfer for each
  pub owns_most : (n : ℕ) → sum n (least_own (pair p) q) ≤ p.transfer * n
  unfolding sum
  owns_most zero = omega arith
  owns_most (suc n) = omega (arith, owns_most n, own_transfer (suc n))

  -- what holds of a table of the first n requests, whatever is allowed
  pub record Bounded (n : ℕ) (t : ℕ → ℕ → ℕ) : Type 0 where
    pub owns : (i c : ℕ) → sum i (least_own (pair p) q) ≤ t i c
    pub holds : (i c : ℕ) → c ≤ i → i ≤ n → held p q c ≤ t i c
    pub rises : (i c d : ℕ) → c ≤ d → t i c ≤ t i d
    pub slope : (i c d : ℕ) → c ≤ d → d ≤ n → t i d + held p q c ≤ t i c + held p q d

  -- the table of the legal markings rises with c
  pub best_rises : (i c d : ℕ) → c ≤ d → best p q i c ≤ best p q i d
  unfolding best away_price
  best_rises = table_rises p q (may_leave p q) (away_price p q) (cheaper_fair p q (λ i. legal p q (suc i) S))

  module _ (n : ℕ) (rising : Rising q n) where
    -- holding longer costs no less
    held_rises : (i j : ℕ) → i ≤ j → j ≤ n → held p q i ≤ held p q j
    held_rises i j h k = mul-le-mul_left p.hold (rises_le rising i j h k)

    -- holding to request j, and on to request i, is holding to request i
    held_span : (i j : ℕ) → j ≤ i → i ≤ n → held p q j + span p q j i ≡ held p q i
    held_span i j h k = omega (arith, mul-sub p.hold (q.time i) (q.time j), held_rises j i h k)

    -- the open gap and the holding before it are the holding up to c
    gap_held : (i c : ℕ) → c ≤ suc i → suc i ≤ n → open_gap p q i c + held p q (min c i) ≡ held p q c
    gap_held i c h k = go (le_or_lt c i)
      where
        go : (c ≤ i) ⊎ (i < c) → open_gap p q i c + held p q (min c i) ≡ held p q c
        go (inl a) = omega (arith, open_gap_shut p q i c a, ap (held p q) (min-eq_left a))
        go (inr a) =
            let z : c ≡ suc i = omega arith in
            omega (arith, open_gap_open p q i c a, ap (held p q) z, ap (held p q) (min-eq_right {n = i} {m = c} (omega arith)), held_span (suc i) i (omega arith) k)

    -- a span and the holding before it are at least the holding up to c
    span_held : (i c j : ℕ) → previous q (suc i) ≡ some j → c ≤ suc i → suc i ≤ n → held p q c ≤ span p q j (suc i) + held p q (min c j)
    span_held i c j z h k = go (le_or_lt c j) (previous_some q (suc i) j z).below
      where
        go : (c ≤ j) ⊎ (j < c) → j < suc i → held p q c ≤ span p q j (suc i) + held p q (min c j)
        go (inl a) b = omega (arith, ap (held p q) (min-eq_left a))
        go (inr a) b =
            omega (arith, ap (held p q) (min-eq_right {n = j} {m = c} (omega arith)), held_span (suc i) j (omega arith) k, held_rises c (suc i) h k)

    module _ (allow : ℕ → Bool) where
      -- the table
      abbrev t : ℕ → ℕ → ℕ
      t = table p q allow (send_price p q)

      -- each mark costs its request's least or more
      table_owns : (i c : ℕ) → sum i (least_own (pair p) q) ≤ t i c
      unfolding table sum send_price
      table_owns zero c = omega arith
      table_owns (suc i) c = go (table_cases p q allow (send_price p q) i c) (table_owns i)
        where
          go : Attained p q allow (send_price p q) i c → ((c : ℕ) → sum i (least_own (pair p) q) ≤ t i c) → sum (suc i) (least_own (pair p) q) ≤ t (suc i) c
          go (gone may e) ih = omega (arith, ih (min c i), own_transfer (suc i))
          go (kept j z e) ih = omega (arith, ih (min c j), own_span (suc i) j z)

      -- each gap up to c is covered or paid
      table_holds : (i c : ℕ) → c ≤ i → i ≤ n → held p q c ≤ t i c
      unfolding table send_price
      table_holds zero c h k = let z : c ≡ 0 = omega arith in omega (arith, ap (held p q) z, ap (λ (x : ℕ). p.hold * x) rising.start)
      table_holds (suc i) c h k = go (table_cases p q allow (send_price p q) i c) (table_holds i)
        where
          go : Attained p q allow (send_price p q) i c → ((c : ℕ) → c ≤ i → i ≤ n → held p q c ≤ t i c) → held p q c ≤ t (suc i) c
          go (gone may e) ih = omega (arith, e, ih (min c i) (omega arith) (omega arith), gap_held i c h k)
          go (kept j z e) ih =
              let b : j < suc i = (previous_some q (suc i) j z).below in
              omega (arith, e, ih (min c j) (omega arith) (omega arith), span_held i c j z h k)

      -- all four
      table_bounded : Bounded n t
      table_bounded =
          record {
            owns = table_owns;
            holds = table_holds;
            rises = table_rises p q allow (send_price p q) (send_fair p q);
            slope = table_slope_upto p q allow (send_price p q) (send_fair p q) n (rises_le rising);
          }

    -- so for the table of the legal markings, where there is no upload price
    pub best_bounded : p.upload ≡ none → Bounded n (best p q)
    best_bounded u = rw (best_plain p q u) (table_bounded (λ i. legal p q i S))

    -- the least is at most both lower bounds together
    pub best_most : (i : ℕ) → i ≤ n → best p q i i ≤ sum i (least_own (pair p) q) + held p q i
    unfolding sum keeps fee loads
    best_most zero k = omega (arith, best_zero p q 0)
    best_most (suc i) k = go (own_cases (suc i)) (legal p q (suc i) S) refl (best_most i (omega arith))
      where
        low : (j : ℕ) → j ≤ i → best p q i (min (suc i) j) ≤ best p q i i
        low j h = best_rises i (min (suc i) j) i (omega arith)

        go : Own (suc i)
            → (b : Bool) → legal p q (suc i) S ≡ b → best p q i i ≤ sum i (least_own (pair p) q) + held p q i → best p q (suc i) (suc i) ≤ sum (suc i) (least_own (pair p) q) + held p q (suc i)
        go (by_span j z e) b l ih =
            let a : j < suc i = (previous_some q (suc i) j z).below in
            omega (arith, e, best_K p q i (suc i) j z, low j (omega arith), held_rises i (suc i) (omega arith) k)
        go (by_transfer e) true l ih = omega (arith, e, best_leave p q i (suc i) S refl l, low i (omega arith), gap_held i (suc i) (omega arith) k, ap (held p q) (min-eq_right {n = i} {m = suc i} (omega arith)))
        go (by_transfer e) false l ih = omega (arith, e, best_K p q i (suc i) i (forced_next p q i l), low i (omega arith), held_span (suc i) i (omega arith) k)
