-- What the first i marks of a marking cost when the gaps above c are covered: it obeys the table's two steps, so no legal marking costs less than the table says.
use Rattle.std.specs.Prelude.{Bool, ◌⊎◌, ◌≡◌}
use Rattle.std.proofs.Math.Bool.{true, false}
use Rattle.std.proofs.Common.{inl, inr, sym, ap, ◌∙◌}
use Rattle.std.proofs.Math.Option.{Option, none, some}
use Rattle.std.proofs.Math.Path.{refl}
use native.Mathlib.Omega.{arith}
use Prim.Native.Nat.{ℕ, zero, suc, ◌+◌, ◌*◌, ◌≤◌, ◌<◌, min}
use Rattle.std.proofs.Math.Dec.{leb}
use borrow.Author.Tests.{le-leb, lt-leb, lt-ltb, le-ltb}
use Rattle.base.specs.Choice.{pick, le_or_lt}
use Rattle.model.specs.Rates.{Rates}
use Rattle.model.specs.Sums.{sum}
use Rattle.model.proofs.SumLaws.{sum_same}
use Rattle.model.specs.Requests.{Requests, previous}
use Rattle.model.proofs.RequestLaws.{previous_some}
use Rattle.model.specs.Marking.{Mark, K, S, U, keeps, loads, begin, after, spans, any, covered, own, asked, cost, Valid}
use Rattle.model.proofs.LegalLaws.{kept_from, begun}
use Rattle.model.specs.Table.{open_gap, table, best}
use Rattle.model.proofs.TableLaws.{span}
use Rattle.model.proofs.Leaving.{leave_price}
use Rattle.model.proofs.BestLaws.{best_leave, best_K}

module _ (p : Rates) (q : Requests) where
  -- what gap k costs if no span covers it, with the gaps above c free
  unfoldable pub left_open : (ℕ → Mark) → ℕ → ℕ → ℕ → ℕ
  left_open m i c k = pick (covered q m i k) 0 (pick (leb k c) (p.hold * asked q m k) 0)

  -- the cost of the first i marks when the gaps above c are covered
  unfoldable pub part : (ℕ → Mark) → ℕ → ℕ → ℕ
  part m i c = sum i (λ i. own p q (begin q m i) (m i) i) + sum i (left_open m i c)

  -- with all marks, and no gap covered by later ones, it is the cost
  pub part_cost : (m : ℕ → Mark) (n : ℕ) → part m n n ≡ cost p q m n
  unfolding part cost left_open
  part_cost m n =
      omega (arith, sum_same n (left_open m n n) (λ k. pick (covered q m n k) 0 (p.hold * asked q m k)) (λ k a b. rw (le-leb k n b)))

  -- a span lies over no gap after its request
  covered_above : (m : ℕ → Mark) (i k : ℕ) → i < k → covered q m i k ≡ false
  unfolding covered any spans
  covered_above m zero k h = refl
  covered_above m (suc i) k h = rw (lt-leb k (suc i) h) (covered_above m i k (omega arith))

  -- a request that is not kept covers no gap
  covered_away : (m : ℕ → Mark) (i k : ℕ) → begin q m (suc i) ≡ none → covered q m (suc i) k ≡ covered q m i k
  unfolding covered any spans after
  covered_away m i k e = go (leb k (suc i)) refl
    where
      go : (b : Bool) → leb k (suc i) ≡ b → covered q m (suc i) k ≡ covered q m i k
      go true x = rw (x, e)
      go false x = rw x

  -- a kept request covers the gaps of its span
  covered_span : (m : ℕ → Mark) (i k j : ℕ) → begin q m (suc i) ≡ some j → j < k → k ≤ suc i → covered q m (suc i) k ≡ true
  unfolding covered any spans after
  covered_span m i k j e a b = rw (e, le-leb k (suc i) b, lt-ltb j k a)

  -- and none before it
  covered_before : (m : ℕ → Mark) (i k j : ℕ) → begin q m (suc i) ≡ some j → k ≤ j → covered q m (suc i) k ≡ covered q m i k
  unfolding covered any spans after
  covered_before m i k j e a = go (leb k (suc i)) refl
    where
      go : (b : Bool) → leb k (suc i) ≡ b → covered q m (suc i) k ≡ covered q m i k
      go true x = rw (x, e, le-ltb j k a)
      go false x = rw x

  -- a gap up to j is up to c where it is up to the least of the two
  leb_min : (k c j : ℕ) → k ≤ j → leb k c ≡ leb k (min c j)
  leb_min k c j h = go (le_or_lt k c)
    where
      go : (k ≤ c) ⊎ (c < k) → leb k c ≡ leb k (min c j)
      go (inl a) = le-leb k c a ∙ sym (le-leb k (min c j) (omega arith))
      go (inr a) = lt-leb k c a ∙ sym (lt-leb k (min c j) (omega arith))

  -- a step at a request that is not kept
  pub part_away : (m : ℕ → Mark) (i c : ℕ) → begin q m (suc i) ≡ none → part m (suc i) c ≡ leave_price p q i c (m (suc i)) + part m i (min c i)
  unfolding part sum own left_open asked loads open_gap
  part_away m i c e =
      rw (e, covered_away m i (suc i) e, covered_above m i (suc i) (omega arith))
      (omega (
        arith,
        left (m (suc i)) refl,
        sum_same i (left_open m (suc i) c) (left_open m i (min c i)) (λ k a b. rw (covered_away m i k e, leb_min k c i b)),
      ))
    where
      left : (a : Mark) → m (suc i) ≡ a → pick (leb (suc i) c) (p.hold * asked q m (suc i)) 0 ≡ pick (loads (m (suc i))) 0 (open_gap p q i c)
      left K z = rw z
      left S z = rw z
      left U z = go (leb (suc i) c) refl
        where
          go : (b : Bool) → leb (suc i) c ≡ b → pick b (p.hold * asked q m (suc i)) 0 ≡ pick (loads (m (suc i))) 0 (open_gap p q i c)
          go true w = rw z (omega arith)
          go false w = rw z

  -- a step at a request that is kept from j
  pub part_kept : (m : ℕ → Mark) (i c j : ℕ) → begin q m (suc i) ≡ some j → j ≤ i → part m (suc i) c ≡ span p q j (suc i) + part m i (min c j)
  unfolding part sum own left_open
  part_kept m i c j e h =
      rw (e, covered_span m i (suc i) j e (omega arith) (omega arith))
      (omega (arith, sum_same i (left_open m (suc i) c) (left_open m i (min c j)) (λ k a b. go k b (le_or_lt k j) (covered q m i k) refl)))
    where
      go : (k : ℕ) → k ≤ i → (k ≤ j) ⊎ (j < k) → (x : Bool) → covered q m i k ≡ x → left_open m (suc i) c k ≡ left_open m i (min c j) k
      go k b (inl a) x z = rw (covered_before m i k j e a, leb_min k c j a)
      go k b (inr a) true z = rw (covered_span m i k j e a (omega arith), z)
      go k b (inr a) false z = rw (covered_span m i k j e a (omega arith), z, lt-leb k (min c j) (omega arith))

  -- a step at a mark that is not K
  pub part_leave : (m : ℕ → Mark) (i c : ℕ) (a : Mark) → m (suc i) ≡ a → keeps a ≡ false → part m (suc i) c ≡ leave_price p q i c a + part m i (min c i)
  unfolding begin
  part_leave m i c a e d = rw (← e) (part_away m i c (rw (e, d)))

  -- a step at K
  pub part_K : (m : ℕ → Mark) (i c j : ℕ) → m (suc i) ≡ K → previous q (suc i) ≡ some j → part m (suc i) c ≡ span p q j (suc i) + part m i (min c j)
  unfolding begin keeps
  part_K m i c j e z = part_kept m i c j (rw (e, z)) (omega (arith, (previous_some q (suc i) j z).below))

  -- only the marks up to i count
  pub part_same : (m m' : ℕ → Mark) (i c : ℕ) → ((l : ℕ) → 1 ≤ l → l ≤ i → m l ≡ m' l) → part m i c ≡ part m' i c
  unfolding part sum begin
  part_same m m' zero c h = refl
  part_same m m' (suc i) c h = go (begin q m' (suc i)) refl (λ c. part_same m m' i c (λ l a b. h l a (omega arith)))
    where
      same : begin q m (suc i) ≡ begin q m' (suc i)
      same = rw (h (suc i) (omega arith) (omega arith))

      go : (o : Option ℕ) → begin q m' (suc i) ≡ o → ((c : ℕ) → part m i c ≡ part m' i c) → part m (suc i) c ≡ part m' (suc i) c
      go none e ih =
          omega (
            arith,
            part_away m i c (same ∙ e),
            part_away m' i c e,
            ap (leave_price p q i c) (h (suc i) (omega arith) (omega arith)),
            ih (min c i),
          )
      go (some j) e ih =
          let b : j < suc i = (previous_some q (suc i) j (begun q m' (suc i) j e)).below in
          omega (arith, part_kept m i c j (same ∙ e) (omega arith), part_kept m' i c j e (omega arith), ih (min c j))

  -- the table is at most the cost of any legal marking
  pub best_part : (m : ℕ → Mark) (i c : ℕ) → Valid p q m i → best p q i c ≤ part m i c
  unfolding best table keeps
  best_part m zero c ok = omega arith
  best_part m (suc i) c ok = go (m (suc i)) refl (λ c. best_part m i c (λ l a b. ok l a (omega arith)))
    where
      away : (a : Mark) → m (suc i) ≡ a → keeps a ≡ false → ((c : ℕ) → best p q i c ≤ part m i c) → best p q (suc i) c ≤ part m (suc i) c
      away a e d ih =
          omega (arith, best_leave p q i c a d (rw e at (ok (suc i) (omega arith) (omega arith))), part_leave m i c a e d, ih (min c i))

      go : (a : Mark) → m (suc i) ≡ a → ((c : ℕ) → best p q i c ≤ part m i c) → best p q (suc i) c ≤ part m (suc i) c
      go K e ih =
          let j = kept_from p q (suc i) (rw e at (ok (suc i) (omega arith) (omega arith))) in
          omega (arith, best_K p q i c j.0 j.1, part_K m i c j.0 e j.1, ih (min c j.0))
      go S e ih = away S e refl ih
      go U e ih = away U e refl ih

  -- so no legal marking costs less than the table says
  pub best_cost : (m : ℕ → Mark) (n : ℕ) → Valid p q m n → best p q n n ≤ cost p q m n
  best_cost m n ok = rw (← (part_cost m n)) (best_part m n n ok)
