-- How many servers hold over a gap: one for each K span over it, or one where there is none, unless the gap is before a U.
use Rattle.std.specs.Prelude.{Bool, true, false, not, ◌≡◌, eqb}
use Rattle.std.proofs.Math.Path.{refl}
use Rattle.std.proofs.Common.{sym, ◌∙◌, arith, eq-eqb, eqb-true, ne_eqb}
use Prim.Native.Nat.{ℕ, pred, ◌+◌, ◌≤◌, ◌<◌}
use Rattle.base.specs.Choice.{pick, both}
use Rattle.model.specs.Sums.{sum}
use Rattle.model.proofs.SumLaws.{sum_same, sum_zero, sum_swap}
use Rattle.model.proofs.CountLaws.{sum_server, one_server}
use Rattle.model.specs.Requests.{Requests, Within}
use Rattle.model.proofs.RequestLaws.{previous_some}
use Rattle.model.specs.Marking.{Mark, loads, spans, any, covered, holds}
use Rattle.base.specs.ChoiceLaws.{both_true}
use Rattle.model.proofs.TestLaws.{any_none, any_counts}
use Rattle.model.proofs.HolderLaws.{spans_true}

module _ (q : Requests) (m : ℕ → Mark) (n count : ℕ) (within : Within count q n) where
  -- of one server's requests at most one has a K span over gap k
  span_once : (k y i j : ℕ) → i < j → both (eqb (q.server i) y) (spans q m i k) ≡ true → both (eqb (q.server j) y) (spans q m j k) ≡ true → ⊥
  span_once k y i j h e f =
      let a = both_true (eqb (q.server i) y) (spans q m i k) e in
      let b = both_true (eqb (q.server j) y) (spans q m j k) f in
      let s = spans_true q m i k a.1 in
      let t = spans_true q m j k b.1 in
      (previous_some q j t.start t.since).last i (omega (arith, s.upto, t.above)) h
      (eqb-true (q.server i) y a.0 ∙ sym (eqb-true (q.server j) y b.0))

  -- the number of servers that hold over gap k
  pub holder_count : (k : ℕ) → 1 ≤ k → k ≤ n
      → sum count (λ y. pick (holds q m n k (pred y)) 1 0) ≡ sum n (λ i. pick (spans q m i k) 1 0) + pick (covered q m n k) 0 (pick (loads (m k)) 0 1)
  unfolding holds covered Within
  holder_count k a b = go (covered q m n k) (loads (m k)) refl
    where
      one : (i y : ℕ) → ℕ
      one i y = pick (both (eqb (q.server i) y) (spans q m i k)) 1 0

      by_server : (i : ℕ) → 1 ≤ i → i ≤ n → sum count (λ y. one i (pred y)) ≡ pick (spans q m i k) 1 0
      by_server i c d =
          sum_server count (q.server i) (one i) (within i d) (λ y e. rw (ne_eqb (q.server i) y (λ z. e (sym z))))
          ∙ rw (eq-eqb (q.server i) (q.server i) refl)

      no_span : covered q m n k ≡ false → sum n (λ i. pick (spans q m i k) 1 0) ≡ 0
      no_span c = sum_zero n (λ i. pick (spans q m i k) 1 0) (λ i d e. rw (any_none n (λ l. spans q m l k) c i d e))

      go : (c u : Bool) → covered q m n k ≡ c
          → sum count (λ y. pick (pick c (any n (λ i. both (eqb (q.server i) (pred y)) (spans q m i k))) (both (not u) (eqb (pred y) (q.server (pred k))))) 1 0)
          ≡ sum n (λ i. pick (spans q m i k) 1 0) + pick c 0 (pick u 0 1)
      go true u c =
          omega (
            arith,
            sum_same count (λ y. pick (any n (λ i. both (eqb (q.server i) (pred y)) (spans q m i k))) 1 0) (λ y. sum n (λ i. one i (pred y)))
                (λ y d e. any_counts n (λ i. both (eqb (q.server i) (pred y)) (spans q m i k)) (λ i j h g. span_once k (pred y) i j h)),
            sum_swap count n (λ y i. one i (pred y)),
            sum_same n (λ i. sum count (λ y. one i (pred y))) (λ i. pick (spans q m i k) 1 0) by_server,
          )
      go false true c = omega (arith, no_span c, sum_zero count (λ y. 0) (λ y d e. refl))
      go false false c = omega (arith, no_span c, one_server count (q.server (pred k)) (within (pred k) (omega arith)))
