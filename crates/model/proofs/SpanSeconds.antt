-- The gaps under a K span add up to the span.
use Rattle.std.specs.Prelude.{Bool, true, false, ◌⊎◌, ◌≡◌, refl, leb, ltb}
use Rattle.std.proofs.Common.{inl, inr, ap}
use Rattle.std.proofs.Math.Option.{Option, none, some}
use native.Mathlib.Omega.{arith}
use Prim.Native.Nat.{ℕ, zero, suc, ◌-◌, ◌*◌, ◌≤◌, ◌<◌, min}
use borrow.Author.Tests.{lt-ltb, le-ltb, le-leb, lt-leb}
use Rattle.base.specs.Choice.{pick, both, le_or_lt}
use Rattle.model.specs.Sums.{sum}
use Rattle.model.proofs.SumLaws.{sum_zero}
use Rattle.model.specs.Requests.{Requests, Rising}
use Rattle.model.proofs.RequestLaws.{previous_some, rises_le}
use Rattle.model.proofs.LegalLaws.{begun}
use Rattle.model.specs.Marking.{Mark, begin, after, spans, gap}

-- 1 for a gap over j, up to i
abbrev over : ℕ → ℕ → ℕ → ℕ
over j i k = pick (both (leb k i) (ltb j k)) 1 0

module _ (q : Requests) (n j i : ℕ) (rise : Rising q n) (below : j ≤ i) (upto : i ≤ n) where
  -- one request, one second
  time_at : (a b : ℕ) → a ≡ b → q.time a ≡ q.time b
  time_at a b e = ap q.time e

  -- the gaps over j, up to i, of the first k
  gaps_so_far : (k : ℕ) → k ≤ n → sum k (λ g. gap q g * over j i g) ≡ q.time (min k i) - q.time (min k j)
  unfolding sum gap
  gaps_so_far zero h = omega (arith, time_at (min 0 i) 0 (omega arith), time_at (min 0 j) 0 (omega arith))
  gaps_so_far (suc k) h = go (le_or_lt (suc k) j) (le_or_lt (suc k) i) (gaps_so_far k (omega arith))
    where
      go : (suc k ≤ j) ⊎ (j < suc k) → (suc k ≤ i) ⊎ (i < suc k)
          → sum k (λ g. gap q g * over j i g) ≡ q.time (min k i) - q.time (min k j)
          → sum (suc k) (λ g. gap q g * over j i g) ≡ q.time (min (suc k) i) - q.time (min (suc k) j)
      go (inl a) b ih =
          rw (le-leb (suc k) i (omega arith), le-ltb j (suc k) a)
          (omega (
            arith,
            time_at (min k i) k (omega arith),
            time_at (min k j) k (omega arith),
            time_at (min (suc k) i) (suc k) (omega arith),
            time_at (min (suc k) j) (suc k) (omega arith),
          ))
      go (inr a) (inl b) ih =
          rw (le-leb (suc k) i b, lt-ltb j (suc k) a)
          (omega (
            arith,
            time_at (min k i) k (omega arith),
            time_at (min k j) j (omega arith),
            time_at (min (suc k) i) (suc k) (omega arith),
            time_at (min (suc k) j) j (omega arith),
            rises_le rise j k (omega arith) (omega arith),
            rise.rise k h,
          ))
      go (inr a) (inr b) ih =
          rw (lt-leb (suc k) i b)
          (omega (
            arith,
            time_at (min k i) i (omega arith),
            time_at (min k j) j (omega arith),
            time_at (min (suc k) i) i (omega arith),
            time_at (min (suc k) j) j (omega arith),
          ))

  -- and of all n
  gaps_between : sum n (λ g. gap q g * over j i g) ≡ q.time i - q.time j
  gaps_between = omega (arith, gaps_so_far n (omega arith), time_at (min n i) i (omega arith), time_at (min n j) j (omega arith))

-- the seconds of the span of a request kept since a previous one
unfoldable pub seconds : Requests → Option ℕ → ℕ → ℕ
seconds q none i = 0
seconds q (some j) i = q.time i - q.time j

-- the gaps under the span of request i
pub span_seconds : (q : Requests) (m : ℕ → Mark) (n : ℕ) → Rising q n → (i : ℕ) → i ≤ n
    → sum n (λ k. gap q k * pick (spans q m i k) 1 0) ≡ seconds q (begin q m i) i
unfolding spans after seconds
span_seconds q m n rise i h = go (begin q m i) refl
  where
    never : (a b : ℕ) (t : Bool) → a * pick (both t false) b 0 ≡ 0
    never a b true = omega arith
    never a b false = omega arith

    go : (o : Option ℕ) → begin q m i ≡ o → sum n (λ k. gap q k * pick (both (leb k i) (after o k)) 1 0) ≡ seconds q o i
    go none e = sum_zero n (λ k. gap q k * pick (both (leb k i) false) 1 0) (λ k a b. never (gap q k) 1 (leb k i))
    go (some j) e = gaps_between q n j i rise (omega (arith, (previous_some q i j (begun q m i j e)).below)) h
