-- The running cost, with what is still to be held, is at most three times the least, and the closing cost at most a transfer more: for all prices of at
-- least 1.
use Rattle.std.proofs.Math.Option.{some}
use Rattle.std.specs.Prelude.{◌≡◌}
use Rattle.std.proofs.Math.Path.{refl, ap}
use Rattle.std.proofs.Math.Nat.{mul-le-mul_left, mul-sub}
use native.Mathlib.Omega.{arith}
use Prim.Native.Nat.{ℕ, zero, suc, ◌+◌, ◌-◌, ◌*◌, ◌≤◌, ◌<◌}
use Rattle.prices.specs.declared.Prices.{Prices}
use Rattle.prices.specs.Prices.{window}
use Rattle.prices.specs.WindowLaws.{window_low, window_high}
use Rattle.model.specs.Sums.{sum}
use Rattle.model.specs.Requests.{Requests, previous, Rising, Within}
use Rattle.model.proofs.RequestLaws.{none_some, rises_le}
use Rattle.model.specs.Rates.{rates, plain}
use Rattle.model.specs.Table.{best}
use Rattle.model.proofs.Bounds.{best_bounded}
use Rattle.model.specs.Quote.{least_own}
use Rattle.online.specs.Servers.{across}
use Rattle.bounds.specs.History.{last_use, held, transfers, remaining, running_cost, closing_cost}
use Rattle.bounds.proofs.HistoryLaws.{Marked, again, back, sent, marked, Link, never, since, link, transfers_S, transfers_K, transfers_most}
use Rattle.bounds.proofs.Seconds.{held_zero, held_step}
use Rattle.bounds.proofs.Potential.{left, Moves, moves_again, moves_back, moves_sent, moves_all, left_zero, remaining_lefts}

-- what the servers below the count still have to hold after request n, but for the last one: each up to its last use plus the window
unfoldable pub lefts : Prices → Requests → ℕ → ℕ → ℕ
lefts p q count n = across count (left (window p) q n)

module _ (p : Prices) (q : Requests) (count n : ℕ) (holding : 1 ≤ p.hold) (rising : Rising q n) (within : Within count q n) where
  -- their window
  abbrev W : ℕ
  W = window p

  -- the seconds rise
  up : (i : ℕ) → i < n → q.time i ≤ q.time (suc i)
  up i h = rises_le rising i (suc i) (omega arith) h

  -- an S costs any marking a transfer: its server's span is longer than the window
  own_sent : (i : ℕ) → i < n → ((u : ℕ) → last_use W q i (q.server (suc i)) ≡ some u → u + W < q.time (suc i))
      → p.transfer ≤ least_own p q (suc i)
  unfolding least_own previous
  own_sent i h far = go (link W q n rising i (q.server (suc i)) (omega arith))
    where
      go : Link W q i (q.server (suc i)) → p.transfer ≤ least_own p q (suc i)
      go (never a b) = rw (a, least_own) (omega arith)
      go (since j u a b c d) =
          rw (a, least_own)
          (omega (arith, window_high p holding, mul-le-mul_left p.hold (let z : W + 1 ≤ q.time (suc i) - q.time j = omega (arith, far u b) in z)))

  -- a K at another server than the last costs any marking the seconds from its last use to the request before
  own_back : (i u : ℕ) → i < n → last_use W q i (q.server (suc i)) ≡ some u → q.time (suc i) ≤ u + W
      → p.hold * (q.time i - u) ≤ least_own p q (suc i)
  unfolding least_own previous
  own_back i u h e f = go (link W q n rising i (q.server (suc i)) (omega arith))
    where
      go : Link W q i (q.server (suc i)) → p.hold * (q.time i - u) ≤ least_own p q (suc i)
      go (never a b) = absurd (none_some b e)
      go (since j w a b c d) =
          let z : u ≡ w = cc in
          rw (a, least_own)
          (omega (
            arith,
            window_low p,
            mul-le-mul_left p.hold (let y : q.time i - u ≤ W = omega (arith, up i h) in y),
            mul-le-mul_left p.hold (let y : q.time i - u ≤ q.time (suc i) - q.time j = omega (arith, up i h) in y),
          ))

  -- the running cost up to request i, with what is left to hold
  abbrev spending : ℕ → ℕ
  spending i = p.transfer * transfers W q i + p.hold * held W q count i + p.hold * lefts p q count i

  -- it is at most twice what each request costs by itself, and one copy throughout
  abbrev Bound : ℕ → Type 0
  Bound i = spending i ≤ 2 * sum i (least_own p q) + p.hold * q.time i

  -- the servers, at a request that moves g and d
  moved : (i g d : ℕ) → i < n → Moves W q i g d → held W q count (suc i) + lefts p q count (suc i) + g ≤ held W q count i + lefts p q count i + d
  unfolding lefts Within
  moved i g d h m =
      omega (arith, held_step W q count i (up i h), moves_all W q count i g d m (within i (omega arith)) (within (suc i) h))

  -- one request more
  bound_step : (i : ℕ) → i < n → Bound i → Marked W q i → Bound (suc i)
  unfolding sum
  bound_step i h ih (again e m) =
      omega (
        arith,
        ap (λ (x : ℕ). p.transfer * x) (transfers_K W q i m),
        mul-le-mul_left p.hold (moved i 0 (q.time (suc i) - q.time i) h (moves_again W q i (up i h) e)),
        mul-sub p.hold (q.time (suc i)) (q.time i),
        mul-le-mul_left p.hold (up i h),
      )
  bound_step i h ih (back e m u l f) =
      omega (
        arith,
        ap (λ (x : ℕ). p.transfer * x) (transfers_K W q i m),
        mul-le-mul_left p.hold all,
        own_back i u h l f,
        mul-sub p.hold (q.time i) u,
      )
    where
      all : held W q count (suc i) + lefts p q count (suc i) + q.time i ≤ held W q count i + lefts p q count i + q.time (suc i) + (q.time i - u)
      all =
          omega (
            arith,
            up i h,
            moved i (u + W - q.time (suc i)) (q.time (suc i) - q.time i + (q.time i + W - q.time (suc i))) h (moves_back W q i (up i h) u e m l f),
          )
  bound_step i h ih (sent e m far) =
      omega (
        arith,
        ap (λ (x : ℕ). p.transfer * x) (transfers_S W q i m),
        mul-le-mul_left p.hold all,
        window_low p,
        own_sent i h far,
      )
    where
      all : held W q count (suc i) + lefts p q count (suc i) + q.time i ≤ held W q count i + lefts p q count i + q.time (suc i) + W
      all = omega (arith, up i h, moved i 0 (q.time (suc i) - q.time i + W) h (moves_sent W q i (up i h) e m))

  -- request by request
  bound : (i : ℕ) → i ≤ n → Bound i
  unfolding lefts
  bound zero h =
      omega (
        arith,
        ap (λ (x : ℕ). p.transfer * x) (let z : transfers W q 0 ≡ 0 = omega (arith, transfers_most W q 0) in z),
        ap (λ (x : ℕ). p.hold * x) (held_zero W q count rising.start),
        ap (λ (x : ℕ). p.hold * x) (left_zero W q count),
      )
  bound (suc i) h = bound_step i h (bound i (omega arith)) (marked W q i)

  -- the running cost with what is left to hold (the last second's holding and the potential) is at most three times the least cost
  pub within_three_left : running_cost p q count n + p.hold * lefts p q count n ≤ 3 * best (plain p) q n n
  unfolding running_cost rates
  within_three_left =
      let b = best_bounded (plain p) q n rising refl in
      omega (arith, bound n (omega arith), b.owns n n, b.holds n n (omega arith) (omega arith))

  -- so is the running cost
  pub within_three : running_cost p q count n ≤ 3 * best (plain p) q n n
  within_three = omega (arith, within_three_left)

  -- the closing cost has the last server's window besides, which costs at most a transfer
  pub closing_within : closing_cost p q count n ≤ 3 * best (plain p) q n n + p.transfer
  unfolding closing_cost lefts Within
  closing_within =
      omega (
        arith,
        within_three_left,
        ap (λ (x : ℕ). p.hold * x) (remaining_lefts W q count n (within n (omega arith))),
        window_low p,
      )

-- before any request the closing cost is the holding of one window
pub closing_zero : (p : Prices) (q : Requests) (count : ℕ) → q.time 0 ≡ 0 → q.server 0 < count → closing_cost p q count 0 ≡ p.hold * window p
unfolding closing_cost running_cost
closing_zero p q count z h =
    omega (
      arith,
      ap (λ (x : ℕ). p.transfer * x) none,
      ap (λ (x : ℕ). p.hold * x) (held_zero (window p) q count z),
      ap (λ (x : ℕ). p.hold * x) whole,
    )
  where
    none : transfers (window p) q 0 ≡ 0
    none = omega (arith, transfers_most (window p) q 0)

    whole : across count (remaining (window p) q 0) ≡ window p
    whole = omega (arith, remaining_lefts (window p) q count 0 h, left_zero (window p) q count)
