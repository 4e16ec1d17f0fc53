-- The seconds held, gap by gap: what each server holds between two requests, and that these are the seconds held up to the later one.
use Rattle.std.specs.Prelude.{true, false, ◌⊎◌, ◌≢◌, ◌≡◌, refl, leb, eqb}
use Rattle.std.proofs.Common.{inl, inr, sym, le-leb, le-ltb, lt-ltb, eq-eqb, ne_eqb}
use Rattle.std.proofs.Math.Option.{Option, none, some}
use Rattle.std.proofs.Math.Path.{ap}
use native.Mathlib.Omega.{arith}
use Prim.Native.Nat.{ℕ, zero, suc, ◌+◌, ◌-◌, ◌*◌, ◌≤◌, ◌<◌, min}
use Rattle.std.proofs.lemmas.Bool.{lt-leb}
use Rattle.base.specs.Choice.{pick, le_or_lt, same_or_not}
use Rattle.model.specs.Sums.{sum}
use Rattle.model.proofs.SumLaws.{sum_same, sum_beyond, inside, inside_in, inside_high, sum_inside}
use Rattle.model.specs.Requests.{Requests, Rising}
use Rattle.model.proofs.RequestLaws.{rises_le}
use Rattle.online.specs.Servers.{across}
use Rattle.online.specs.ServerLaws.{across_le, across_same, across_add, across_const, across_swap}
use Rattle.bounds.specs.History.{recent, left_of, last_use, holds, before, over, held}

-- no use holds nothing
pub left_none : (W : ℕ) (o : Option ℕ) (τ : ℕ) → o ≡ none → left_of W o τ ≡ 0
unfolding left_of
left_none W o τ e = rw e

-- a use holds to its end
pub left_some : (W : ℕ) (o : Option ℕ) (u τ : ℕ) → o ≡ some u → left_of W o τ ≡ u + W - τ
unfolding left_of
left_some W o u τ e = rw e

-- an expired one holds nothing more
pub left_far : (W : ℕ) (o : Option ℕ) (τ : ℕ) → ((u : ℕ) → o ≡ some u → u + W < τ) → left_of W o τ ≡ 0
unfolding left_of
left_far W none τ f = refl
left_far W (some u) τ f = omega (arith, f u refl)

-- one request more does not change the last one before a second that is not after it
pub before_old : (q : Requests) (n τ : ℕ) → τ ≤ q.time n → before q (suc n) τ ≡ before q n τ
unfolding before
before_old q n τ h = rw (le-ltb (q.time n) τ h)

-- else it is that request
pub before_new : (q : Requests) (n τ : ℕ) → q.time n < τ → before q (suc n) τ ≡ n
unfolding before
before_new q n τ h = rw (lt-ltb (q.time n) τ h)

module _ (W : ℕ) (q : Requests) where
  -- the gap after request i
  abbrev wait : ℕ → ℕ
  wait i = q.time (suc i) - q.time i

  -- the seconds that server y holds between requests i and i + 1
  unfoldable pub spent : ℕ → ℕ → ℕ
  spent i y = pick (eqb y (q.server i)) (wait i) (min (wait i) (left_of W (last_use W q i y) (q.time i)))

  -- the server of request i holds throughout
  pub spent_last : (i y : ℕ) → y ≡ q.server i → spent i y ≡ q.time (suc i) - q.time i
  unfolding spent
  spent_last i y e = rw (eq-eqb y (q.server i) e)

  -- any other as long as its last use holds
  pub spent_other : (i y : ℕ) → y ≢ q.server i → spent i y ≡ min (q.time (suc i) - q.time i) (left_of W (last_use W q i y) (q.time i))
  unfolding spent
  spent_other i y e = rw (ne_eqb y (q.server i) e)

  -- no server holds longer than the gap
  pub spent_most : (i y : ℕ) → spent i y ≤ q.time (suc i) - q.time i
  spent_most i y = go (same_or_not y (q.server i))
    where
      go : (y ≡ q.server i) ⊎ (y ≢ q.server i) → spent i y ≤ wait i
      go (inl e) = omega (arith, spent_last i y e)
      go (inr e) = omega (arith, spent_other i y e)

  -- the server of request i holds
  pub holds_last : (i y τ : ℕ) → y ≡ q.server i → holds W q i y τ ≡ true
  unfolding holds
  holds_last i y τ e = rw (eq-eqb y (q.server i) e)

  -- another that was never used does not
  pub holds_none : (i y τ : ℕ) → y ≢ q.server i → last_use W q i y ≡ none → holds W q i y τ ≡ false
  unfolding holds recent
  holds_none i y τ e l = rw (ne_eqb y (q.server i) e, l)

  -- and one that was used holds up to a window later
  pub holds_some : (i y τ u : ℕ) → y ≢ q.server i → last_use W q i y ≡ some u → holds W q i y τ ≡ leb τ (u + W)
  unfolding holds recent
  holds_some i y τ u e l = rw (ne_eqb y (q.server i) e, l)

  -- over gap i + 1 server y holds the first `long` seconds, and no others
  record First (i y : ℕ) : Type 0 where
    long : ℕ
    all : spent i y ≡ min (wait i) long
    each : (k : ℕ) → 1 ≤ k → k ≤ wait i → pick (holds W q i y (q.time i + k)) 1 0 ≡ inside 0 long k

  -- each server does
  first : (i y : ℕ) → First i y
  first i y = go (same_or_not y (q.server i)) (last_use W q i y) refl
    where
      upto : (u k : ℕ) → 1 ≤ k → (q.time i + k ≤ u + W) ⊎ (u + W < q.time i + k)
          → pick (leb (q.time i + k) (u + W)) 1 0 ≡ inside 0 (u + W - q.time i) k
      upto u k a (inl h) = rw (le-leb _ _ h) (sym (inside_in 0 (u + W - q.time i) k a (omega arith)))
      upto u k a (inr h) = rw (lt-leb _ _ h) (sym (inside_high 0 (u + W - q.time i) k (omega arith)))

      go : (y ≡ q.server i) ⊎ (y ≢ q.server i) → (o : Option ℕ) → last_use W q i y ≡ o → First i y
      go (inl e) o l =
          record {
            long = wait i;
            all = omega (arith, spent_last i y e);
            each = λ k a b. rw (holds_last i y (q.time i + k) e) (sym (inside_in 0 (wait i) k a b));
          }
      go (inr e) none l =
          record {
            long = 0;
            all = omega (arith, spent_other i y e, left_none W (last_use W q i y) (q.time i) l);
            each = λ k a b. rw (holds_none i y (q.time i + k) e l) (sym (inside_high 0 0 k a));
          }
      go (inr e) (some u) l =
          record {
            long = u + W - q.time i;
            all = omega (arith, spent_other i y e, left_some W (last_use W q i y) u (q.time i) l);
            each = λ k a b. rw (holds_some i y (q.time i + k) u e l) (upto u k a (le_or_lt (q.time i + k) (u + W)));
          }

  -- the seconds that server y holds up to request n
  abbrev seconds : ℕ → ℕ → ℕ
  seconds n y = sum (q.time n) (λ τ. over W q n τ y)

  -- one gap more
  seconds_step : (i y : ℕ) → q.time i ≤ q.time (suc i) → seconds (suc i) y ≡ seconds i y + spent i y
  unfolding over
  seconds_step i y up =
      omega (
        arith,
        ap (λ (x : ℕ). sum x f) whole,
        sum_beyond f (q.time i) (wait i),
        sum_same (q.time i) f (λ τ. over W q i τ y) old,
        sum_same (wait i) (λ k. f (q.time i + k)) (inside 0 F.long) new,
        sum_inside 0 F.long (wait i),
        F.all,
      )
    where
      f : ℕ → ℕ
      f τ = over W q (suc i) τ y

      F : First i y
      F = first i y

      whole : q.time (suc i) ≡ q.time i + wait i
      whole = omega arith

      old : (τ : ℕ) → 1 ≤ τ → τ ≤ q.time i → f τ ≡ over W q i τ y
      old τ a b = rw (before_old q i τ b)

      new : (k : ℕ) → 1 ≤ k → k ≤ wait i → f (q.time i + k) ≡ inside 0 F.long k
      new k a b = rw (before_new q i (q.time i + k) (omega arith)) (F.each k a b)

  -- server by server
  held_servers : (count n : ℕ) → held W q count n ≡ across count (seconds n)
  unfolding held
  held_servers count n = across_swap count (q.time n) (λ y τ. over W q n τ y)

  -- nothing is held before request 1
  pub held_zero : (count : ℕ) → q.time 0 ≡ 0 → held W q count 0 ≡ 0
  unfolding held sum
  held_zero count z = ap (λ (x : ℕ). sum x (λ τ. across count (over W q 0 τ))) z

  -- the seconds held up to request i + 1
  pub held_step : (count i : ℕ) → q.time i ≤ q.time (suc i) → held W q count (suc i) ≡ held W q count i + across count (spent i)
  held_step count i up =
      omega (
        arith,
        held_servers count (suc i),
        held_servers count i,
        across_same count (seconds (suc i)) (λ y. seconds i y + spent i y) (λ y a. seconds_step i y up),
        across_add count (seconds i) (spent i),
      )

  -- no more than all servers all the time
  pub held_most : (count n : ℕ) → Rising q n → (i : ℕ) → i ≤ n → held W q count i ≤ count * q.time i
  held_most count n r zero h = omega (arith, held_zero count r.start)
  held_most count n r (suc i) h =
      omega (
        arith,
        held_step count i up,
        held_most count n r i (omega arith),
        across_le count (spent i) (λ y. wait i) (λ y a. spent_most i y),
        across_const count (wait i),
        ap (λ (x : ℕ). count * x) (let e : q.time (suc i) ≡ q.time i + wait i = omega (arith, up) in e),
      )
    where
      up : q.time i ≤ q.time (suc i)
      up = rises_le r i (suc i) (omega arith) h
