-- A copy that is set to stay for what is left of its window, and no longer than the largest gap: it stands after a gap if and only if its use
-- is then still recent, and is held for what is left of it. o is its last use.
use Rattle.std.specs.Prelude.{◌⊎◌, ◌≡◌}
use Rattle.std.proofs.Common.{inl, inr}
use Rattle.std.proofs.Math.Option.{Option, none, some}
use Rattle.std.proofs.Math.Path.{refl}
use native.Mathlib.Omega.{arith}
use Prim.Native.Nat.{ℕ, ◌+◌, ◌-◌, ◌≤◌, ◌<◌, min}
use Rattle.std.proofs.Math.Dec.{leb}
use borrow.Author.Tests.{le-leb, lt-leb}
use Rattle.base.specs.Choice.{pick, both, le_or_lt}
use Rattle.bounds.specs.History.{recent, left_of}

module _ (W most now gap : ℕ) (some_gap : 1 ≤ gap) (most_gap : gap ≤ most) where
  -- it stands after the gap
  pub stay_recent : (o : Option ℕ) → both (recent W o now) (leb gap (min most (left_of W o now))) ≡ recent W o (now + gap)
  unfolding recent left_of
  stay_recent none = refl
  stay_recent (some u) = go (le_or_lt now (u + W)) (le_or_lt (now + gap) (u + W))
    where
      go : (now ≤ u + W) ⊎ (u + W < now) → (now + gap ≤ u + W) ⊎ (u + W < now + gap)
          → both (leb now (u + W)) (leb gap (min most (u + W - now))) ≡ leb (now + gap) (u + W)
      go a (inl b) = rw (le-leb now (u + W) (omega arith), le-leb gap (min most (u + W - now)) (omega arith), le-leb (now + gap) (u + W) b)
      go (inl a) (inr b) = rw (le-leb now (u + W) a, lt-leb gap (min most (u + W - now)) (omega arith), lt-leb (now + gap) (u + W) b)
      go (inr a) (inr b) = rw (lt-leb now (u + W) a, lt-leb (now + gap) (u + W) b)

  -- it is held in the gap
  pub stay_held : (o : Option ℕ) → pick (recent W o now) (min (min most (left_of W o now)) gap) 0 ≡ min gap (left_of W o now)
  unfolding recent left_of
  stay_held none = omega arith
  stay_held (some u) = go (le_or_lt now (u + W))
    where
      go : (now ≤ u + W) ⊎ (u + W < now) → pick (leb now (u + W)) (min (min most (u + W - now)) gap) 0 ≡ min gap (u + W - now)
      go (inl a) = rw (le-leb now (u + W) a) (omega arith)
      go (inr a) = rw (lt-leb now (u + W) a) (omega arith)
