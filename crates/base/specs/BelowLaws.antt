-- When some number below n passes a test, and when none does.
use Rattle.std.specs.Prelude.{Bool, true, false, ◌⊎◌, ◌≢◌, ◌≡◌, refl, ℕ, zero, suc, ◌<◌}
use Rattle.std.proofs.Common.{inl, inr, arith}
use Rattle.base.specs.Choice.{same_or_not, true_or_false, not_both}
use Rattle.base.specs.ChoiceLaws.{either_false}
use Rattle.base.specs.Below.{some_below}

-- none passes where each fails
pub below_none : (n : ℕ) (f : ℕ → Bool) → ((k : ℕ) → k < n → f k ≡ false) → some_below n f ≡ false
unfolding some_below
below_none zero f h = refl
below_none (suc n) f h = rw (h n (omega arith)) (below_none n f (λ k a. h k (omega arith)))

-- and the other way round
pub below_each : (n : ℕ) (f : ℕ → Bool) → some_below n f ≡ false → (k : ℕ) → k < n → f k ≡ false
unfolding some_below
below_each zero f h k l = absurd (omega arith)
below_each (suc n) f h k l = go (either_false (f n) (some_below n f) h) (same_or_not k n) (below_each n f)
  where
    go : (f n ≡ false) × (some_below n f ≡ false) → (k ≡ n) ⊎ (k ≢ n) → (some_below n f ≡ false → (k : ℕ) → k < n → f k ≡ false)
        → f k ≡ false
    go (a, b) (inl e) ih = rw e a
    go (a, b) (inr e) ih = ih b k (omega arith)

-- some passes where one does
pub below_one : (n : ℕ) (f : ℕ → Bool) (k : ℕ) → k < n → f k ≡ true → some_below n f ≡ true
below_one n f k l h = elim (true_or_false (some_below n f)) [
  | inl e ↦ e
  | inr e ↦ absurd (not_both h (below_each n f e k l))
]

-- and the other way round
pub below_some : (n : ℕ) (f : ℕ → Bool) → some_below n f ≡ true → (k : ℕ) × (k < n) × (f k ≡ true)
unfolding some_below
below_some zero f e = absurd (not_both e refl)
below_some (suc n) f e = go (f n) refl (below_some n f)
  where
    go : (b : Bool) → f n ≡ b → (some_below n f ≡ true → (k : ℕ) × (k < n) × (f k ≡ true)) → (k : ℕ) × (k < suc n) × (f k ≡ true)
    go true z ih = (n, omega arith, z)
    go false z ih = let (k, l, h) = ih (rw z at e) in (k, omega arith, h)

-- one number more that fails
pub below_next : (n : ℕ) (f : ℕ → Bool) → some_below n f ≡ false → f n ≡ false → some_below (suc n) f ≡ false
unfolding some_below
below_next n f h e = rw e h

-- tests that agree
pub below_same : (n : ℕ) (f g : ℕ → Bool) → ((k : ℕ) → k < n → f k ≡ g k) → some_below n f ≡ some_below n g
unfolding some_below
below_same zero f g h = refl
below_same (suc n) f g h = rw (h n (omega arith), below_same n f g (λ k l. h k (omega arith)))
