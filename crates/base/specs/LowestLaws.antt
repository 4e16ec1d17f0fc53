-- The laws of `lowest`: it is the one number up to n that no smaller one beats. Assumes nothing.
use Rattle.std.specs.Prelude.{Bool, true, false, ◌⊎◌, ◌≡◌, refl, ℕ, zero, suc, ◌≤◌, ◌<◌}
use Rattle.std.proofs.Common.{inl, inr, arith, lt-ltb, le-ltb}
use Rattle.base.specs.Choice.{pick, le_or_lt, not_both}
use Rattle.base.specs.Sets.{lowest}

-- t is the lowest number below n that passes f, or n where none does
pub record Lowest (n : ℕ) (f : ℕ → Bool) (t : ℕ) : Type 0 where
  pub within : t ≤ n
  pub none : (j : ℕ) → j < t → f j ≡ false
  pub met : t < n → f t ≡ true

-- `lowest` is it
pub lowest_is : (n : ℕ) (f : ℕ → Bool) → Lowest n f (lowest n f)
unfolding lowest
lowest_is zero f = record { within = omega arith; none = λ j l. absurd (omega arith); met = λ l. absurd (omega arith) }
lowest_is (suc n) f = go (le_or_lt n (lowest n f)) (lowest_is n f)
  where
    stop : (b : Bool) → f n ≡ b → Lowest n f n → Lowest (suc n) f (pick b n (suc n))
    stop true e L = record { within = omega arith; none = L.none; met = λ l. e }
    stop false e L = record { within = omega arith; none = below; met = λ l. absurd (omega arith) }
      where
        below : (j : ℕ) → j < suc n → f j ≡ false
        below j l = elim (le_or_lt n j) [ inl h ↦ (let s : j ≡ n = omega arith in rw s e) | inr h ↦ L.none j h ]

    go : (n ≤ lowest n f) ⊎ (lowest n f < n) → Lowest n f (lowest n f) → Lowest (suc n) f (lowest (suc n) f)
    go (inl h) L =
        let e : lowest n f ≡ n = omega (arith, L.within) in
        rw (le-ltb (lowest n f) n h) (stop (f n) refl (rw e at L))
    go (inr h) L =
        rw (lt-ltb (lowest n f) n h) (record { within = omega arith; none = L.none; met = λ l. L.met h })

-- and nothing else is
pub lowest_unique : (n : ℕ) (f : ℕ → Bool) (t : ℕ) → Lowest n f t → lowest n f ≡ t
lowest_unique n f t T = elim (le_or_lt t (lowest n f)) [
  | inl h ↦ elim (le_or_lt (lowest n f) t) [ inl g ↦ omega arith | inr g ↦ absurd (not_both (T.met (omega (arith, (lowest_is n f).within))) ((lowest_is n f).none t g)) ]
  | inr h ↦ absurd (not_both ((lowest_is n f).met (omega (arith, T.within))) (T.none (lowest n f) h))
]

-- where k passes, the lowest is no higher, is below n, and passes
pub lowest_passes : (n : ℕ) (f : ℕ → Bool) (k : ℕ) → k < n → f k ≡ true
    → (lowest n f ≤ k) × (lowest n f < n) × (f (lowest n f) ≡ true)
lowest_passes n f k l h = elim (le_or_lt (lowest n f) k) [
  | inl g ↦ (g, omega arith, (lowest_is n f).met (omega arith))
  | inr g ↦ absurd (not_both h ((lowest_is n f).none k g))
]
