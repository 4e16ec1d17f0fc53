-- Laws of a test of one of 1 to n, and of counting the numbers that pass.
use Rattle.std.specs.Prelude.{Bool, true, false, ◌⊎◌, ◌≡◌, refl, ℕ, zero, suc, ◌≤◌, ◌<◌}
use Rattle.std.proofs.lemmas.Bool.{false≢true}
use Rattle.std.proofs.Common.{inl, inr, arith}
use Rattle.base.specs.Choice.{pick, le_or_lt, true_or_false, not_both}
use Rattle.model.specs.Sums.{sum}
use Rattle.model.proofs.SumLaws.{sum_zero}
use Rattle.model.specs.Marking.{any}

-- one of 1 to n that passes
pub any_true : (n : ℕ) (f : ℕ → Bool) → any n f ≡ true → (i : ℕ) × (1 ≤ i) × (i ≤ n) × (f i ≡ true)
unfolding any
any_true zero f e = absurd (false≢true e)
any_true (suc n) f e = go (f (suc n)) refl (any_true n f)
  where
    go : (b : Bool) → f (suc n) ≡ b → (any n f ≡ true → (i : ℕ) × (1 ≤ i) × (i ≤ n) × (f i ≡ true))
        → (i : ℕ) × (1 ≤ i) × (i ≤ suc n) × (f i ≡ true)
    go true p ih = (suc n, omega arith, omega arith, p)
    go false p ih = let r = ih (rw p at e) in (r.0, r.1, omega (arith, r.2), r.3)

-- where one of 1 to n passes, the test of one of them holds
pub any_has : (n : ℕ) (f : ℕ → Bool) (i : ℕ) → 1 ≤ i → i ≤ n → f i ≡ true → any n f ≡ true
unfolding any
any_has zero f i a b e = absurd (omega arith)
any_has (suc n) f i a b e = go (f (suc n)) refl (le_or_lt i n) (λ h. any_has n f i a h e)
  where
    go : (c : Bool) → f (suc n) ≡ c → (i ≤ n) ⊎ (n < i) → (i ≤ n → any n f ≡ true) → any (suc n) f ≡ true
    go true p h ih = rw p
    go false p (inl h) ih = rw p (ih h)
    go false p (inr h) ih = absurd (not_both e (let s : i ≡ suc n = omega arith in rw s p))

-- where the test of one of 1 to n fails, none of them passes
pub any_none : (n : ℕ) (f : ℕ → Bool) → any n f ≡ false → (i : ℕ) → 1 ≤ i → i ≤ n → f i ≡ false
any_none n f e i a b = go (true_or_false (f i))
  where
    go : (f i ≡ true) ⊎ (f i ≡ false) → f i ≡ false
    go (inl p) = absurd (not_both (any_has n f i a b p) e)
    go (inr p) = p

-- where at most one of 1 to n passes, the test of one of them counts them
pub any_counts : (n : ℕ) (f : ℕ → Bool) → ((i j : ℕ) → i < j → j ≤ n → f i ≡ true → f j ≡ true → ⊥)
    → pick (any n f) 1 0 ≡ sum n (λ i. pick (f i) 1 0)
unfolding any sum
any_counts zero f once = refl
any_counts (suc n) f once = go (true_or_false (f (suc n))) (any_counts n f (λ i j a b. once i j a (omega arith)))
  where
    before : f (suc n) ≡ true → (i : ℕ) → 1 ≤ i → i ≤ n → f i ≡ false
    before e i a b = elim (true_or_false (f i)) [ inl p ↦ absurd (once i (suc n) (omega arith) (omega arith) p e) | inr p ↦ p ]

    go : (f (suc n) ≡ true) ⊎ (f (suc n) ≡ false) → pick (any n f) 1 0 ≡ sum n (λ i. pick (f i) 1 0)
        → pick (any (suc n) f) 1 0 ≡ sum (suc n) (λ i. pick (f i) 1 0)
    go (inl e) ih = rw e (omega (arith, sum_zero n (λ i. pick (f i) 1 0) (λ i a b. rw (before e i a b))))
    go (inr e) ih = rw e (omega (arith, ih))
