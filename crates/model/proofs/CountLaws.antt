-- Laws of counting: a sum with one term, a sum of terms no more than 1, and a list's length as a total.
use mathlib.Core.List.{List, [], ◌∷◌, Memᴰ}
use Rattle.std.specs.Prelude.{◌⊎◌, ◌≢◌, ◌≡◌, refl, ℕ, zero, suc, pred, ◌≤◌, ◌<◌, eqb, length}
use Rattle.std.proofs.Common.{inl, inr, ap, ◌∙◌, arith, eq-eqb, ne_eqb}
use Rattle.base.specs.Choice.{pick, le_or_lt}
use Rattle.model.specs.Sums.{sum, total}
use Rattle.model.proofs.SumLaws.{sum_zero}

-- all terms but that of i are 0
sum_one : (n i : ℕ) (f : ℕ → ℕ) → 1 ≤ i → i ≤ n → ((l : ℕ) → 1 ≤ l → l ≤ n → l ≢ i → f l ≡ 0) → sum n f ≡ f i
unfolding sum
sum_one zero i f a b z = absurd (omega arith)
sum_one (suc n) i f a b z = go (le_or_lt i n) (λ p. sum_one n i f a p (λ l c d. z l c (omega arith)))
  where
    go : (i ≤ n) ⊎ (n < i) → (i ≤ n → sum n f ≡ f i) → sum (suc n) f ≡ f i
    go (inl p) ih = omega (arith, ih p, z (suc n) (omega arith) (omega arith) (omega arith))
    go (inr p) ih =
        let e : i ≡ suc n = omega arith in
        omega (arith, ap f e, sum_zero n f (λ l c d. z l c (omega arith) (omega arith)))

-- over the servers below a bound, where all terms but that of server x are 0
pub sum_server : (count x : ℕ) (f : ℕ → ℕ) → x < count → ((y : ℕ) → y ≢ x → f y ≡ 0) → sum count (λ y. f (pred y)) ≡ f x
sum_server count x f h z = sum_one count (suc x) (λ y. f (pred y)) (omega arith) h (λ l a b d. z (pred l) (omega arith))

-- of the servers below a bound one is server x
pub one_server : (count x : ℕ) → x < count → sum count (λ y. pick (eqb (pred y) x) 1 0) ≡ 1
one_server count x h = sum_server count x (λ y. pick (eqb y x) 1 0) h (λ y e. rw (ne_eqb y x e)) ∙ rw (eq-eqb x x refl)

-- no term is more than 1
pub sum_at_most : (n : ℕ) (f : ℕ → ℕ) → ((i : ℕ) → 1 ≤ i → i ≤ n → f i ≤ 1) → sum n f ≤ n
unfolding sum
sum_at_most zero f h = omega arith
sum_at_most (suc n) f h = omega (arith, h (suc n) (omega arith) (omega arith), sum_at_most n f (λ i a b. h i a (omega arith)))

-- all items count 0
pub total_zero : {A : Type 0} (f : A → ℕ) (xs : List A) → ((a : A) → Memᴰ a xs → f a ≡ 0) → total f xs ≡ 0
unfolding total
total_zero f [] h = refl
total_zero f (x ∷ xs) h = omega (arith, h x (Memᴰ.head refl), total_zero f xs (λ a m. h a (Memᴰ.tail m)))

-- all items count 1
pub length_total : {A : Type 0} (xs : List A) → length xs ≡ total (λ a. 1) xs
unfolding total
length_total [] = refl
length_total (x ∷ xs) = omega (arith, length_total xs)
