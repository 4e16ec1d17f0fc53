-- Laws of sums over the numbers 1 to n and over a list, of swapping two sums, and of counting the numbers in (a, b].
use Rattle.std.specs.Prelude.{Bool, true, false, ◌⊎◌, ◌≡◌, refl, ℕ, zero, suc, ◌+◌, ◌-◌, ◌*◌, ◌≤◌, ◌<◌, min, leb, ltb}
use mathlib.Core.List.{List, [], ◌∷◌, ◌++◌, Memᴰ}
use Rattle.std.proofs.Common.{inl, inr, sym, ap, arith, lt-ltb, le-ltb, le-leb}
use Rattle.std.proofs.lemmas.Bool.{lt-leb}
use Rattle.base.specs.Choice.{pick, both, le_or_lt, true_or_false}
use Rattle.model.specs.Sums.{sum, total}

-- term by term no more
pub sum_le : (n : ℕ) (f g : ℕ → ℕ) → ((i : ℕ) → 1 ≤ i → i ≤ n → f i ≤ g i) → sum n f ≤ sum n g
unfolding sum
sum_le zero f g h = omega arith
sum_le (suc n) f g h =
    omega (arith, h (suc n) (omega arith) (omega arith), sum_le n f g (λ i a b. h i a (omega arith)))

-- term by term the same
pub sum_same : (n : ℕ) (f g : ℕ → ℕ) → ((i : ℕ) → 1 ≤ i → i ≤ n → f i ≡ g i) → sum n f ≡ sum n g
unfolding sum
sum_same zero f g h = refl
sum_same (suc n) f g h =
    omega (arith, h (suc n) (omega arith) (omega arith), sum_same n f g (λ i a b. h i a (omega arith)))

-- nothing but zeros
pub sum_zero : (n : ℕ) (f : ℕ → ℕ) → ((i : ℕ) → 1 ≤ i → i ≤ n → f i ≡ 0) → sum n f ≡ 0
unfolding sum
sum_zero zero f h = refl
sum_zero (suc n) f h = omega (arith, h (suc n) (omega arith) (omega arith), sum_zero n f (λ i a b. h i a (omega arith)))

-- a sum of sums
pub sum_add : (n : ℕ) (f g : ℕ → ℕ) → sum n (λ i. f i + g i) ≡ sum n f + sum n g
unfolding sum
sum_add zero f g = refl
sum_add (suc n) f g = omega (arith, sum_add n f g)

-- a common factor
pub sum_scale : (k n : ℕ) (f : ℕ → ℕ) → sum n (λ i. k * f i) ≡ k * sum n f
unfolding sum
sum_scale k zero f = omega arith
sum_scale k (suc n) f = omega (arith, sum_scale k n f)

-- a part taken off each term
pub sum_minus : (n : ℕ) (f d : ℕ → ℕ) → ((i : ℕ) → 1 ≤ i → i ≤ n → d i ≤ f i) → sum n f ≡ sum n (λ i. f i - d i) + sum n d
unfolding sum
sum_minus zero f d h = refl
sum_minus (suc n) f d h =
    omega (arith, h (suc n) (omega arith) (omega arith), sum_minus n f d (λ i a b. h i a (omega arith)))

-- one term is no more than the whole
pub sum_term : (n : ℕ) (f : ℕ → ℕ) (i : ℕ) → 1 ≤ i → i ≤ n → f i ≤ sum n f
unfolding sum
sum_term zero f i a b = absurd (omega arith)
sum_term (suc n) f i a b = go (le_or_lt i n) (sum_term n f i a)
  where
    go : (i ≤ n) ⊎ (n < i) → (i ≤ n → f i ≤ sum n f) → f i ≤ sum (suc n) f
    go (inl h) ih = omega (arith, ih h)
    go (inr h) ih = omega (arith, ap f (let e : i ≡ suc n = omega arith in e))

-- where f is at least 1 from a to b, the sum grows by b - a or more
pub sum_ones : (f : ℕ → ℕ) (a b : ℕ) → a ≤ b → ((i : ℕ) → a < i → i ≤ b → 1 ≤ f i) → sum a f + (b - a) ≤ sum b f
unfolding sum
sum_ones f a zero h o = omega (arith, ap (λ (x : ℕ). sum x f) (let e : a ≡ 0 = omega arith in e))
sum_ones f a (suc b) h o = go (le_or_lt a b) (sum_ones f a b)
  where
    go : (a ≤ b) ⊎ (b < a) → (a ≤ b → ((i : ℕ) → a < i → i ≤ b → 1 ≤ f i) → sum a f + (b - a) ≤ sum b f)
        → sum a f + (suc b - a) ≤ sum (suc b) f
    go (inl q) ih = omega (arith, ih q (λ i x y. o i x (omega arith)), o (suc b) (omega arith) (omega arith))
    go (inr q) ih = omega (arith, ap (λ (x : ℕ). sum x f) (let e : a ≡ suc b = omega arith in e))

-- what is added beyond a
pub sum_beyond : (f : ℕ → ℕ) (a n : ℕ) → sum (a + n) f ≡ sum a f + sum n (λ i. f (a + i))
unfolding sum
sum_beyond f a zero = omega (arith, ap (λ (x : ℕ). sum x f) (let e : a + 0 ≡ a = omega arith in e))
sum_beyond f a (suc n) =
    omega (
      arith,
      sum_beyond f a n,
      ap (λ (x : ℕ). sum x f) (let e : a + suc n ≡ suc (a + n) = omega arith in e),
      ap f (let e : a + suc n ≡ suc (a + n) = omega arith in e),
    )

-- a longer sum is no less
pub sum_longer : (f : ℕ → ℕ) (a b : ℕ) → a ≤ b → sum a f ≤ sum b f
sum_longer f a b h =
    omega (arith, sum_beyond f a (b - a), ap (λ (x : ℕ). sum x f) (let e : a + (b - a) ≡ b = omega arith in e))

-- two sums over numbers, swapped
pub sum_swap : (m n : ℕ) (f : ℕ → ℕ → ℕ) → sum m (λ i. sum n (λ j. f i j)) ≡ sum n (λ j. sum m (λ i. f i j))
unfolding sum
sum_swap zero n f = sym (sum_zero n (λ j. 0) (λ j a b. refl))
sum_swap (suc m) n f =
    omega (arith, sum_swap m n f, sum_add n (λ j. f (suc m) j) (λ j. sum m (λ i. f i j)))

-- a test that no two of 1 to n pass is passed at most once
pub sum_once : (n : ℕ) (f : ℕ → Bool) → ((i j : ℕ) → i < j → j ≤ n → f i ≡ true → f j ≡ true → ⊥) → sum n (λ i. pick (f i) 1 0) ≤ 1
unfolding sum
sum_once zero f h = omega arith
sum_once (suc n) f h = go (true_or_false (f (suc n))) (sum_once n f (λ i j a b. h i j a (omega arith)))
  where
    other : f (suc n) ≡ true → (i : ℕ) → i ≤ n → (f i ≡ true) ⊎ (f i ≡ false) → pick {A = ℕ} (f i) 1 0 ≡ 0
    other e i b (inl d) = absurd (h i (suc n) (omega arith) (omega arith) d e)
    other e i b (inr d) = rw d

    go : (f (suc n) ≡ true) ⊎ (f (suc n) ≡ false) → sum n (λ i. pick (f i) 1 0) ≤ 1 → pick (f (suc n)) 1 0 + sum n (λ i. pick (f i) 1 0) ≤ 1
    go (inl e) ih = rw e (omega (arith, sum_zero n (λ i. pick (f i) 1 0) (λ i a b. other e i b (true_or_false (f i)))))
    go (inr e) ih = rw e (omega arith)

-- item by item no more
pub total_le : {A : Type 0} (f g : A → ℕ) (xs : List A) → ((a : A) → f a ≤ g a) → total f xs ≤ total g xs
unfolding total
total_le f g [] h = omega arith
total_le f g (x ∷ xs) h = omega (arith, h x, total_le f g xs h)

-- item by item the same
pub total_same : {A : Type 0} (f g : A → ℕ) (xs : List A) → ((a : A) → f a ≡ g a) → total f xs ≡ total g xs
unfolding total
total_same f g [] h = refl
total_same f g (x ∷ xs) h = omega (arith, h x, total_same f g xs h)

-- a total of sums
pub total_add : {A : Type 0} (f g : A → ℕ) (xs : List A) → total (λ a. f a + g a) xs ≡ total f xs + total g xs
unfolding total
total_add f g [] = refl
total_add f g (x ∷ xs) = omega (arith, total_add f g xs)

-- a common factor
pub total_scale : {A : Type 0} (k : ℕ) (f : A → ℕ) (xs : List A) → total (λ a. k * f a) xs ≡ k * total f xs
unfolding total
total_scale k f [] = omega arith
total_scale k f (x ∷ xs) = omega (arith, total_scale k f xs)

-- two lists, one after the other
pub total_append : {A : Type 0} (f : A → ℕ) (xs ys : List A) → total f (xs ++ ys) ≡ total f xs + total f ys
unfolding total
total_append f [] ys = omega arith
total_append f (x ∷ xs) ys = omega (arith, total_append f xs ys)

-- one item is no more than the whole
pub total_member : {A : Type 0} (f : A → ℕ) {a : A} {xs : List A} → Memᴰ a xs → f a ≤ total f xs
unfolding total
total_member f (Memᴰ.head e) = omega (arith, ap f e)
total_member f (Memᴰ.tail m) = omega (arith, total_member f m)

-- a sum over numbers and one over a list, swapped
pub sum_total : {A : Type 0} (n : ℕ) (xs : List A) (f : A → ℕ → ℕ) → sum n (λ i. total (λ a. f a i) xs) ≡ total (λ a. sum n (f a)) xs
unfolding total
sum_total n [] f = sum_zero n (λ i. 0) (λ i a b. refl)
sum_total n (x ∷ xs) f = omega (arith, sum_total n xs f, sum_add n (f x) (λ i. total (λ a. f a i) xs))

-- 1 where a < i ≤ b, else 0
unfoldable pub inside : ℕ → ℕ → ℕ → ℕ
inside a b i = pick (both (ltb a i) (leb i b)) 1 0

-- in the interval
pub inside_in : (a b i : ℕ) → a < i → i ≤ b → inside a b i ≡ 1
unfolding inside
inside_in a b i p q = rw (lt-ltb a i p, le-leb i b q)

-- below it
pub inside_low : (a b i : ℕ) → i ≤ a → inside a b i ≡ 0
unfolding inside
inside_low a b i p = rw (le-ltb a i p)

-- above it
pub inside_high : (a b i : ℕ) → b < i → inside a b i ≡ 0
unfolding inside
inside_high a b i p = go (ltb a i) refl
  where
    go : (x : Bool) → ltb a i ≡ x → inside a b i ≡ 0
    go true e = rw (e, lt-leb i b p)
    go false e = rw e

-- how many of 1 to n are in (a, b]
pub sum_inside : (a b n : ℕ) → sum n (inside a b) ≡ min n b - a
unfolding sum
sum_inside a b zero = omega arith
sum_inside a b (suc n) = go (sum_inside a b n) (le_or_lt (suc n) a) (le_or_lt (suc n) b)
  where
    go : sum n (inside a b) ≡ min n b - a → (suc n ≤ a) ⊎ (a < suc n) → (suc n ≤ b) ⊎ (b < suc n)
        → sum (suc n) (inside a b) ≡ min (suc n) b - a
    go ih (inl p) q = omega (arith, inside_low a b (suc n) p)
    go ih (inr p) (inl q) = omega (arith, inside_in a b (suc n) p q)
    go ih (inr p) (inr q) = omega (arith, inside_high a b (suc n) q)
