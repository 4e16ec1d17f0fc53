-- Laws of `any_below`: some number below n passes a test.
use Rattle.std.specs.Prelude.{Bool, true, false, ◌||◌, ◌⊎◌, ◌≡◌, refl, ℕ, zero, suc, ◌+◌, ◌≤◌, ◌<◌}
use Rattle.std.proofs.Common.{inl, inr, sym, ap, ◌∙◌, arith}
use Rattle.std.specs.List.{list_any, range_with_len}
use Rattle.base.specs.Choice.{either, le_or_lt, not_both}
use Rattle.rows.specs.Passes.{any_below}

-- two tests are the same where each holds with the other
pub same_test : (a b : Bool) → (a ≡ true → b ≡ true) → (b ≡ true → a ≡ true) → a ≡ b
same_test true b f g = sym (f refl)
same_test false true f g = g refl
same_test false false f g = refl

-- one or the other, where the last holds and where it fails
pub either_last : (a b : Bool) → b ≡ true → either a b ≡ true
either_last true b e = refl
either_last false b e = e

pub either_none : (a : Bool) → either a false ≡ a
either_none true = refl
either_none false = refl

-- it passes where there is such a number, and only there
pub any_is : (n : ℕ) (f : ℕ → Bool) → any_below n f ≡ true → (i : ℕ) × (i < n) × (f i ≡ true)
unfolding any_below
any_is zero f e = absurd (not_both e refl)
any_is (suc n) f e = go (any_below n f) refl (any_is n f)
  where
    go : (b : Bool) → any_below n f ≡ b → (any_below n f ≡ true → (i : ℕ) × (i < n) × (f i ≡ true)) → (i : ℕ) × (i < suc n) × (f i ≡ true)
    go true p r = let (i, l, h) = r p in (i, omega arith, h)
    go false p r = (n, omega arith, rw (p, any_below) at e)

pub any_of : (n : ℕ) (f : ℕ → Bool) (i : ℕ) → i < n → f i ≡ true → any_below n f ≡ true
unfolding any_below
any_of zero f i l e = absurd (omega arith)
any_of (suc n) f i l e = go (le_or_lt n i) (any_of n f i)
  where
    go : (n ≤ i) ⊎ (i < n) → (i < n → f i ≡ true → any_below n f ≡ true) → either (any_below n f) (f n) ≡ true
    go (inl h) r = let d : n ≡ i = omega arith in either_last (any_below n f) (f n) (rw d e)
    go (inr h) r = rw (r h e)

-- one more that fails
pub any_more : (n : ℕ) (f : ℕ → Bool) → any_below n f ≡ false → f n ≡ false → any_below (suc n) f ≡ false
unfolding any_below
any_more n f p q = rw p q

-- one of two tests
either_pairs : (a b c d : Bool) → either (either a b) (either c d) ≡ either (either a c) (either b d)
either_pairs true b c d = refl
either_pairs false true true d = refl
either_pairs false true false d = refl
either_pairs false false c d = refl

pub any_either : (n : ℕ) (f g : ℕ → Bool) → any_below n (λ i. either (f i) (g i)) ≡ either (any_below n f) (any_below n g)
unfolding any_below
any_either zero f g = refl
any_either (suc n) f g =
    ap (λ (t : Bool). either t (either (f n) (g n))) (any_either n f g) ∙ either_pairs (any_below n f) (any_below n g) (f n) (g n)

-- the first number is one of them
either_three : (a b c : Bool) → either (either a b) c ≡ either a (either b c)
either_three true b c = refl
either_three false b c = refl

any_first : (n : ℕ) (f : ℕ → Bool) → any_below (suc n) f ≡ either (f 0) (any_below n (λ j. f (suc j)))
unfolding any_below
any_first zero f = sym (either_none (f 0))
any_first (suc n) f = ap (λ (t : Bool). either t (f (suc n))) (any_first n f) ∙ either_three (f 0) (any_below n (λ j. f (suc j))) (f (suc n))

or_either : (a b : Bool) → (a || b) ≡ either a b
or_either true b = refl
or_either false b = refl

-- a test of the n numbers from one on
pub any_listed : (n a : ℕ) (f g : ℕ → Bool) → ((j : ℕ) → f (a + j) ≡ g j) → list_any f (range_with_len a n) ≡ any_below n g
unfolding any_below
any_listed zero a f g h = refl
any_listed (suc n) a f g h =
    let e : a + 0 ≡ a = omega arith in
    let z : f a ≡ g 0 = rw e at (h 0) in
    let r = any_listed n (a + 1) f (λ j. g (suc j)) (λ j. let m : a + 1 + j ≡ a + suc j = omega arith in rw m (h (suc j))) in
    rw (z, r) (or_either (g 0) (any_below n (λ j. g (suc j))) ∙ sym (any_first n g))
