-- Two lists of numbers are the same exactly if they are equal. Assumes nothing.
use Rattle.std.specs.Prelude.{Bool, true, false, List, [], ◌∷◌, ◌≢◌, ◌≡◌, refl, ℕ, eqb}
use Rattle.std.proofs.Common.{sym, ap, ap₂, ◌∙◌, eqb-true, eq-eqb}
use Rattle.base.specs.Choice.{not_both}
use Rattle.base.specs.ChoiceLaws.{both_true, both_of}
use Rattle.base.specs.Lists.{same}

-- lists that are the same are equal
pub same_equal : (xs ys : List ℕ) → same xs ys ≡ true → xs ≡ ys
unfolding same
same_equal [] [] e = refl
same_equal [] (y ∷ ys) e = absurd (not_both e refl)
same_equal (x ∷ xs) [] e = absurd (not_both e refl)
same_equal (x ∷ xs) (y ∷ ys) e =
    let (f, g) = both_true (eqb x y) (same xs ys) e in
    ap₂ (λ (n : ℕ) (l : List ℕ). n ∷ l) (eqb-true x y f) (same_equal xs ys g)

-- and a list is the same as itself
pub equal_same : (xs : List ℕ) → same xs xs ≡ true
unfolding same
equal_same [] = refl
equal_same (x ∷ xs) = both_of (eq-eqb x x refl) (equal_same xs)

-- lists that are not the same are not equal, and the other way round
pub same_unequal : (xs ys : List ℕ) → same xs ys ≡ false → xs ≢ ys
same_unequal xs ys f e = not_both (ap (same xs) (sym e) ∙ equal_same xs) f

pub unequal_same : (xs ys : List ℕ) → xs ≢ ys → same xs ys ≡ false
unequal_same xs ys d = go (same xs ys) refl
  where
    go : (b : Bool) → same xs ys ≡ b → same xs ys ≡ false
    go true e = absurd (d (same_equal xs ys e))
    go false e = e
