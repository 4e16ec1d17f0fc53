-- A choice by a test, and the two ways between a test and the order or equation it tests. Assumes nothing.
use Rattle.std.specs.Prelude.{Bool, true, false, ◌⊎◌, ◌≢◌, ◌≡◌, refl, ℕ, ◌≤◌, ◌<◌, leb, eqb}
use Rattle.std.proofs.Common.{inl, inr, sym, ◌∙◌, arith, leb-true, leb-false, eqb-true}
use Rattle.std.proofs.lemmas.Bool.{eqb-false}

-- the first of two things where a test is true, the second where it is false
abbrev pub pick : {A : Type 0} → Bool → A → A → A
pick true a b = a
pick false a b = b

-- one test or another holds; both hold
abbrev pub either : Bool → Bool → Bool
either a b = pick a true b

abbrev pub both : Bool → Bool → Bool
both a b = pick a b false

-- the two cases of an order, to match on
pub le_or_lt : (m n : ℕ) → (m ≤ n) ⊎ (n < m)
le_or_lt m n = go (leb m n) refl
  where
    go : (b : Bool) → leb m n ≡ b → (m ≤ n) ⊎ (n < m)
    go true e = inl (leb-true m n e)
    go false e = inr (leb-false m n e)

-- the two cases of an equation
pub same_or_not : (m n : ℕ) → (m ≡ n) ⊎ (m ≢ n)
same_or_not m n = go (eqb m n) refl
  where
    go : (b : Bool) → eqb m n ≡ b → (m ≡ n) ⊎ (m ≢ n)
    go true e = inl (eqb-true m n e)
    go false e = inr (eqb-false m n e)

-- the two values of a test
pub true_or_false : (b : Bool) → (b ≡ true) ⊎ (b ≡ false)
true_or_false true = inl refl
true_or_false false = inr refl

-- a test that holds does not fail
pub not_both : {b : Bool} → b ≡ true → b ≡ false → ⊥
not_both p q = let z : true ≡ false = sym p ∙ q in let w : ◌≡◌ {A = ℕ} 0 1 = cc in omega arith
