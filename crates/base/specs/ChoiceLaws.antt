-- What `both` and `either` say of the two tests. Assumes nothing.
use Rattle.std.specs.Prelude.{Bool, true, false, ◌⊎◌, ◌≡◌, refl}
use Rattle.std.proofs.Common.{inl, inr, sym}
use Rattle.base.specs.Choice.{both, either, not_both}

-- both hold if and only if each does
pub both_true : (a b : Bool) → both a b ≡ true → (a ≡ true) × (b ≡ true)
both_true true b e = (refl, e)
both_true false b e = absurd (not_both e refl)

pub both_of : {a b : Bool} → a ≡ true → b ≡ true → both a b ≡ true
both_of p q = rw (p, q)

-- one of them fails
pub both_false : (a b : Bool) → both a b ≡ false → (a ≡ false) ⊎ (b ≡ false)
both_false true b e = inr e
both_false false b e = inl refl

-- one of them holds
pub either_true : (a b : Bool) → either a b ≡ true → (a ≡ true) ⊎ (b ≡ true)
either_true true b e = inl refl
either_true false b e = inr e

-- none of them holds if and only if each fails
pub either_false : (a b : Bool) → either a b ≡ false → (a ≡ false) × (b ≡ false)
either_false true b e = absurd (not_both refl e)
either_false false b e = (refl, e)

pub neither_of : {a b : Bool} → a ≡ false → b ≡ false → either a b ≡ false
neither_of p q = rw (p, q)

-- a test and one that holds; three tests
pub both_end : (b : Bool) → both b true ≡ b
both_end true = refl
both_end false = refl

pub both_assoc : (a b c : Bool) → both a (both b c) ≡ both (both a b) c
both_assoc true b c = refl
both_assoc false b c = refl

-- two tests of which each holds where the other does
pub same_truth : (a b : Bool) → (a ≡ true → b ≡ true) → (b ≡ true → a ≡ true) → a ≡ b
same_truth true b to from = sym (to refl)
same_truth false true to from = from refl
same_truth false false to from = refl
