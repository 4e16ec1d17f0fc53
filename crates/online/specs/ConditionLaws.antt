-- Laws of the tests that the code makes one after the other. Assumes nothing.
use Rattle.std.specs.Prelude.{Bool, true, false, List, [], ◌∷◌, ◌≡◌, ◌&&◌, refl, ℕ, zero, suc, ◌<◌, eqb, get_or}
use lib.Pointwise.{pointwise}
use Rattle.base.specs.Lists.{same}
use Rattle.std.proofs.Common.{inl, inr}
use Rattle.base.specs.Choice.{both, either, true_or_false, not_both}
use Rattle.base.specs.RefusalLaws.{first_after_ok, first_after_err, first_append}
use Rattle.online.specs.Servers.{some_server}
use Rattle.online.specs.Conditions.{any_of}
use Rattle.online.specs.ServerLaws.{some_server_each}

-- a list of conditions by its first one or its first part, as the code's `?` leave it
pub ruleset chain = (first_after_ok, first_after_err, first_append)

-- two lists of numbers as `==` compares them
pub pointwise_same : (xs ys : List ℕ) → pointwise eqb xs ys ≡ same xs ys
unfolding same
pointwise_same [] [] = refl
pointwise_same [] (y ∷ ys) = refl
pointwise_same (x ∷ xs) [] = refl
pointwise_same (x ∷ xs) (y ∷ ys) = rw (pointwise_same xs ys) (go (eqb x y))
  where
    go : (b : Bool) → (b && same xs ys) ≡ both b (same xs ys)
    go true = refl
    go false = refl

-- a test or one that fails
pub either_fails : (b : Bool) → either b false ≡ b
either_fails true = refl
either_fails false = refl

-- one of some tests holds where the i-th does
pub any_holds : (bs : List Bool) (i : ℕ) → get_or bs i false ≡ true → any_of bs ≡ true
unfolding any_of
any_holds [] i h = absurd (not_both h refl)
any_holds (b ∷ bs) zero h = rw h
any_holds (b ∷ bs) (suc i) h = elim (true_or_false b) [ inl e ↦ rw e | inr e ↦ rw e (any_holds bs i h) ]

-- some server passes a test where one does
pub some_server_one : (n : ℕ) (f : ℕ → Bool) (y : ℕ) → y < n → f y ≡ true → some_server n f ≡ true
some_server_one n f y l h = elim (true_or_false (some_server n f)) [
  | inl e ↦ e
  | inr e ↦ absurd (not_both h (some_server_each n f e y l))
]
