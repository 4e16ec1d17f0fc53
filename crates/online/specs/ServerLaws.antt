-- Laws of sums, sets and tests over the servers 0 to n - 1.
use Rattle.std.specs.Prelude.{Bool, true, false, ◌⊎◌, ◌≢◌, ◌≡◌, refl, ℕ, zero, suc, pred, ◌+◌, ◌*◌, ◌≤◌, ◌<◌, eqb}
use Rattle.std.proofs.Common.{inl, inr, sym, ◌∙◌, arith, eq-eqb, ne_eqb}
use Rattle.base.specs.Choice.{pick, same_or_not}
use Rattle.base.specs.ChoiceLaws.{either_false}
use Rattle.base.specs.Sets.{has, put}
use Rattle.base.specs.SetLaws.{has_none, has_put, has_put_other}
use Rattle.model.specs.Sums.{sum}
use Rattle.model.proofs.SumLaws.{sum_le, sum_same, sum_add, sum_term, sum_swap}
use Rattle.model.proofs.CountLaws.{sum_server}
use Rattle.online.specs.Servers.{across, set_of, some_server}

-- ---- sums

-- server by server no more
pub across_le : (n : ℕ) (f g : ℕ → ℕ) → ((y : ℕ) → y < n → f y ≤ g y) → across n f ≤ across n g
unfolding across
across_le n f g h = sum_le n (λ y. f (pred y)) (λ y. g (pred y)) (λ i a b. h (pred i) (omega arith))

-- server by server the same
pub across_same : (n : ℕ) (f g : ℕ → ℕ) → ((y : ℕ) → y < n → f y ≡ g y) → across n f ≡ across n g
unfolding across
across_same n f g h = sum_same n (λ y. f (pred y)) (λ y. g (pred y)) (λ i a b. h (pred i) (omega arith))

-- a sum of sums
pub across_add : (n : ℕ) (f g : ℕ → ℕ) → across n (λ y. f y + g y) ≡ across n f + across n g
unfolding across
across_add n f g = sum_add n (λ y. f (pred y)) (λ y. g (pred y))

-- one server is no more than all
pub across_one : (n : ℕ) (f : ℕ → ℕ) (y : ℕ) → y < n → f y ≤ across n f
unfolding across
across_one n f y h = sum_term n (λ y. f (pred y)) (suc y) (omega arith) h

-- the same number at each
pub across_const : (n c : ℕ) → across n (λ y. c) ≡ n * c
unfolding across sum
across_const zero c = omega arith
across_const (suc n) c = omega (arith, across_const n c)

-- a sum over the servers and one over 1 to m, swapped
pub across_swap : (n m : ℕ) (f : ℕ → ℕ → ℕ) → sum m (λ i. across n (λ y. f y i)) ≡ across n (λ y. sum m (f y))
unfolding across
across_swap n m f = sum_swap m n (λ i y. f (pred y) i)

-- c at server a, 0 at any other
unfoldable pub at : ℕ → ℕ → ℕ → ℕ
at a c y = pick (eqb y a) c 0

-- at a
pub at_same : (a c y : ℕ) → y ≡ a → at a c y ≡ c
unfolding at
at_same a c y e = rw (eq-eqb y a e)

-- elsewhere
pub at_other : (a c y : ℕ) → y ≢ a → at a c y ≡ 0
unfolding at
at_other a c y h = rw (ne_eqb y a h)

-- over all servers that is c
pub across_at : (n a c : ℕ) → a < n → across n (at a c) ≡ c
unfolding across
across_at n a c h = sum_server n a (at a c) h (at_other a c) ∙ at_same a c a refl

-- ---- sets

-- a server that passes is put in
set_in : (n : ℕ) (f : ℕ → Bool) → f n ≡ true → set_of (suc n) f ≡ put (set_of n f) n
unfolding set_of
set_in n f e = rw e

-- one that does not changes nothing
set_out : (n : ℕ) (f : ℕ → Bool) → f n ≡ false → set_of (suc n) f ≡ set_of n f
unfolding set_of
set_out n f e = rw e

-- no server from n on is a member
set_over : (n : ℕ) (f : ℕ → Bool) (y : ℕ) → n ≤ y → has (set_of n f) y ≡ false
unfolding set_of
set_over zero f y h = has_none y
set_over (suc n) f y h = go (f n) refl (set_over n f y (omega arith))
  where
    go : (b : Bool) → f n ≡ b → has (set_of n f) y ≡ false → has (set_of (suc n) f) y ≡ false
    go true e ih = rw (set_in n f e, has_put_other (set_of n f) n y (λ z. omega arith)) ih
    go false e ih = rw (set_out n f e) ih

-- a server below n is a member if and only if it passes the test
pub has_set : (n : ℕ) (f : ℕ → Bool) (y : ℕ) → y < n → has (set_of n f) y ≡ f y
has_set zero f y h = absurd (omega arith)
has_set (suc n) f y h = go (f n) refl (same_or_not y n) (has_set n f y)
  where
    go : (b : Bool) → f n ≡ b → (y ≡ n) ⊎ (y ≢ n) → (y < n → has (set_of n f) y ≡ f y) → has (set_of (suc n) f) y ≡ f y
    go true e (inl s) ih = rw (set_in n f e, s, has_put (set_of n f) n) (sym e)
    go true e (inr s) ih = rw (set_in n f e, has_put_other (set_of n f) n y s) (ih (omega arith))
    go false e (inl s) ih = rw (set_out n f e, s, set_over n f n (omega arith)) (sym e)
    go false e (inr s) ih = rw (set_out n f e) (ih (omega arith))

-- ---- tests

-- no server passes
pub some_server_none : (n : ℕ) (f : ℕ → Bool) → ((y : ℕ) → y < n → f y ≡ false) → some_server n f ≡ false
unfolding some_server
some_server_none zero f h = refl
some_server_none (suc n) f h = rw (h n (omega arith)) (some_server_none n f (λ y a. h y (omega arith)))

-- and the other way round
pub some_server_each : (n : ℕ) (f : ℕ → Bool) → some_server n f ≡ false → (y : ℕ) → y < n → f y ≡ false
unfolding some_server
some_server_each zero f h y l = absurd (omega arith)
some_server_each (suc n) f h y l = go (either_false (f n) (some_server n f) h) (same_or_not y n) (some_server_each n f)
  where
    go : (f n ≡ false) × (some_server n f ≡ false) → (y ≡ n) ⊎ (y ≢ n) → (some_server n f ≡ false → (y : ℕ) → y < n → f y ≡ false)
        → f y ≡ false
    go (a, b) (inl e) ih = rw e a
    go (a, b) (inr e) ih = ih b y (omega arith)
