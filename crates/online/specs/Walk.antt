-- The servers of a set taken one after the other, in any order: what each gives stands in place once it is taken. Assumes nothing.
use Rattle.std.specs.Prelude.{Bool, true, false, ◌⊎◌, ◌≢◌, ◌≡◌, refl, ℕ, zero, suc, ◌+◌, ◌*◌, ◌^◌, ◌≤◌, ◌<◌, set, replicate}
use Rattle.std.proofs.Common.{inl, inr, sym, ◌∙◌, pow-suc, arith}
use Rattle.base.specs.Choice.{pick, same_or_not, le_or_lt}
use Rattle.base.specs.Sets.{has, put, cut, lowest}
use Rattle.base.specs.SetLaws.{has_none, has_put, has_put_other, has_cut, has_cut_other, put_under, same_members}
use Rattle.base.specs.LowestLaws.{lowest_is}
use Rattle.base.specs.Lists.{build, build_same, build_set}
use Rattle.online.specs.Servers.{across, set_of}
use Rattle.online.specs.ServerLaws.{across_le, across_same, across_add, across_const, across_at, at, at_same, at_other, has_set}
use Rattle.online.specs.StartLaws.{build_const}

-- a set with a member has a lowest one
pub lowest_member : (n w : ℕ) → w < 2 ^ n → w ≢ 0 → (has w (lowest n (has w)) ≡ true) × (lowest n (has w) < n)
lowest_member n w b h = go (le_or_lt n (lowest n (has w)))
  where
    go : (n ≤ lowest n (has w)) ⊎ (lowest n (has w) < n) → (has w (lowest n (has w)) ≡ true) × (lowest n (has w) < n)
    go (inl l) = absurd (h (same_members n w 0 b (omega arith) (λ k a. (lowest_is n (has w)).none k (omega arith) ∙ sym (has_none k))))
    go (inr l) = ((lowest_is n (has w)).met l, l)

module _ {A : Type 0} (none : A) where
  -- what a server gives, if it is not left any more
  unfoldable pub given : ℕ → (ℕ → A) → ℕ → A
  given left f y = pick (has left y) none (f y)

  -- a server that is left
  given_left : (left : ℕ) (f : ℕ → A) (y : ℕ) → has left y ≡ true → given left f y ≡ none
  unfolding given
  given_left left f y h = rw h

  -- one that is not
  given_taken : (left : ℕ) (f : ℕ → A) (y : ℕ) → has left y ≡ false → given left f y ≡ f y
  unfolding given
  given_taken left f y h = rw h

  -- at first, where no other server gives anything
  given_first : (left : ℕ) (f : ℕ → A) (y : ℕ) → (has left y ≡ false → f y ≡ none) → given left f y ≡ none
  given_first left f y h = go (has left y) refl
    where
      go : (b : Bool) → has left y ≡ b → given left f y ≡ none
      go true e = given_left left f y e
      go false e = given_taken left f y e ∙ h e

  -- y is taken
  given_cut : (left : ℕ) (f : ℕ → A) (y : ℕ) → given (cut left y) f y ≡ f y
  given_cut left f y = given_taken (cut left y) f y (has_cut left y)

  -- and nothing else changes
  given_other : (left : ℕ) (f : ℕ → A) (y k : ℕ) → k ≢ y → given (cut left y) f k ≡ given left f k
  unfolding given
  given_other left f y k d = rw (has_cut_other left y k d)

  -- in the end
  given_last : (f : ℕ → A) (y : ℕ) → given 0 f y ≡ f y
  given_last f y = given_taken 0 f y (has_none y)

-- ---- a list

-- at first it has zeros
pub list_first : (n left : ℕ) (f : ℕ → ℕ) → ((y : ℕ) → has left y ≡ false → f y ≡ 0) → replicate n 0 ≡ build n (given 0 left f)
list_first n left f h =
    sym (build_same n (given 0 left f) (λ y. 0) (λ y l. given_first 0 left f y (h y)) ∙ build_const n 0)

-- a server is taken
pub list_next : (n left : ℕ) (f : ℕ → ℕ) (y : ℕ) → set (build n (given 0 left f)) y (f y) ≡ build n (given 0 (cut left y) f)
list_next n left f y =
    rw (← given_cut 0 left f y) (build_set n y (given 0 (cut left y) f y) (given 0 left f) (given 0 (cut left y) f) refl (λ k d. given_other 0 left f y k d))

-- in the end it has them all
pub list_last : (n : ℕ) (f : ℕ → ℕ) → build n (given 0 0 f) ≡ build n f
list_last n f = build_same n (given 0 0 f) f (λ y l. given_last 0 f y)

-- ---- a set

-- the set of servers below n is a word of n bits
set_under : (n : ℕ) (f : ℕ → Bool) → set_of n f < 2 ^ n
unfolding set_of
set_under zero f = omega arith
set_under (suc n) f = go (f n) (set_under n f)
  where
    go : (b : Bool) → set_of n f < 2 ^ n → pick b (put (set_of n f) n) (set_of n f) < 2 ^ suc n
    go true l = put_under (suc n) (set_of n f) n (omega (arith, pow-suc 2 n)) (omega arith)
    go false l = omega (arith, pow-suc 2 n)

-- a word of n bits that has the servers that pass a test, and no others, is their set
set_known : (n w : ℕ) (f : ℕ → Bool) → w < 2 ^ n → ((k : ℕ) → k < n → has w k ≡ f k) → w ≡ set_of n f
set_known n w f b h = same_members n w (set_of n f) b (set_under n f) (λ k l. h k l ∙ sym (has_set n f k l))

-- at first it is empty
pub set_first : (n left : ℕ) (f : ℕ → Bool) → ((y : ℕ) → has left y ≡ false → f y ≡ false) → 0 ≡ set_of n (given false left f)
set_first n left f h =
    set_known n 0 (given false left f) (omega (arith, set_under n f)) (λ k l. has_none k ∙ sym (given_first false left f k (h k)))

-- a server is taken
pub set_next : (n left : ℕ) (f : ℕ → Bool) (y : ℕ) → y < n → has left y ≡ true
    → pick (f y) (put (set_of n (given false left f)) y) (set_of n (given false left f)) ≡ set_of n (given false (cut left y) f)
set_next n left f y l h = go (f y) refl
  where
    w : ℕ
    w = set_of n (given false left f)

    other : (k : ℕ) → k < n → k ≢ y → has w k ≡ given false (cut left y) f k
    other k a d = has_set n (given false left f) k a ∙ sym (given_other false left f y k d)

    go : (b : Bool) → f y ≡ b → pick b (put w y) w ≡ set_of n (given false (cut left y) f)
    go true e = set_known n (put w y) (given false (cut left y) f) (put_under n w y (set_under n (given false left f)) l) each
      where
        each : (k : ℕ) → k < n → has (put w y) k ≡ given false (cut left y) f k
        each k a = elim (same_or_not k y) [
          | inl s ↦ rw s (has_put w y ∙ sym (given_cut false left f y ∙ e))
          | inr s ↦ has_put_other w y k s ∙ other k a s
        ]
    go false e = set_known n w (given false (cut left y) f) (set_under n (given false left f)) each
      where
        each : (k : ℕ) → k < n → has w k ≡ given false (cut left y) f k
        each k a = elim (same_or_not k y) [
          | inl s ↦ rw s (has_set n (given false left f) y l ∙ given_left false left f y h ∙ sym (given_cut false left f y ∙ e))
          | inr s ↦ other k a s
        ]

-- in the end it has them all
pub set_last : (n : ℕ) (f : ℕ → Bool) → set_of n (given false 0 f) ≡ set_of n f
set_last n f =
    set_known n (set_of n (given false 0 f)) f (set_under n (given false 0 f))
    (λ k l. has_set n (given false 0 f) k l ∙ given_last false f k)

-- ---- a sum

-- at first it is 0
pub sum_first : (n left : ℕ) (f : ℕ → ℕ) → ((y : ℕ) → has left y ≡ false → f y ≡ 0) → 0 ≡ across n (given 0 left f)
sum_first n left f h =
    omega (arith, across_same n (given 0 left f) (λ y. 0) (λ y l. given_first 0 left f y (h y)), across_const n 0)

-- a server is taken
pub sum_next : (n left : ℕ) (f : ℕ → ℕ) (y : ℕ) → y < n → has left y ≡ true
    → f y + across n (given 0 left f) ≡ across n (given 0 (cut left y) f)
sum_next n left f y l h =
    omega (
      arith,
      across_same n (given 0 (cut left y) f) (λ k. at y (f y) k + given 0 left f k) (λ k a. each k (same_or_not k y)),
      across_add n (at y (f y)) (given 0 left f),
      across_at n y (f y) l,
    )
  where
    each : (k : ℕ) → (k ≡ y) ⊎ (k ≢ y) → given 0 (cut left y) f k ≡ at y (f y) k + given 0 left f k
    each k (inl s) = rw s (omega (arith, given_cut 0 left f y, at_same y (f y) y refl, given_left 0 left f y h))
    each k (inr s) = omega (arith, given_other 0 left f y k s, at_other y (f y) k s)

-- in the end it has them all
pub sum_last : (n : ℕ) (f : ℕ → ℕ) → across n (given 0 0 f) ≡ across n f
sum_last n f = across_same n (given 0 0 f) f (λ y l. given_last 0 f y)

-- where no server gives more than m it stays at n times m
pub sum_most : (n left m : ℕ) (f : ℕ → ℕ) → ((y : ℕ) → y < n → f y ≤ m) → across n (given 0 left f) ≤ n * m
sum_most n left m f h = omega (arith, across_le n (given 0 left f) (λ y. m) (λ y l. go y l (has left y) refl), across_const n m)
  where
    go : (y : ℕ) → y < n → (b : Bool) → has left y ≡ b → given 0 left f y ≤ m
    go y l true e = omega (arith, given_left 0 left f y e)
    go y l false e = omega (arith, given_taken 0 left f y e, h y l)
