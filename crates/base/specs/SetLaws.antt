-- The laws of sets in a word: membership after `put` and `cut`, and the number of members. Assumes nothing.
use Rattle.std.specs.Prelude.{Bool, true, false, ◌⊎◌, ◌≢◌, ◌≡◌, refl, ℕ, zero, suc, ◌+◌, ◌-◌, ◌/◌, ◌%◌, ◌^◌, ◌≤◌, ◌<◌, eqb}
use Rattle.std.proofs.Common.{inl, inr, sym, ap, ap₂, ◌∙◌, div-one, pow-suc, one-add, arith, pow_mono, shr-shr, eqb-true, eq-eqb, ne_eqb}
use Rattle.std.proofs.Math.Nat.{zero-div, div-eq_of_lt}
use Rattle.std.proofs.lemmas.Bool.{eqb-false}
use Rattle.base.specs.Choice.{pick, le_or_lt, same_or_not, true_or_false, not_both}
use Rattle.base.specs.Sets.{has, put, cut, members}

-- ---- membership, digit by digit

-- 0 is a member where the word is odd
pub has_zero : (w : ℕ) → has w 0 ≡ eqb (w % 2) 1
unfolding has
has_zero w = ap (λ (x : ℕ). eqb (x % 2) 1) (div-one w)

-- suc k is a member where k is one of the half
pub has_suc : (w k : ℕ) → has w (suc k) ≡ has (w / 2) k
unfolding has
has_suc w k = ap (λ (x : ℕ). eqb (x % 2) 1) (ap (λ (x : ℕ). w / 2 ^ x) (sym (one-add k)) ∙ sym (shr-shr w 1 k))

-- a word with the member 0 is odd
pub odd : (w : ℕ) → has w 0 ≡ true → w % 2 ≡ 1
odd w h = eqb-true (w % 2) 1 (sym (has_zero w) ∙ h)

-- and one without it is even
pub even : (w : ℕ) → has w 0 ≡ false → w % 2 ≡ 0
even w h = let e : w % 2 ≢ 1 = eqb-false (w % 2) 1 (sym (has_zero w) ∙ h) in omega arith

-- no number is a member of the empty word
pub has_none : (k : ℕ) → has 0 k ≡ false
unfolding has
has_none k = ap (λ (x : ℕ). eqb (x % 2) 1) (zero-div (2 ^ k))

-- no number from n on is a member of a word below 2 ^ n
pub has_over : (n w k : ℕ) → w < 2 ^ n → n ≤ k → has w k ≡ false
unfolding has
has_over n w k h l = ap (λ (x : ℕ). eqb (x % 2) 1) (let s : w < 2 ^ k = omega (arith, pow_mono l) in div-eq_of_lt s)

-- so a member of one is below n
pub has_under : (n w k : ℕ) → w < 2 ^ n → has w k ≡ true → k < n
has_under n w k h m = elim (le_or_lt n k) [ inl l ↦ absurd (not_both m (has_over n w k h l)) | inr l ↦ l ]

-- one digit more: k is a member then
added : (w k : ℕ) → has w k ≡ false → has (w + 2 ^ k) k ≡ true
added w zero h = has_zero (w + 1) ∙ eq-eqb ((w + 1) % 2) 1 (omega (arith, even w h))
added w (suc k) h = has_suc (w + 2 ^ suc k) k ∙ ap (λ (x : ℕ). has x k) (omega (arith, pow-suc 2 k)) ∙ added (w / 2) k (sym (has_suc w k) ∙ h)

-- nothing else changes
added_other : (w k j : ℕ) → has w k ≡ false → j ≢ k → has (w + 2 ^ k) j ≡ has w j
added_other w zero zero h d = absurd (d refl)
added_other w zero (suc j) h d =
    let e : (w + 1) / 2 ≡ w / 2 = omega (arith, even w h) in
    has_suc (w + 1) j ∙ ap (λ (x : ℕ). has x j) e ∙ sym (has_suc w j)
added_other w (suc k) zero h d =
    let e : (w + 2 ^ suc k) % 2 ≡ w % 2 = omega (arith, pow-suc 2 k) in
    has_zero (w + 2 ^ suc k) ∙ ap (λ (x : ℕ). eqb x 1) e ∙ sym (has_zero w)
added_other w (suc k) (suc j) h d =
    has_suc (w + 2 ^ suc k) j
    ∙ ap (λ (x : ℕ). has x j) (omega (arith, pow-suc 2 k))
    ∙ added_other (w / 2) k j (sym (has_suc w k) ∙ h) (λ e. d (ap suc e))
    ∙ sym (has_suc w j)

-- and a word below 2 ^ n stays below it
added_under : (n w k : ℕ) → w < 2 ^ n → k < n → has w k ≡ false → w + 2 ^ k < 2 ^ n
added_under zero w k h l m = absurd (omega arith)
added_under (suc n) w zero h l m = omega (arith, even w m, pow-suc 2 n)
added_under (suc n) w (suc k) h l m =
    omega (arith, pow-suc 2 n, pow-suc 2 k, added_under n (w / 2) k (omega (arith, pow-suc 2 n)) (omega arith) (sym (has_suc w k) ∙ m))

-- a member's digit can be taken off: k is no member then
taken : (w k : ℕ) → has w k ≡ true → (2 ^ k ≤ w) × (has (w - 2 ^ k) k ≡ false)
taken w zero h =
    (omega (arith, odd w h), has_zero (w - 1) ∙ ne_eqb ((w - 1) % 2) 1 (λ z. omega (arith, odd w h)))
taken w (suc k) h =
    let r = taken (w / 2) k (sym (has_suc w k) ∙ h) in (
      omega (arith, pow-suc 2 k),
      has_suc (w - 2 ^ suc k) k ∙ ap (λ (x : ℕ). has x k) (omega (arith, pow-suc 2 k)) ∙ r.1,
    )

-- ---- put and cut

-- put leaves a word that has k
pub put_there : (w k : ℕ) → has w k ≡ true → put w k ≡ w
unfolding put
put_there w k h = rw (h, put)

-- and adds the digit where it has not
pub put_new : (w k : ℕ) → has w k ≡ false → put w k ≡ w + 2 ^ k
unfolding put
put_new w k h = rw (h, put)

-- cut takes the digit off a word that has k
pub cut_there : (w k : ℕ) → has w k ≡ true → cut w k + 2 ^ k ≡ w
unfolding cut
cut_there w k h = let l = (taken w k h).0 in rw (h, cut) (omega arith)

-- and leaves one that has not
pub cut_none : (w k : ℕ) → has w k ≡ false → cut w k ≡ w
unfolding cut
cut_none w k h = rw (h, cut)

-- k is a member after put
pub has_put : (w k : ℕ) → has (put w k) k ≡ true
has_put w k = elim (true_or_false (has w k)) [
  | inl h ↦ rw (put_there w k h) h
  | inr h ↦ rw (put_new w k h) (added w k h)
]

-- and none after cut
pub has_cut : (w k : ℕ) → has (cut w k) k ≡ false
has_cut w k = elim (true_or_false (has w k)) [
  | inl h ↦
      let e : cut w k ≡ w - 2 ^ k = omega (arith, cut_there w k h) in
      rw e (taken w k h).1
  | inr h ↦ rw (cut_none w k h) h
]

-- what was cut can be put back
pub put_cut : (w k : ℕ) → has w k ≡ true → put (cut w k) k ≡ w
put_cut w k h = put_new (cut w k) k (has_cut w k) ∙ cut_there w k h

-- after put every other number is a member as before
pub has_put_other : (w k j : ℕ) → j ≢ k → has (put w k) j ≡ has w j
has_put_other w k j d = elim (true_or_false (has w k)) [
  | inl h ↦ ap (λ (x : ℕ). has x j) (put_there w k h)
  | inr h ↦ ap (λ (x : ℕ). has x j) (put_new w k h) ∙ added_other w k j h d
]

-- and so after cut
pub has_cut_other : (w k j : ℕ) → j ≢ k → has (cut w k) j ≡ has w j
has_cut_other w k j d = elim (true_or_false (has w k)) [
  | inl h ↦ sym (has_put_other (cut w k) k j d) ∙ ap (λ (x : ℕ). has x j) (put_cut w k h)
  | inr h ↦ ap (λ (x : ℕ). has x j) (cut_none w k h)
]

-- put keeps a word below 2 ^ n
pub put_under : (n w k : ℕ) → w < 2 ^ n → k < n → put w k < 2 ^ n
put_under n w k h l = elim (true_or_false (has w k)) [
  | inl m ↦ rw (put_there w k m) h
  | inr m ↦ rw (put_new w k m) (added_under n w k h l m)
]

-- cut makes no word larger
pub cut_le : (w k : ℕ) → cut w k ≤ w
cut_le w k = elim (true_or_false (has w k)) [ inl h ↦ omega (arith, cut_there w k h) | inr h ↦ omega (arith, cut_none w k h) ]

-- words below 2 ^ n with the same members are equal
pub same_members : (n w u : ℕ) → w < 2 ^ n → u < 2 ^ n → ((k : ℕ) → k < n → has w k ≡ has u k) → w ≡ u
same_members zero w u h g m = omega arith
same_members (suc n) w u h g m =
    let below : (k : ℕ) → k < n → has (w / 2) k ≡ has (u / 2) k = λ k l. sym (has_suc w k) ∙ m (suc k) (omega arith) ∙ has_suc u k in
    let half : w / 2 ≡ u / 2 = same_members n (w / 2) (u / 2) (omega (arith, pow-suc 2 n)) (omega (arith, pow-suc 2 n)) below in
    elim (true_or_false (has u 0)) [
      | inl e ↦ omega (arith, odd u e, odd w (m 0 (omega arith) ∙ e))
      | inr e ↦ omega (arith, even u e, even w (m 0 (omega arith) ∙ e))
    ]

-- ---- the number of members

-- it goes by membership below n alone
pub members_same : (n w u : ℕ) → ((k : ℕ) → k < n → has w k ≡ has u k) → members n w ≡ members n u
unfolding members
members_same zero w u h = refl
members_same (suc n) w u h =
    ap₂ (λ (x : ℕ) (b : Bool). x + pick b 1 0) (members_same n w u (λ k l. h k (omega arith))) (h n (omega arith))

-- the empty word has none
pub members_none : (n : ℕ) → members n 0 ≡ 0
unfolding members
members_none zero = refl
members_none (suc n) = rw (has_none n) (omega (arith, members_none n))

-- there are at most n
pub members_le : (n w : ℕ) → members n w ≤ n
unfolding members
members_le zero w = omega arith
members_le (suc n) w = elim (true_or_false (has w n)) [
  | inl h ↦ rw h (omega (arith, members_le n w))
  | inr h ↦ rw h (omega (arith, members_le n w))
]

-- a new member is one more
pub members_put : (n w k : ℕ) → k < n → has w k ≡ false → members n (put w k) ≡ suc (members n w)
unfolding members
members_put zero w k l h = absurd (omega arith)
members_put (suc n) w k l h = go (same_or_not k n) (λ d. members_put n w k d h)
  where
    go : (k ≡ n) ⊎ (k ≢ n) → (k < n → members n (put w k) ≡ suc (members n w)) → members (suc n) (put w k) ≡ suc (members (suc n) w)
    go (inl e) r =
        let same : members n (put w k) ≡ members n w = members_same n (put w k) w (λ j q. has_put_other w k j (λ g. omega arith)) in
        rw (← e, has_put w k, h) (omega (arith, rw (← e) at same))
    go (inr d) r = rw (has_put_other w k n (λ g. d (sym g))) (omega (arith, r (omega arith)))

-- a member cut is one less
pub members_cut : (n w k : ℕ) → k < n → has w k ≡ true → suc (members n (cut w k)) ≡ members n w
members_cut n w k l h = sym (members_put n (cut w k) k l (has_cut w k)) ∙ ap (members n) (put_cut w k h)
