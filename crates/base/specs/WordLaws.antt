-- What the machine's operators on words do to sets: or, xor, a shift, a remainder, the counts of ones, of trailing and of leading zeros. Assumes nothing.
use Rattle.std.specs.Prelude.{Bool, true, false, ◌≡◌, refl, ℕ, zero, suc, ◌+◌, ◌-◌, ◌*◌, ◌/◌, ◌%◌, ◌^◌, ◌<◌, eqb}
use Rattle.std.proofs.Common.{sym, ap, ◌∙◌, inl, inr, one-mul, zero-mul, mul-le-mul_right, pow-suc, mod-lt, mod-eq_of_lt, arith, pow-add, pow_pos, shr-shr, shl_lt, eqb-true, eq-eqb}
use Rattle.std.specs.Int.Bits.{bit_or, bit_xor, bit_and, or_add_and, xor_add_and}
use Rattle.std.proofs.lemmas.Nat.Bits.{and_high}
use Rattle.std.specs.Int.Count.{ones, ones_in, ones_step, count_trailing_zeros, under, count_leading_zeros, leading_unique}
use Rattle.std.proofs.lemmas.Nat.{leading_top}
use Rattle.std.proofs.Math.Pow.{high_ones, pow-lt, field, mod-mod-pow, split, high, low}
use Rattle.std.proofs.lemmas.Bool.{eqb-false}
use Rattle.base.specs.Choice.{true_or_false}
use Rattle.base.specs.Sets.{has, put, cut, members, lowest}
use Rattle.base.specs.SetLaws.{has_zero, has_suc, has_over, odd, even, put_there, put_new, cut_there}
use Rattle.base.specs.LowestLaws.{Lowest, lowest_unique}

-- the digit k alone, where k is a member
and_there : (w k : ℕ) → has w k ≡ true → bit_and w (2 ^ k) ≡ 2 ^ k
unfolding has
and_there w k h =
    ap (λ (x : ℕ). bit_and w x) (sym (high_ones 1 k ∙ one-mul (2 ^ k)))
    ∙ and_high w 1 k
    ∙ ap (λ (x : ℕ). x * 2 ^ k) (eqb-true (w / 2 ^ k % 2) 1 h)
    ∙ one-mul (2 ^ k)

-- and where it is none
and_none : (w k : ℕ) → has w k ≡ false → bit_and w (2 ^ k) ≡ 0
unfolding has
and_none w k h =
    let d : w / 2 ^ k % 2 ≡ 0 = omega (arith, eqb-false (w / 2 ^ k % 2) 1 h) in
    ap (λ (x : ℕ). bit_and w x) (sym (high_ones 1 k ∙ one-mul (2 ^ k)))
    ∙ and_high w 1 k
    ∙ ap (λ (x : ℕ). x * 2 ^ k) d
    ∙ zero-mul (2 ^ k)

-- a 1 shifted left by k, in a word of n bits
shifted_one : (n k : ℕ) → k < n → 1 * 2 ^ k % 2 ^ n ≡ 2 ^ k
shifted_one n k l = rw (one-mul, mod-eq_of_lt (pow-lt l))

-- or with it puts k in
pub or_put : (n w k : ℕ) → k < n → bit_or w (1 * 2 ^ k % 2 ^ n) ≡ put w k
or_put n w k l = ap (λ (x : ℕ). bit_or w x) (shifted_one n k l) ∙ elim (true_or_false (has w k)) [
  | inl h ↦ omega (arith, or_add_and w (2 ^ k), and_there w k h, put_there w k h)
  | inr h ↦ omega (arith, or_add_and w (2 ^ k), and_none w k h, put_new w k h)
]

-- xor with it cuts a member
pub xor_cut : (n w k : ℕ) → k < n → has w k ≡ true → bit_xor w (1 * 2 ^ k % 2 ^ n) ≡ cut w k
xor_cut n w k l h =
    ap (λ (x : ℕ). bit_xor w x) (shifted_one n k l) ∙ omega (arith, xor_add_and w (2 ^ k), and_there w k h, cut_there w k h)

-- a word's lowest digit, and the members of its half
members_half : (n w : ℕ) → members (suc n) w ≡ w % 2 + members n (w / 2)
unfolding members
members_half zero w = elim (true_or_false (has w 0)) [
  | inl h ↦ rw h (omega (arith, odd w h))
  | inr h ↦ rw h (omega (arith, even w h))
]
members_half (suc n) w = rw (has_suc w n) (omega (arith, members_half n w))

-- the count of ones is the number of members
pub ones_members : (n w : ℕ) → w < 2 ^ n → ones w ≡ members n w
unfolding ones ones_in members
ones_members zero w h =
    let e : w ≡ 0 = omega arith in
    rw e
ones_members (suc n) w h =
    omega (arith, ones_step w, ones_members n (w / 2) (omega (arith, pow-suc 2 n)), members_half n w)

-- one digit more: the lowest of a word by its lowest digit d and the lowest t of its half
trailing_step : (n w t d : ℕ) → w % 2 ≡ d → Lowest n (has (w / 2)) t → Lowest (suc n) (has w) (under d t)
trailing_step n w t zero e L = record {
  within = omega (arith, L.within);
  none = below;
  met = λ l. has_suc w t ∙ L.met (omega arith);
}
  where
    below : (j : ℕ) → j < suc t → has w j ≡ false
    below zero l = has_zero w ∙ ap (λ (x : ℕ). eqb x 1) e
    below (suc j) l = has_suc w j ∙ L.none j (omega arith)
trailing_step n w t (suc d) e L = record {
  within = omega arith;
  none = λ j l. absurd (omega arith);
  met = λ l. has_zero w ∙ eq-eqb (w % 2) 1 (omega arith);
}

-- so the trailing zeros of the first n digits lead to the lowest member below n
trailing_is : (n w : ℕ) → Lowest n (has w) (count_trailing_zeros n w)
unfolding count_trailing_zeros
trailing_is zero w = record { within = omega arith; none = λ j l. absurd (omega arith); met = λ l. absurd (omega arith) }
trailing_is (suc n) w = trailing_step n w (count_trailing_zeros n (w / 2)) (w % 2) refl (trailing_is n (w / 2))

-- the count of trailing zeros is the lowest member
pub trailing_lowest : (n w : ℕ) → count_trailing_zeros n w ≡ lowest n (has w)
trailing_lowest n w = sym (lowest_unique n (has w) (count_trailing_zeros n w) (trailing_is n w))

-- a shift to the right by t leaves the members from t on, each t lower
pub has_shifted : (w t k : ℕ) → has (w / 2 ^ t) k ≡ has w (t + k)
unfolding has
has_shifted w t k = ap (λ (x : ℕ). eqb (x % 2) 1) (shr-shr w t k)

-- a remainder by 2 ^ t leaves the members below t
pub has_below : (w t k : ℕ) → k < t → has (w % 2 ^ t) k ≡ has w k
unfolding has
has_below w t k l =
    let d : t ≡ (t - suc k + 1) + k = omega arith in
    ap (λ (x : ℕ). eqb x 1)
    (ap (λ (x : ℕ). w % 2 ^ x / 2 ^ k % 2) d
    ∙ ap (λ (x : ℕ). x % 2) (field w (t - suc k + 1) k)
    ∙ mod-mod-pow (w / 2 ^ k) (t - suc k) 1)

-- y is the highest number below n that passes f
pub record Highest (n : ℕ) (f : ℕ → Bool) (y : ℕ) : Type 0 where
  pub within : y < n
  pub met : f y ≡ true
  pub none : (j : ℕ) → y < j → f j ≡ false

-- a word of n digits that is not 0 has a highest member, and its leading zeros above it
pub leading_highest : (n w : ℕ) → 0 < w → w < 2 ^ n → (y : ℕ) × (count_leading_zeros n w + suc y ≡ n) × Highest n (has w) y
unfolding has
leading_highest n w p h =
    let t = leading_top n w p h in
    let j = t.0 in
    let one : w / 2 ^ j ≡ 1 = ap (λ (x : ℕ). x / 2 ^ j) (omega (arith, t.2)) ∙ high 1 j {lo = w - 2 ^ j} (omega (arith, t.2, t.3, pow-suc 2 j)) in (
      j,
      t.1,
      record { within = omega (arith, t.1); met = ap (λ (x : ℕ). eqb (x % 2) 1) one; none = λ k a. has_over (suc j) w k t.3 a },
    )

-- a word of t digits, moved up by j to the top of one of n, has as many leading zeros
pub leading_raised : (n t j a : ℕ) → t + j ≡ n → 0 < a → a < 2 ^ t → count_leading_zeros n (a * 2 ^ j) ≡ count_leading_zeros t a
leading_raised n t j a whole p h =
    let m = leading_top t a p h in
    sym (leading_unique n (a * 2 ^ j) (count_leading_zeros t a) (suc m.0 + j)
    (omega (arith, m.1))
    (shl_lt (suc m.0) j m.3)
    (omega (arith, pow-add 2 (suc m.0) j, ap (λ (x : ℕ). x * 2 ^ j) (pow-suc 2 m.0), mul-le-mul_right (2 ^ j) m.2)))

-- a shift to the left by j in a word of n digits moves the members below n - j up, and leaves no other
raised_by : (n t j w : ℕ) → t + j ≡ n → w * 2 ^ j % 2 ^ n ≡ w % 2 ^ t * 2 ^ j
raised_by n t j w whole =
    ap (λ (x : ℕ). w * 2 ^ j % 2 ^ x) (sym whole)
    ∙ ap (λ (x : ℕ). x % 2 ^ (t + j)) (omega (arith, ap (λ (x : ℕ). x * 2 ^ j) (split w t), ap (λ (x : ℕ). w / 2 ^ t * x) (pow-add 2 t j)))
    ∙ low (w / 2 ^ t) (t + j) {lo = w % 2 ^ t * 2 ^ j} (shl_lt t j (mod-lt w (pow_pos t)))

-- by one and then by j: those below t go to the top of the word
pub raised : (n t j w : ℕ) → suc (t + j) ≡ n → w * 2 % 2 ^ n * 2 ^ j % 2 ^ n ≡ w % 2 ^ t * 2 ^ suc j
raised n t j w whole =
    raised_by n (suc t) j (w * 2 % 2 ^ n) (omega arith)
    ∙ ap (λ (x : ℕ). x * 2 ^ j) (once ∙ raised_by (suc t) t 1 w (omega arith))
    ∙ omega (arith, ap (λ (x : ℕ). w % 2 ^ t * x) (pow-suc 2 j))
  where
    once : w * 2 % 2 ^ n % 2 ^ suc t ≡ w * 2 % 2 ^ suc t
    once =
        let e : n ≡ j + suc t = omega arith in
        rw e (mod-mod-pow (w * 2) j (suc t))
