-- A number in decimal: the digits of its tenth, then its last digit; how many there are.
use Rattle.std.specs.Prelude.{[], ◌∷◌, ◌++◌, ◌≡◌, ℕ, zero, suc, ◌+◌, ◌/◌, ◌%◌, ◌^◌, ◌≤◌, ◌<◌, length}
use Rattle.std.proofs.Common.{inl, inr, pow-suc, arith, length-append, lt-ltb, le-ltb}
use Rattle.base.specs.Choice.{le_or_lt}
use Rattle.text.specs.Decimal.{digits, decimal}

-- with room for more digits than n has ones the number of them does not matter
digits_same : (k l n : ℕ) → n < k → n < l → digits k n ≡ digits l n
unfolding digits
digits_same zero l n h m = absurd (omega arith)
digits_same (suc k) zero n h m = absurd (omega arith)
digits_same (suc k) (suc l) n h m =
    elim (le_or_lt 10 n) [
      | inl t ↦ rw (le-ltb _ _ t, digits_same k l (n / 10) (omega arith) (omega arith))
      | inr t ↦ rw (lt-ltb _ _ t)
    ]

-- a number below 10 is one digit
pub decimal_digit : (n : ℕ) → n < 10 → decimal n ≡ (48 + n) ∷ []
unfolding decimal digits
decimal_digit n h = rw (lt-ltb _ _ h)

-- any other is its tenth and then its last digit
pub decimal_more : (n : ℕ) → 10 ≤ n → decimal n ≡ decimal (n / 10) ++ ((48 + n % 10) ∷ [])
unfolding decimal digits
decimal_more n h = rw (le-ltb _ _ h, digits_same n (suc (n / 10)) (n / 10) (omega arith) (omega arith))

-- a number below 10 ^ k has at most k digits
pub decimal_length : (k n : ℕ) → n < 10 ^ suc k → length (decimal n) ≤ suc k
decimal_length zero n h = rw (decimal_digit n (omega arith)) (omega arith)
decimal_length (suc k) n h =
    elim (le_or_lt 10 n) [
      | inl t ↦ rw (decimal_more n t) (simp length-append (omega (arith, decimal_length k (n / 10) (omega (arith, pow-suc 10 (suc k))))))
      | inr t ↦ rw (decimal_digit n t) (omega arith)
    ]
