-- A right-aligned number: by its last digit, and how long it is.
use Rattle.std.specs.Prelude.{[], ◌∷◌, ◌++◌, ◌≡◌, ℕ, suc, ◌+◌, ◌-◌, ◌/◌, ◌%◌, ◌^◌, ◌≤◌, ◌<◌, length, replicate}
use Rattle.std.proofs.Common.{append_assoc, arith, length-append}
use Rattle.std.proofs.lemmas.List.{length-replicate}
use Rattle.text.specs.DecimalLaws.{decimal_digit, decimal_more, decimal_length}
use Rattle.text.specs.Decimal.{decimal}
use Rattle.text.specs.Lines.{aligned}

-- a number below 10 is spaces and one digit
pub aligned_digit : (width n : ℕ) → n < 10 → aligned width n ≡ replicate (width - 1) 32 ++ ((48 + n) ∷ [])
unfolding aligned
aligned_digit width n h = rw (decimal_digit n h)

-- any other is its tenth, in a column less, and then its last digit
pub aligned_more : (width n : ℕ) → 10 ≤ n → aligned width n ≡ aligned (width - 1) (n / 10) ++ ((48 + n % 10) ∷ [])
unfolding aligned
aligned_more width n h =
    let last = (48 + n % 10) ∷ [] in
    let e : width - length (decimal (n / 10) ++ last) ≡ width - 1 - length (decimal (n / 10)) = simp length-append (omega arith) in
    rw (decimal_more n h, e, append_assoc)

-- a number that has no more digits than columns fills them
pub aligned_length : (k n : ℕ) → n < 10 ^ suc k → length (aligned (suc k) n) ≡ suc k
unfolding aligned
aligned_length k n h = simp (length-append, length-replicate) (omega (arith, decimal_length k n h))
