-- The sum of a log: what it passes over, and that it may be taken four bytes at a time.
use Rattle.std.specs.Prelude.{List, ◌∷◌, ◌≡◌, ℕ, ◌+◌, ◌*◌, ◌%◌, ◌^◌, take, drop}
use Rattle.checksum.specs.Sum.{sum_from, sum_of}
use Rattle.checksum.specs.SumLaws.{four_steps}

-- bytes 20 to 23 have no part in it, whatever the length: alike before and after them, two inputs have one sum
pub passed_over : (log other : List ℕ) → take 20 log ≡ take 20 other → drop 24 log ≡ drop 24 other → sum_of log ≡ sum_of other
unfolding sum_of
passed_over log other front back = rw (front, back)

-- four bytes in one step, with one product of the sum before them, are four steps
pub four_at_once : (s a b c d : ℕ) (rest : List ℕ)
    → sum_from s (a ∷ b ∷ c ∷ d ∷ rest) ≡ sum_from ((31 ^ 4 * s + (31 ^ 3 * a + 31 ^ 2 * b + 31 * c + d)) % 2 ^ 32) rest
four_at_once = four_steps
