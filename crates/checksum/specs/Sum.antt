-- The log's sum, as 01's 'The log' gives it. Assumes nothing.
use Rattle.std.specs.Prelude.{ℕ, ◌+◌, ◌*◌, ◌%◌, ◌^◌, List, [], ◌∷◌, ◌++◌, take, drop}

-- a byte takes the sum s to 31·s + byte in 32 bits
unfoldable pub sum_from : ℕ → List ℕ → ℕ
sum_from s [] = s
sum_from s (b ∷ bs) = sum_from ((31 * s + b) % 2 ^ 32) bs

-- the sum of a log: it starts at 0, and passes over bytes 20 to 23
unfoldable pub sum_of : List ℕ → ℕ
sum_of log = sum_from 0 (take 20 log ++ drop 24 log)
