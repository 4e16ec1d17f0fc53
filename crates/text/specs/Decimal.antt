-- A number in decimal, as ASCII digits. Assumes nothing.
use Rattle.std.specs.Prelude.{List, [], ◌∷◌, ◌++◌, ℕ, zero, suc, ◌+◌, ◌/◌, ◌%◌, ltb}
use Rattle.base.specs.Choice.{pick}

-- the last k digits of n at most, none in front that is 0 but for a single 0
unfoldable pub digits : ℕ → ℕ → List ℕ
digits zero n = []
digits (suc k) n = pick (ltb n 10) ((48 + n) ∷ []) (digits k (n / 10) ++ ((48 + n % 10) ∷ []))

-- all of them: n + 1 digits are enough for n
unfoldable pub decimal : ℕ → List ℕ
decimal n = digits (suc n) n
