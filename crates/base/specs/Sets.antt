-- A set of servers in a word: server k is a member where bit k is 1. Assumes nothing.
use Rattle.std.specs.Prelude.{Bool, ℕ, zero, suc, ◌+◌, ◌-◌, ◌/◌, ◌%◌, ◌^◌, eqb, ltb}
use Rattle.base.specs.Choice.{pick}

-- k is a member
unfoldable pub has : ℕ → ℕ → Bool
has w k = eqb (w / 2 ^ k % 2) 1

-- the set with k
unfoldable pub put : ℕ → ℕ → ℕ
put w k = pick (has w k) w (w + 2 ^ k)

-- the set without k
unfoldable pub cut : ℕ → ℕ → ℕ
cut w k = pick (has w k) (w - 2 ^ k) w

-- the number of members below n
unfoldable pub members : ℕ → ℕ → ℕ
members zero w = 0
members (suc n) w = members n w + pick (has w n) 1 0

-- the lowest number below n that passes a test, or n where none does
unfoldable pub lowest : ℕ → (ℕ → Bool) → ℕ
lowest zero f = zero
lowest (suc n) f = pick (ltb (lowest n f) n) (lowest n f) (pick (f n) n (suc n))
