-- Over the servers 0 to n - 1: a sum, a set in a word, a test of each. Assumes nothing.
use Rattle.std.specs.Prelude.{Bool, false, ℕ, zero, suc, pred}
use Rattle.base.specs.Choice.{pick, either}
use Rattle.base.specs.Sets.{put}
use Rattle.model.specs.Sums.{sum}

-- the sum of a number over the servers below n
unfoldable pub across : ℕ → (ℕ → ℕ) → ℕ
across n f = sum n (λ y. f (pred y))

-- the set of the servers below n that pass a test
unfoldable pub set_of : ℕ → (ℕ → Bool) → ℕ
set_of zero f = 0
set_of (suc n) f = let w = set_of n f in pick (f n) (put w n) w

-- some server below n passes a test
unfoldable pub some_server : ℕ → (ℕ → Bool) → Bool
some_server zero f = false
some_server (suc n) f = let r = some_server n f in either (f n) r
