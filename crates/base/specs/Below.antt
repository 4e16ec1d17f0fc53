-- Some number below n passes a test. Assumes nothing.
use Rattle.std.specs.Prelude.{Bool, false, ℕ, zero, suc}
use Rattle.base.specs.Choice.{either}

-- one of the numbers 0 to n - 1 passes a test
unfoldable pub some_below : ℕ → (ℕ → Bool) → Bool
some_below zero f = false
some_below (suc n) f = let r = some_below n f in either (f n) r
