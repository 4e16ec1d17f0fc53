-- The nearest of the numbers that pass a test. Assumes nothing.
use Rattle.std.specs.Prelude.{Bool, true, not, ℕ, zero, suc, ◌+◌, ◌-◌, leb, ltb}
use Rattle.base.specs.Choice.{pick, both, either}
use Rattle.base.specs.Sets.{lowest}

-- how far apart two numbers are
unfoldable pub distance : ℕ → ℕ → ℕ
distance a b = (a - b) + (b - a)

-- no number below n that passes a test is nearer to t than y
unfoldable pub none_nearer : ℕ → (ℕ → Bool) → ℕ → ℕ → Bool
none_nearer zero f t y = true
none_nearer (suc n) f t y = both (either (not (f n)) (leb (distance y t) (distance n t))) (none_nearer n f t y)

-- of the numbers below n that pass a test the nearest to t, the lower of two equally near; 0 where none passes
unfoldable pub nearest : ℕ → (ℕ → Bool) → ℕ → ℕ
nearest n f t = pick (ltb (lowest n f) n) (lowest n (λ y. both (f y) (none_nearer n f t y))) 0
