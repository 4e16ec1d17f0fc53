-- Who wins, worked out: each of the stays that can be set is tried against each request that can be asked. Assumes nothing.
use Rattle.std.specs.Prelude.{Bool, true, not, ℕ, zero, suc}
use Rattle.base.specs.Choice.{both}
use Rattle.base.specs.Below.{some_below}
use Rattle.forcing.specs.declared.Game.{Game}
use Rattle.forcing.specs.Positions.{Position, put, after, within}

-- some stays of the servers below n, each from 0 to the most, pass a test
unfoldable pub some_stays : ℕ → ℕ → ((ℕ → ℕ) → Bool) → Bool
some_stays zero most f = f (λ y. 0)
some_stays (suc n) most f = some_stays n most (λ s. some_below (suc most) (λ a. f (put s n a)))

-- some request that the guest may ask passes a test
unfoldable pub some_move : Game → (ℕ → ℕ → Bool) → Bool
some_move g f = some_below g.largest (λ i. some_below g.servers (λ x. f (suc i) x))

-- the guest, who sees the stays s, wins: by some request the limit is broken, or the keeper does not win what follows it
unfoldable pub guest_wins : Game → Position → (ℕ → ℕ) → (Position → Bool) → Bool
guest_wins g P s follows = some_move g (λ gap x. not (both (within g (after g P s gap x)) (follows (after g P s gap x))))

-- the keeper wins the n requests to come: by some stays the guest does not win
unfoldable pub keeper_wins : Game → ℕ → Position → Bool
keeper_wins g zero = λ P. true
keeper_wins g (suc n) = λ P. some_stays g.servers g.largest (λ s. not (guest_wins g P s (keeper_wins g n)))
