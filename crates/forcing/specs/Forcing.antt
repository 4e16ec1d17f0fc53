-- Who can force a win in the n requests to come: the keeper, if it can keep to the limit after each of them, or the guest. Assumes nothing.
use Rattle.std.specs.Prelude.{true, false, ◌⊎◌, ◌≡◌, ℕ, zero, suc}
use Rattle.forcing.specs.declared.Game.{Game}
use Rattle.forcing.specs.Positions.{Position, Stays, Move, after, within}

-- the keeper: there are stays such that, whatever the guest then asks, the limit holds and the keeper can force the rest
unfoldable pub KeeperForces : Game → ℕ → Position → Type 0
KeeperForces g zero P = Unit {0}
KeeperForces g (suc n) P =
    (s : ℕ → ℕ)
    × Stays g s
    × ((gap x : ℕ) → Move g gap x → (within g (after g P s gap x) ≡ true) × KeeperForces g n (after g P s gap x))

-- the guest: whatever stays are set, it can ask so that the limit is broken, or that it can force the rest
unfoldable pub GuestForces : Game → ℕ → Position → Type 0
GuestForces g zero P = ⊥
GuestForces g (suc n) P =
    (s : ℕ → ℕ)
    → Stays g s
    → (gap : ℕ) × (x : ℕ) × Move g gap x × ((within g (after g P s gap x) ≡ false) ⊎ GuestForces g n (after g P s gap x))
