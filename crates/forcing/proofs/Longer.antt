-- One request more never helps the keeper, and never hurts the guest.
use Rattle.std.specs.Prelude.{false, ◌⊎◌, ◌≡◌, ℕ, zero, suc, ◌≤◌, ◌<◌}
use Rattle.std.proofs.Common.{inl, inr, arith}
use Rattle.base.specs.Choice.{le_or_lt}
use Rattle.forcing.specs.declared.Game.{Game}
use Rattle.forcing.specs.Positions.{Position, Stays, Move, after, running, least, within}
use Rattle.forcing.specs.Forcing.{KeeperForces, GuestForces}

-- what the keeper can force for n + 1 requests, it can for n
pub keeper_less : (g : Game) (n : ℕ) (P : Position) → KeeperForces g (suc n) P → KeeperForces g n P
unfolding KeeperForces
keeper_less g zero P K = tt
keeper_less g (suc n) P (s, may, K) = (
  s,
  may,
  λ gap x M. let (w, rest) = K gap x M in (w, keeper_less g n (after g P s gap x) rest),
)

-- what the guest can force in n requests, it can in n + 1
pub guest_more : (g : Game) (n : ℕ) (P : Position) → GuestForces g n P → GuestForces g (suc n) P
unfolding GuestForces
guest_more g zero P G = absurd G
guest_more g (suc n) P G = λ s may. go s (G s may) (λ gap x. guest_more g n (after g P s gap x))
  where
    go : (s : ℕ → ℕ)
        → (gap : ℕ) × (x : ℕ) × Move g gap x × ((within g (after g P s gap x) ≡ false) ⊎ GuestForces g n (after g P s gap x))
        → ((gap x : ℕ) → GuestForces g n (after g P s gap x) → GuestForces g (suc n) (after g P s gap x))
        → (gap : ℕ) × (x : ℕ) × Move g gap x × ((within g (after g P s gap x) ≡ false) ⊎ GuestForces g (suc n) (after g P s gap x))
    go s (gap, x, M, inl broken) ih = (gap, x, M, inl broken)
    go s (gap, x, M, inr rest) ih = (gap, x, M, inr (ih gap x rest))

-- so for the keeper fewer requests are no worse
pub keeper_fewer : (g : Game) (m n : ℕ) (P : Position) → m ≤ n → KeeperForces g n P → KeeperForces g m P
unfolding KeeperForces
keeper_fewer g m zero P h K = let e : m ≡ 0 = omega arith in rw e tt
keeper_fewer g m (suc n) P h K = go (le_or_lt m n) (λ a. keeper_fewer g m n P a (keeper_less g n P K))
  where
    go : (m ≤ n) ⊎ (n < m) → (m ≤ n → KeeperForces g m P) → KeeperForces g m P
    go (inl a) ih = ih a
    go (inr a) ih = let e : m ≡ suc n = omega arith in rw e K

-- and for the guest more
pub guest_longer : (g : Game) (m n : ℕ) (P : Position) → m ≤ n → GuestForces g m P → GuestForces g n P
guest_longer g m zero P h G = let e : 0 ≡ m = omega arith in rw e G
guest_longer g m (suc n) P h G = go (le_or_lt m n) (λ a. guest_more g n P (guest_longer g m n P a G))
  where
    go : (m ≤ n) ⊎ (n < m) → (m ≤ n → GuestForces g (suc n) P) → GuestForces g (suc n) P
    go (inl a) ih = ih a
    go (inr a) ih = let e : suc n ≡ m = omega arith in rw e G

-- ---- the number of requests that the game says

-- the same game with another number of requests
unfoldable pub with_requests : Game → ℕ → Game
with_requests g m =
    record { servers = g.servers; requests = m; largest = g.largest; prices = g.prices; p = g.p; q = g.q }

-- what the keeper can force does not hang on it
pub keeper_same : (g : Game) (m n : ℕ) (P : Position) → KeeperForces g n P → KeeperForces (with_requests g m) n P
unfolding KeeperForces with_requests after within running least Stays
keeper_same g m zero P K = tt
keeper_same g m (suc n) P (s, may, K) = (
  s,
  may,
  λ gap x M.
      let (w, rest) = K gap x (record { some_gap = M.some_gap; most_gap = M.most_gap; counted = M.counted }) in
      (w, keeper_same g m n (after g P s gap x) rest),
)
