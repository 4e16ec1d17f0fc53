-- A larger limit never hurts the keeper, and a smaller one never hurts the guest.
use Rattle.std.specs.Prelude.{true, ◌⊎◌, ◌≡◌}
use Rattle.std.proofs.Math.Bool.{false}
use Rattle.std.proofs.Common.{inl, inr, mul-le-mul_left, arith}
use Rattle.std.proofs.Math.Nat.{le_of_mul-le-mul_left}
use Prim.Native.Nat.{ℕ, zero, suc, ◌*◌, ◌≤◌}
use borrow.Author.Tests.{leb-true, le-leb}
use Rattle.base.specs.Choice.{true_or_false, not_both}
use Rattle.forcing.specs.declared.Game.{Game}
use Rattle.forcing.specs.Positions.{Position, Stays, Move, after, running, least, within}
use Rattle.forcing.specs.Forcing.{KeeperForces, GuestForces}

-- the same game with the limit p over q
unfoldable pub with_limit : Game → ℕ → ℕ → Game
with_limit g p q =
    record { servers = g.servers; requests = g.requests; largest = g.largest; prices = g.prices; p = p; q = q }

-- a cost that is at most p over q times another is at most any larger p' over q' times it
limit_larger : (p q p' q' cost other : ℕ) → 1 ≤ q → p * q' ≤ p' * q → q * cost ≤ p * other → q' * cost ≤ p' * other
limit_larger p q p' q' cost other pos up h = le_of_mul-le-mul_left {k = q} all pos
  where
    all : q * (q' * cost) ≤ q * (p' * other)
    all = omega (arith, mul-le-mul_left q' h, mul-le-mul_left other up)

module _ (g : Game) (p q : ℕ) where
  -- a position within a limit is within a larger one
  within_larger : (P : Position) → 1 ≤ g.q → g.p * q ≤ p * g.q → within g P ≡ true → within (with_limit g p q) P ≡ true
  unfolding within with_limit running least
  within_larger P pos up e =
      le-leb (q * running g P) (p * least g P) (limit_larger g.p g.q p q (running g P) (least g P) pos up (leb-true _ _ e))

  -- one that is not is not within a smaller one
  broken_smaller : (P : Position) → 1 ≤ q → p * g.q ≤ g.p * q → within g P ≡ false → within (with_limit g p q) P ≡ false
  unfolding within with_limit running least
  broken_smaller P pos down e = go (true_or_false (within (with_limit g p q) P))
    where
      go : (within (with_limit g p q) P ≡ true) ⊎ (within (with_limit g p q) P ≡ false) → within (with_limit g p q) P ≡ false
      go (inr z) = z
      go (inl z) =
          absurd (not_both
          (le-leb (g.q * running g P) (g.p * least g P) (limit_larger p q g.p g.q (running g P) (least g P) pos down (leb-true _ _ z))) e)

  -- what the keeper can force within a limit, it can within a larger one
  pub larger : (n : ℕ) (P : Position) → 1 ≤ g.q → g.p * q ≤ p * g.q → KeeperForces g n P → KeeperForces (with_limit g p q) n P
  unfolding KeeperForces with_limit after Stays
  larger zero P pos up K = tt
  larger (suc n) P pos up (s, may, K) = (
    s,
    may,
    λ gap x M.
        let (w, rest) = K gap x (record { some_gap = M.some_gap; most_gap = M.most_gap; counted = M.counted }) in
        (within_larger (after g P s gap x) pos up w, larger n (after g P s gap x) pos up rest),
  )

  -- what the guest can force against a limit, it can against a smaller one
  pub smaller : (n : ℕ) (P : Position) → 1 ≤ q → p * g.q ≤ g.p * q → GuestForces g n P → GuestForces (with_limit g p q) n P
  unfolding GuestForces with_limit after Stays
  smaller zero P pos down G = absurd G
  smaller (suc n) P pos down G = λ s may. go s (G s may) (λ gap x. smaller n (after g P s gap x) pos down)
    where
      to : {gap x : ℕ} → Move g gap x → Move (with_limit g p q) gap x
      to M = record { some_gap = M.some_gap; most_gap = M.most_gap; counted = M.counted }

      go : (s : ℕ → ℕ)
          → (gap : ℕ) × (x : ℕ) × Move g gap x × ((within g (after g P s gap x) ≡ false) ⊎ GuestForces g n (after g P s gap x))
          → ((gap x : ℕ) → GuestForces g n (after g P s gap x) → GuestForces (with_limit g p q) n (after g P s gap x))
          → (gap : ℕ) × (x : ℕ) × Move (with_limit g p q) gap x
          × ((within (with_limit g p q) (after g P s gap x) ≡ false) ⊎ GuestForces (with_limit g p q) n (after g P s gap x))
      go s (gap, x, M, inl broken) ih = (gap, x, to M, inl (broken_smaller (after g P s gap x) pos down broken))
      go s (gap, x, M, inr rest) ih = (gap, x, to M, inr (ih gap x rest))
