-- Who wins, worked out, is who can force it: one side always can, and never both, for every game and any number of requests.
use Rattle.std.specs.Prelude.{Bool, true, false, not, ◌⊎◌, ◌≢◌, ◌≡◌, refl, ℕ, zero, suc, ◌≤◌, ◌<◌}
use Rattle.std.proofs.Common.{inl, inr, ap, arith, ne_eqb}
use Rattle.std.proofs.lemmas.Bool.{not-true, not-false}
use Rattle.base.specs.Choice.{both, le_or_lt, true_or_false, not_both}
use Rattle.base.specs.ChoiceLaws.{both_true, both_false}
use Rattle.forcing.specs.declared.Game.{Game}
use Rattle.forcing.specs.Positions.{Position, start, last_at, Stays, Move, after, within}
use Rattle.forcing.specs.Forcing.{KeeperForces, GuestForces}
use Rattle.forcing.specs.Winning.{guest_wins, keeper_wins}
use Rattle.forcing.proofs.RoundLaws.{meant, meant_stays, after_meant, Counted, counted_start, counted_after}
use Rattle.forcing.proofs.StayLaws.{stays_some, stays_one, move_some, move_one}

-- ---- never both

-- what the guest answers to the keeper's stays breaks the limit or leads to the same question again
pub never_both : (g : Game) (n : ℕ) (P : Position) → KeeperForces g n P → GuestForces g n P → ⊥
unfolding KeeperForces GuestForces
never_both g zero P K G = G
never_both g (suc n) P (s, may, K) G = go (G s may) (λ gap x. never_both g n (after g P s gap x))
  where
    go : (gap : ℕ) × (x : ℕ) × Move g gap x × ((within g (after g P s gap x) ≡ false) ⊎ GuestForces g n (after g P s gap x))
        → ((gap x : ℕ) → KeeperForces g n (after g P s gap x) → GuestForces g n (after g P s gap x) → ⊥)
        → ⊥
    go (gap, x, M, inl broken) ih = not_both (K gap x M).0 broken
    go (gap, x, M, inr rest) ih = ih gap x (K gap x M).1 rest

-- ---- the keeper

-- where the guest does not win against stays, every request keeps the limit and leads where the keeper wins
kept : (g : Game) (P : Position) (s : ℕ → ℕ) (follows : Position → Bool) → guest_wins g P s follows ≡ false → (gap x : ℕ) → Move g gap x
    → (within g (after g P s gap x) ≡ true) × (follows (after g P s gap x) ≡ true)
unfolding guest_wins
kept g P s follows e gap x M = both_true (within g (after g P s gap x)) (follows (after g P s gap x)) (go (true_or_false (f gap x)))
  where
    f : ℕ → ℕ → Bool
    f gap x = not (both (within g (after g P s gap x)) (follows (after g P s gap x)))

    go : (f gap x ≡ true) ⊎ (f gap x ≡ false) → both (within g (after g P s gap x)) (follows (after g P s gap x)) ≡ true
    go (inl z) = absurd (not_both (move_one g f gap x M z) e)
    go (inr z) = not-false _ z

-- where the keeper wins, it can force it
pub keeper_right : (g : Game) (n : ℕ) (P : Position) → keeper_wins g n P ≡ true → KeeperForces g n P
unfolding keeper_wins KeeperForces Stays
keeper_right g zero P e = tt
keeper_right g (suc n) P e =
    let (s, may, d) = stays_some g.servers g.largest (λ s. not (guest_wins g P s (keeper_wins g n))) e in
    let each = kept g P s (keeper_wins g n) (not-true _ d) in
    (s, may, λ gap x M. ((each gap x M).0, keeper_right g n (after g P s gap x) (each gap x M).1))

-- ---- the guest

-- a request after which the limit is broken, or the keeper does not win
abbrev Loses : Game → ℕ → Position → (ℕ → ℕ) → Type 0
Loses g n P s = (gap : ℕ) × (x : ℕ) × Move g gap x × ((within g (after g P s gap x) ≡ false) ⊎ (keeper_wins g n (after g P s gap x) ≡ false))

-- where the keeper does not win, there is one for any stays that are 0 from the server count on, as those are tried
answered : (g : Game) (n : ℕ) (P : Position) → keeper_wins g (suc n) P ≡ false → (s : ℕ → ℕ) → Stays g s → ((y : ℕ) → g.servers ≤ y → s y ≡ 0)
    → Loses g n P s
unfolding keeper_wins guest_wins Stays
answered g n P e s may none = go (true_or_false (guest_wins g P s (keeper_wins g n)))
  where
    go : (guest_wins g P s (keeper_wins g n) ≡ true) ⊎ (guest_wins g P s (keeper_wins g n) ≡ false) → Loses g n P s
    go (inl z) =
        let (gap, x, M, d) = move_some g (λ gap x. not (both (within g (after g P s gap x)) (keeper_wins g n (after g P s gap x)))) z in
        (gap, x, M, both_false (within g (after g P s gap x)) (keeper_wins g n (after g P s gap x)) (not-true _ d))
    go (inr z) =
        absurd (not_both
        (stays_one g.servers g.largest (λ s. not (guest_wins g P s (keeper_wins g n))) s (λ y h. may y) none (ap not z)) e)

-- so there is one for any stays: what they mean is tried
met : (g : Game) (n : ℕ) (P : Position) → Counted g P → keeper_wins g (suc n) P ≡ false → (s : ℕ → ℕ) → Stays g s → Loses g n P s
unfolding meant Stays
met g n P C e s may = go (le_or_lt 1 g.servers)
  where
    none : 1 ≤ g.servers → (y : ℕ) → g.servers ≤ y → meant g P s y ≡ 0
    none a y h =
        let d : y ≢ last_at P = λ z. omega (arith, C.last_in a) in
        rw (ne_eqb y (last_at P) d, C.others y h d)

    go : (1 ≤ g.servers) ⊎ (g.servers < 1) → Loses g n P s
    go (inl a) =
        let (gap, x, M, d) = answered g n P e (meant g P s) (meant_stays g P s may) (none a) in
        (gap, x, M, rw (after_meant g P s gap x M) d)
    go (inr a) =
        let (gap, x, M, d) = answered g n P e (λ y. 0) (λ y. omega arith) (λ y h. refl) in
        absurd (omega (arith, M.counted))

-- where the keeper does not win, the guest can force it
pub guest_right : (g : Game) (n : ℕ) (P : Position) → Counted g P → keeper_wins g n P ≡ false → GuestForces g n P
unfolding keeper_wins GuestForces
guest_right g zero P C e = not_both refl e
guest_right g (suc n) P C e = λ s may.
    go s (met g n P C e s may) (λ gap x M. guest_right g n (after g P s gap x) (counted_after g P s gap x M C))
  where
    go : (s : ℕ → ℕ) → Loses g n P s
        → ((gap x : ℕ) → Move g gap x → keeper_wins g n (after g P s gap x) ≡ false → GuestForces g n (after g P s gap x))
        → (gap : ℕ) × (x : ℕ) × Move g gap x × ((within g (after g P s gap x) ≡ false) ⊎ GuestForces g n (after g P s gap x))
    go s (gap, x, M, inl broken) ih = (gap, x, M, inl broken)
    go s (gap, x, M, inr lost) ih = (gap, x, M, inr (ih gap x M lost))

-- ---- from the start

-- one side can force it
pub one_forces : (g : Game) (n : ℕ) → KeeperForces g n start ⊎ GuestForces g n start
one_forces g n = go (true_or_false (keeper_wins g n start))
  where
    go : (keeper_wins g n start ≡ true) ⊎ (keeper_wins g n start ≡ false) → KeeperForces g n start ⊎ GuestForces g n start
    go (inl e) = inl (keeper_right g n start e)
    go (inr e) = inr (guest_right g n start (counted_start g) e)

-- who wins is who can force it, both ways
pub record Decided (g : Game) (n : ℕ) : Type 0 where
  pub keeper : keeper_wins g n start ≡ true → KeeperForces g n start
  pub keeper_back : KeeperForces g n start → keeper_wins g n start ≡ true
  pub guest : keeper_wins g n start ≡ false → GuestForces g n start
  pub guest_back : GuestForces g n start → keeper_wins g n start ≡ false

-- for every game and number of requests
pub decided : (g : Game) (n : ℕ) → Decided g n
decided g n =
    record {
      keeper = keeper_right g n start;
      keeper_back = λ K. keeper (true_or_false (keeper_wins g n start)) K;
      guest = guest_right g n start (counted_start g);
      guest_back = λ G. guest (true_or_false (keeper_wins g n start)) G;
    }
  where
    keeper : (keeper_wins g n start ≡ true) ⊎ (keeper_wins g n start ≡ false) → KeeperForces g n start → keeper_wins g n start ≡ true
    keeper (inl e) K = e
    keeper (inr e) K = absurd (never_both g n start K (guest_right g n start (counted_start g) e))

    guest : (keeper_wins g n start ≡ true) ⊎ (keeper_wins g n start ≡ false) → GuestForces g n start → keeper_wins g n start ≡ false
    guest (inl e) G = absurd (never_both g n start (keeper_right g n start e) G)
    guest (inr e) G = e
