-- A limit below one over one: the guest asks at home after one second. Holding over that second is the running cost and all that a plan costs,
-- so the limit is broken at the first request.
use Rattle.std.specs.Prelude.{false, ◌⊎◌, ◌≢◌, ◌≡◌, refl, ℕ, suc, ◌*◌, ◌≤◌, ◌<◌}
use Rattle.std.proofs.Common.{inl, inr, ◌∙◌}
use Rattle.std.proofs.Math.Path.{ap}
use Rattle.std.proofs.Math.Nat.{mul-le-mul_left, mul-lt-mul_of_pos_right}
use native.Mathlib.Omega.{arith}
use borrow.Author.Tests.{lt-leb, eq-eqb, ne_eqb}
use Rattle.base.specs.Choice.{same_or_not}
use Rattle.model.specs.Requests.{Requests}
use Rattle.model.proofs.RequestLaws.{previous_next}
use Rattle.model.specs.Rates.{rates, plain}
use Rattle.model.proofs.BestLaws.{best_zero, best_K}
use Rattle.model.proofs.PlanLaws.{plan_best}
use Rattle.online.specs.Servers.{across}
use Rattle.online.specs.ServerLaws.{across_same, at, at_same, at_other, across_at}
use Rattle.forcing.specs.declared.Game.{Game}
use Rattle.forcing.specs.Positions.{Position, start, now_at, last_at, there, holding, put, with_request, after, running, least, within}
use Rattle.forcing.specs.Forcing.{GuestForces}

module _ (g : Game) (s : ℕ → ℕ) (servers : 1 ≤ g.servers) where
  -- after a second at home
  abbrev later : Position
  later = after g start s 1 0

  -- home's copy was held for it, and no other
  one_second : across g.servers (holding start s 1) ≡ 1
  unfolding holding start last_at
  one_second = across_same g.servers (holding start s 1) (at 0 1) (λ y a. go y (same_or_not y 0)) ∙ across_at g.servers 0 1 servers
    where
      go : (y : ℕ) → (y ≡ 0) ⊎ (y ≢ 0) → holding start s 1 y ≡ at 0 1 y
      go y (inl e) = rw (eq-eqb y 0 e, at_same 0 1 y e)
      go y (inr e) = rw (ne_eqb y 0 e, at_other 0 1 y e)

  -- so that is the running cost
  running_one : running g later ≡ g.prices.hold
  unfolding running after start there last_at
  running_one = omega (arith, ap (λ (a : ℕ). g.prices.hold * a) one_second)

  -- and the least is no more: the request can be kept
  least_one : least g later ≤ g.prices.hold
  unfolding least after start now_at rates with_request put
  least_one =
      omega (
        arith,
        plan_best (plain g.prices) asked 1,
        best_K (plain g.prices) asked 0 1 0 (previous_next asked 0 refl),
        best_zero (plain g.prices) asked 0,
      )
    where
      asked : Requests
      asked = later.asked

  -- a limit below one over one is broken
  broken : 1 ≤ g.prices.hold → g.p < g.q → within g later ≡ false
  unfolding within
  broken h k =
      lt-leb (g.q * running g later) (g.p * least g later)
      (omega (
        arith,
        ap (λ (a : ℕ). g.q * a) running_one,
        mul-le-mul_left g.p least_one,
        mul-lt-mul_of_pos_right {k = g.prices.hold} k h,
      ))

-- so the guest wins, whatever stays are set
pub guest_below : (g : Game) (n : ℕ) → 1 ≤ g.servers → 1 ≤ g.largest → 1 ≤ g.prices.hold → g.p < g.q → GuestForces g (suc n) start
unfolding GuestForces
guest_below g n servers gap h k = λ s may. (
  1,
  0,
  record { some_gap = omega arith; most_gap = gap; counted = servers },
  inl (broken g s servers h k),
)
