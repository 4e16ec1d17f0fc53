-- 02's Req 13, over the definitions that `play`'s contract cites: the answer is right if and only if that side can force it, 46 exactly where something is out
-- of range; at three over one the keeper wins whatever the sizes and prices; a larger limit never hurts it, and one more request never helps it.
use Rattle.std.specs.Prelude.{Bool, true, false, List, ◌⊎◌, ◌↔◌, ◌≡◌, refl, ℕ, zero, suc, ◌*◌, ◌≤◌, ◌<◌, Ok, Err, Result}
use Rattle.base.specs.Refusals.{Verdict}
use Rattle.base.specs.declared.reasons.Reason.TheVariants as reason
use Rattle.std.proofs.Common.{sym, ap, ◌∙◌, arith}
use Rattle.base.specs.declared.Refusal.{Refusal}
use Rattle.base.specs.Choice.{pick}
use Rattle.model.specs.Rates.{plain}
use Rattle.model.specs.Schedule.{Row, Feasible, cost_of}
use Rattle.forcing.specs.declared.Game.{Game}
use Rattle.game.specs.declared.Winner.{Winner}
use Rattle.game.specs.declared.Winner.TheVariants.{Keeper, Guest}
use Rattle.forcing.specs.Positions.{Position, start, least}
use Rattle.forcing.specs.Forcing.{KeeperForces, GuestForces}
use Rattle.forcing.specs.Winning.{keeper_wins}
use Rattle.game.specs.Answers.{Ranged, play_verdict, played}
use Rattle.game.specs.AnswerLaws.{ranged, played_winner, played_refused, only_46}
use Rattle.forcing.proofs.Decided.{decided, never_both, one_forces}
use Rattle.forcing.proofs.Reached.{Reached, reached_least}
use Rattle.forcing.proofs.Strategy.{three_over_one}
use Rattle.forcing.proofs.Longer.{keeper_less, with_requests, keeper_same}
use Rattle.forcing.proofs.Larger.{with_limit, larger}
use Rattle.forcing.proofs.BelowOne.{guest_below}

-- ---- the answer is right

-- of every game: the keeper, if and only if it is in range and the keeper can force it; the guest, if and only if it is in range and the guest can; 46 and place
-- 0, if and only if it is not in range
pub record Right (g : Game) : Type 0 where
  pub keeper : (played g ≡ Ok Keeper) ↔ (Ranged g × KeeperForces g g.requests start)
  pub guest : (played g ≡ Ok Guest) ↔ (Ranged g × GuestForces g g.requests start)
  pub refused : (r : Refusal) → (played g ≡ Err r) ↔ ((Ranged g → ⊥) × (r ≡ record { reason = reason.GameRange; place = 0 }))

pub right : (g : Game) → Right g
right g = go (play_verdict g) refl
  where
    -- two answers are not the same
    keeper_guest : ◌≡◌ {A = Result Winner Refusal} (Ok Keeper) (Ok Guest) → ⊥
    keeper_guest e = let z : ◌≡◌ {A = ℕ} 0 1 = cc in omega arith

    keeper_refused : (r : Refusal) → ◌≡◌ {A = Result Winner Refusal} (Ok Keeper) (Err r) → ⊥
    keeper_refused r e = let z : ◌≡◌ {A = ℕ} 0 1 = cc in omega arith

    guest_refused : (r : Refusal) → ◌≡◌ {A = Result Winner Refusal} (Ok Guest) (Err r) → ⊥
    guest_refused r e = let z : ◌≡◌ {A = ℕ} 0 1 = cc in omega arith

    won : Ranged g → (b : Bool) → keeper_wins g g.requests start ≡ b → played g ≡ pick b (Ok Keeper) (Ok Guest) → Right g
    won R true z e =
        let K = (decided g g.requests).keeper z in
        record {
          keeper = (λ w. (R, K), λ w. e);
          guest = (λ w. absurd (keeper_guest (sym e ∙ w)), λ w. absurd (never_both g g.requests start K w.1));
          refused = λ r. (λ w. absurd (keeper_refused r (sym e ∙ w)), λ w. absurd (w.0 R));
        }
    won R false z e =
        let G = (decided g g.requests).guest z in
        record {
          keeper = (λ w. absurd (keeper_guest (sym w ∙ e)), λ w. absurd (never_both g g.requests start w.1 G));
          guest = (λ w. (R, G), λ w. e);
          refused = λ r. (λ w. absurd (guest_refused r (sym e ∙ w)), λ w. absurd (w.0 R));
        }

    go : (v : Verdict) → play_verdict g ≡ v → Right g
    go (Ok _) z =
        won ((ranged g).0 z) (keeper_wins g g.requests start) refl (played_winner g z)
    go (Err r) z =
        let e = played_refused g r z in
        let out : Ranged g → ⊥ = λ R. (let w : Err r ≡ (Ok tt) = sym z ∙ (ranged g).1 R in let y : ◌≡◌ {A = ℕ} 0 1 = cc in omega arith) in
        record {
          keeper = (λ w. absurd (keeper_refused r (sym w ∙ e)), λ w. absurd (out w.0));
          guest = (λ w. absurd (guest_refused r (sym w ∙ e)), λ w. absurd (out w.0));
          refused = λ r'. (λ w. (out, same r' w e), λ w. e ∙ ap Err (only_46 g r z ∙ sym w.1));
        }
      where
        same : (r' : Refusal) → played g ≡ Err r' → played g ≡ Err r → r' ≡ record { reason = reason.GameRange; place = 0 }
        same r' w e = (let y : r' ≡ r = cc in y) ∙ only_46 g r z

-- one side always can, for every game, in range or not, and any number of requests
pub one_can : (g : Game) (n : ℕ) → KeeperForces g n start ⊎ GuestForces g n start
one_can = one_forces

-- and never both
pub not_both_can : (g : Game) (n : ℕ) → KeeperForces g n start → GuestForces g n start → ⊥
not_both_can g n = never_both g n start

-- the least cost that the limit is measured by is the model's: wherever a play comes to, no feasible schedule for the requests so far costs less
pub least_cost : (g : Game) → 1 ≤ g.servers → (P : Position) → Reached g P → (rows : List Row)
    → Feasible (plain g.prices) P.asked P.count rows → least g P ≤ cost_of (plain g.prices) rows
least_cost = reached_least

-- ---- three over one

-- the keeper wins at three over one and above, for any number of servers, requests and seconds of gap, and all prices that are not 0
pub three_forces : (g : Game) (n : ℕ) → 1 ≤ g.servers → 1 ≤ g.prices.hold → 3 * g.q ≤ g.p → KeeperForces g n start
three_forces = three_over_one

-- so `play` says
pub three_wins : (g : Game) → Ranged g → 3 * g.q ≤ g.p → played g ≡ (Ok Keeper)
three_wins g R h = (right g).keeper.1 (R, three_forces g g.requests R.servers_least R.priced.hold_least h)

-- ---- limits and lengths

-- a larger limit never hurts the keeper
pub larger_wins : (g : Game) (p q : ℕ) → g.p * q ≤ p * g.q → Ranged (with_limit g p q) → played g ≡ (Ok Keeper) → played (with_limit g p q) ≡ (Ok Keeper)
unfolding with_limit
larger_wins g p q h R w =
    let (S, K) = (right g).keeper.0 w in
    (right (with_limit g p q)).keeper.1 (R, larger g p q g.requests start S.q_least h K)

-- one more request never helps it
pub longer_wins : (g : Game) (n : ℕ) → Ranged (with_requests g n) → played (with_requests g (suc n)) ≡ (Ok Keeper) → played (with_requests g n) ≡ (Ok Keeper)
unfolding with_requests
longer_wins g n R w =
    let (S, K) = (right (with_requests g (suc n))).keeper.0 w in
    (right (with_requests g n)).keeper.1 (R, keeper_same (with_requests g (suc n)) n n start (keeper_less (with_requests g (suc n)) n start K))

-- below one over one the guest wins
pub below_wins : (g : Game) → Ranged g → g.p < g.q → played g ≡ (Ok Guest)
below_wins g R h = (right g).guest.1 (R, go g.requests R.requests_least)
  where
    go : (n : ℕ) → 1 ≤ n → GuestForces g n start
    go zero a = absurd (omega arith)
    go (suc n) a = guest_below g n R.servers_least R.largest_least R.priced.hold_least h
