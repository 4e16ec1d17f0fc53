-- The keeper's window as its strategy: every copy is set to stay for what is left of the window since its last use, and no longer than the
-- largest gap. By it a play is the online cache's history, whatever is asked, so its running cost is at most three times the least.
use Rattle.std.specs.Prelude.{true, ◌⊎◌, ◌≢◌, ◌≡◌, refl, ℕ, zero, suc, ◌+◌, ◌-◌, ◌*◌, ◌≤◌, min, eqb}
use Rattle.std.proofs.Common.{inl, inr, ap, ◌∙◌, mul-le-mul_left, arith, le-leb, eq-eqb, ne_eqb}
use Rattle.std.proofs.Math.Option.{Option}
use Rattle.std.proofs.Math.Path.{sym}
use Rattle.base.specs.Choice.{pick, either, same_or_not}
use Rattle.prices.specs.Prices.{window}
use Rattle.model.specs.Requests.{Requests, Rising, Within}
use Rattle.model.proofs.RequestLaws.{rises_le}
use Rattle.model.proofs.Alike.{Alike}
use Rattle.model.specs.Rates.{plain}
use Rattle.model.proofs.PlanLaws.{plan_best}
use Rattle.online.specs.Servers.{across}
use Rattle.online.specs.ServerLaws.{across_same}
use Rattle.bounds.specs.History.{recent, left_of, last_use, holds, held, transfers, running_cost}
use Rattle.bounds.proofs.HistoryLaws.{use_none, transfers_most}
use Rattle.bounds.proofs.Seconds.{holds_last, holds_none, spent, spent_last, spent_other, held_zero, held_step}
use Rattle.bounds.proofs.WithinThree.{within_three}
use Rattle.forcing.specs.declared.Game.{Game}
use Rattle.forcing.specs.Positions.{Position, start, now_at, last_at, Stays, Move, there, holding, after, running, least, within}
use Rattle.forcing.specs.Forcing.{KeeperForces}
use Rattle.forcing.proofs.RoundLaws.{now_next}
use Rattle.forcing.proofs.HistoryAlike.{uses_alike, holds_alike, transfers_alike, held_alike}
use Rattle.forcing.proofs.OneMore.{more, more_time, more_server, more_alike, more_rising, more_within}
use Rattle.forcing.proofs.HistoryNext.{transfers_next, holds_next}
use Rattle.forcing.proofs.WindowStay.{stay_recent, stay_held}

-- ---- the strategy

-- the window of a game's prices
abbrev pub window_of : Game → ℕ
window_of g = window g.prices

-- each server's last use, by the online cache's rules
abbrev pub use_at : Game → Position → ℕ → Option ℕ
use_at g P y = last_use (window_of g) P.asked P.count y

-- the stays: what is left of the window since the last use, and at most the largest gap
unfoldable pub window_stays : Game → Position → ℕ → ℕ
window_stays g P y = min g.largest (left_of (window_of g) (use_at g P y) (now_at P))

-- they may be set
pub window_allowed : (g : Game) (P : Position) → Stays g (window_stays g P)
unfolding Stays window_stays
window_allowed g P y = omega arith

-- ---- positions that follow the history

-- the seconds rise, the servers are those of the game, and copies, seconds held and transfers are as the rules have them for the requests so far
pub record Follow (g : Game) (P : Position) : Type 0 where
  pub rising : Rising P.asked P.count
  pub inside : Within g.servers P.asked P.count
  pub stands_as : (y : ℕ) → P.stands y ≡ holds (window_of g) P.asked P.count y (now_at P)
  pub held_as : P.held ≡ held (window_of g) P.asked g.servers P.count
  pub sent_as : P.transfers ≡ transfers (window_of g) P.asked P.count

-- the start does
pub follow_start : (g : Game) → 1 ≤ g.servers → Follow g start
unfolding start now_at Within
follow_start g h =
    record {
      rising = record { start = refl; rise = λ i a. absurd (omega arith) };
      inside = λ i a. h;
      stands_as = λ y. go y (same_or_not y 0);
      held_as = sym (held_zero (window_of g) home g.servers refl);
      sent_as = omega (arith, transfers_most (window_of g) home 0);
    }
  where
    home : Requests
    home = record { time = λ i. 0; server = λ i. 0 }

    go : (y : ℕ) → (y ≡ 0) ⊎ (y ≢ 0) → eqb y 0 ≡ holds (window_of g) home 0 y 0
    go y (inl e) = eq-eqb y 0 e ∙ sym (holds_last (window_of g) home 0 y 0 e)
    go y (inr e) = ne_eqb y 0 e ∙ sym (holds_none (window_of g) home 0 y 0 e (use_none (window_of g) home y e))

-- ---- a round by the strategy

module _ (g : Game) (P : Position) (F : Follow g P) (gap x : ℕ) (M : Move g gap x) where
  -- the window, the requests so far, how many they are, the stays, the request's second, and the requests with it
  abbrev W : ℕ
  W = window_of g

  abbrev q : Requests
  q = P.asked

  abbrev i : ℕ
  i = P.count

  abbrev s : ℕ → ℕ
  s = window_stays g P

  abbrev τ : ℕ
  τ = now_at P + gap

  abbrev r : Requests
  r = more q i τ x

  -- a copy elsewhere than at the last server stands where its use is recent
  stands_recent : (y : ℕ) → y ≢ last_at P → P.stands y ≡ recent W (use_at g P y) (now_at P)
  unfolding last_at holds
  stands_recent y d = F.stands_as y ∙ rw (ne_eqb y (q.server i) d)

  -- copies stand when the request comes where the history holds
  there_holds : (y : ℕ) → there P s gap y ≡ holds W q i y τ
  unfolding there holds last_at window_stays
  there_holds y = go (same_or_not y (last_at P))
    where
      go : (y ≡ last_at P) ⊎ (y ≢ last_at P) → there P s gap y ≡ holds W q i y τ
      go (inl e) = rw (eq-eqb y (q.server i) e)
      go (inr e) =
          rw (ne_eqb y (q.server i) e, stands_recent y e) (stay_recent W g.largest (now_at P) gap M.some_gap M.most_gap (use_at g P y))

  -- the second of the request before the new one stays
  time_now : r.time i ≡ now_at P
  unfolding now_at
  time_now = sym ((more_alike q i τ x).times i (omega arith))

  -- so does its server
  server_now : r.server i ≡ last_at P
  unfolding last_at
  server_now = sym ((more_alike q i τ x).servers i (omega arith))

  -- and each last use
  use_now : (y : ℕ) → last_use W r i y ≡ use_at g P y
  use_now y = rw (uses_alike W q r i (more_alike q i τ x) i (omega arith))

  -- the gap is what lies between the two
  wait : r.time (suc i) - r.time i ≡ gap
  wait = omega (arith, more_time q i τ x, time_now)

  -- copies are held for as long as the history holds
  holding_spent : (y : ℕ) → holding P s gap y ≡ spent W r i y
  unfolding holding window_stays
  holding_spent y = go (same_or_not y (last_at P))
    where
      go : (y ≡ last_at P) ⊎ (y ≢ last_at P) → holding P s gap y ≡ spent W r i y
      go (inl e) = rw (eq-eqb y (last_at P) e) (sym (spent_last W r i y (e ∙ sym server_now) ∙ wait))
      go (inr e) =
          rw (ne_eqb y (last_at P) e, stands_recent y e)
          (stay_held W g.largest (now_at P) gap M.some_gap M.most_gap (use_at g P y)
          ∙ sym (spent_other W r i y (λ z. e (z ∙ server_now)) ∙ rw (wait, use_now y, time_now)))

  -- the seconds still rise
  rising_after : Rising r (suc i)
  unfolding now_at
  rising_after = more_rising q i τ x F.rising (omega (arith, M.some_gap))

  -- the position after it follows the history too
  pub follow_after : Follow g (after g P (window_stays g P) gap x)
  unfolding after
  follow_after =
      record {
        rising = rising_after;
        inside = more_within q i τ x g.servers F.inside M.counted;
        stands_as = λ y. rw (now_next g P s gap x) (stands y);
        held_as = held_after;
        sent_as = sent_after;
      }
    where
      old : Alike q r i
      old = more_alike q i τ x

      before : Rising r i
      before = record { start = rising_after.start; rise = λ l h. rising_after.rise l (omega arith) }

      stands : (y : ℕ) → either (eqb y x) (there P s gap y) ≡ holds W r (suc i) y τ
      stands y =
          rw (there_holds y, holds_alike W q r i old i y τ (omega arith))
          (sym (holds_next W r i τ x (more_time q i τ x) (more_server q i τ x) before y))

      held_after : P.held + across g.servers (holding P s gap) ≡ held W r g.servers (suc i)
      held_after =
          omega (
            arith,
            F.held_as,
            held_alike W q r i old g.servers,
            held_step W r g.servers i (rises_le rising_after i (suc i) (omega arith) (omega arith)),
            across_same g.servers (holding P s gap) (spent W r i) (λ y a. holding_spent y),
          )

      sent_after : P.transfers + pick (there P s gap x) 0 1 ≡ transfers W r (suc i)
      sent_after =
          rw (there_holds x, holds_alike W q r i old i x τ (omega arith))
          (omega (
            arith,
            F.sent_as,
            transfers_alike W q r i old,
            transfers_next W r i τ x (more_time q i τ x) (more_server q i τ x),
          ))

-- ---- three over one

-- where a position follows the history, the running cost is at most three times the least
pub follow_three : (g : Game) (P : Position) → 1 ≤ g.prices.hold → Follow g P → running g P ≤ 3 * least g P
unfolding running least running_cost
follow_three g P h F =
    omega (
      arith,
      within_three g.prices P.asked g.servers P.count h F.rising F.inside,
      plan_best (plain g.prices) P.asked P.count,
      ap (λ (a : ℕ). g.prices.hold * a) F.held_as,
      ap (λ (a : ℕ). g.prices.transfer * a) F.sent_as,
    )

-- so a limit of three over one or more holds
pub follow_within : (g : Game) (P : Position) → 1 ≤ g.prices.hold → 3 * g.q ≤ g.p → Follow g P → within g P ≡ true
unfolding within
follow_within g P h k F =
    le-leb (g.q * running g P) (g.p * least g P)
    (omega (arith, mul-le-mul_left g.q (follow_three g P h F), mul-le-mul_left (least g P) k))

-- and the keeper can force it for any number of requests
pub follow_forces : (g : Game) (n : ℕ) (P : Position) → 1 ≤ g.prices.hold → 3 * g.q ≤ g.p → Follow g P → KeeperForces g n P
unfolding KeeperForces
follow_forces g zero P h k F = tt
follow_forces g (suc n) P h k F = (
  window_stays g P,
  window_allowed g P,
  λ gap x M.
      let next = follow_after g P F gap x M in (
        follow_within g (after g P (window_stays g P) gap x) h k next,
        follow_forces g n (after g P (window_stays g P) gap x) h k next,
      ),
)

-- so at three over one the keeper wins from the start, however many servers and requests there are, and whatever the largest gap and the prices
pub three_over_one : (g : Game) (n : ℕ) → 1 ≤ g.servers → 1 ≤ g.prices.hold → 3 * g.q ≤ g.p → KeeperForces g n start
three_over_one g n a h k = follow_forces g n start h k (follow_start g a)
