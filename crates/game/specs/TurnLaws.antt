-- The two turns as the code goes through them, a law for each of its steps.
use Rattle.std.specs.Prelude.{Bool, true, false, not, List, ◌≡◌, ℕ, zero, suc, ◌+◌, ◌-◌, ◌*◌, ◌≤◌, ◌<◌, leb, get_or}
use Rattle.std.proofs.Math.Path.{sym, ap}
use Rattle.std.proofs.Common.{◌∙◌, mul-le-mul, add-one}
use native.Mathlib.Omega.{arith}
use Rattle.base.specs.Choice.{pick, both}
use Rattle.base.specs.Below.{some_below}
use Rattle.base.specs.BelowLaws.{below_same}
use Rattle.base.specs.Lists.{build_at}
use Rattle.model.specs.Rates.{plain}
use Rattle.model.proofs.PlanLaws.{plan_best}
use Rattle.forcing.specs.declared.Game.{Game}
use Rattle.game.specs.declared.board.Board.{Board}
use Rattle.game.specs.Answers.{Ranged}
use Rattle.forcing.specs.Positions.{Position, Move, after, running, least, within}
use Rattle.forcing.specs.Winning.{some_move, guest_wins, keeper_wins}
use Rattle.game.specs.Costs.{source_of, next_cost, limit, limits, spent}
use Rattle.game.specs.CostLaws.{cost_wait, cost_most}
use Rattle.game.specs.Boards.{asked_of, shown, stays_in, moved, Fits}
use Rattle.game.specs.BoardLaws.{Set, shown_moved, fits_moved}
use Rattle.game.specs.Settings.{settings, setting}
use Rattle.game.specs.SettingLaws.{keeper_turn}

-- ---- the limit

-- what the limit allows, where it stands
pub limit_at : (g : Game) (b : Board) (x : ℕ) → x < 3 → get_or (limits g b) x 0 ≡ limit g b x
unfolding limits
limit_at g b x h = build_at 3 (limit g b) x 0 h

-- it is no more than a thousand times thirty million
pub limit_most : (g : Game) (b : Board) → Ranged g → Fits g b → b.count < 3 → (x : ℕ) → limit g b x ≤ 30000000000
unfolding limit
limit_most g b R F room x =
    mul-le-mul {n₁ = g.p} {m₁ = next_cost g b 0 (source_of b x) (suc b.count)} {n₂ = 1000} {m₂ = 30000000} R.p_most
    (omega (arith, cost_most g b R F room 0 (omega arith) (source_of b x) (suc b.count)))

-- the least cost of a board's requests is among its costs
least_at : (g : Game) (b : Board) → Fits g b → get_or b.costs b.count 0 ≡ least g (shown b)
unfolding least shown
least_at g b F = F.costs_right b.count (omega (arith, F.few)) ∙ sym (plan_best (plain g.prices) (asked_of b) b.count)

module _ (g : Game) (b : Board) (stays : List ℕ) (gap x : ℕ) (R : Ranged g) (F : Fits g b) (E : Set g b stays) (room : b.count < 3) (M : Move g gap x) where
  -- the board and the position after the round
  abbrev B : Board
  B = moved g b stays gap x

  abbrev A : Position
  A = after g (shown b) (stays_in stays) gap x

  -- its cost among those of the board after
  cost_at : next_cost g b gap (source_of b x) (suc b.count) ≡ get_or B.costs B.count 0
  unfolding moved
  cost_at = sym (build_at 4 (next_cost g b gap (source_of b x)) (suc b.count) 0 (omega arith))

  -- p times its least cost
  limit_least : limit g b x + g.p * (g.prices.hold * gap) ≡ g.p * least g A
  unfolding limit
  limit_least =
      omega (
        arith,
        ap (λ (c : ℕ). g.p * c)
            (sym (cost_wait g b F gap (source_of b x))
            ∙ (cost_at ∙ (least_at g B (fits_moved g b stays gap x R F E room M) ∙ ap (least g) (shown_moved g b stays gap x R F E room M)))),
      )

  -- the running cost, with the request's own transfer
  running_is : spent g b stays gap + g.prices.transfer * pick (leb gap (get_or stays x 0)) 0 1 ≡ running g A
  unfolding spent running shown moved
  running_is = cost ∙ ap (running g) (shown_moved g b stays gap x R F E room M)
    where
      cost : spent g b stays gap + g.prices.transfer * pick (leb gap (get_or stays x 0)) 0 1 ≡ running g (shown B)
      cost = omega arith

  -- so the test that the code makes is that of the limit
  pub limit_holds : leb (g.q * (spent g b stays gap + g.prices.transfer * pick (leb gap (get_or stays x 0)) 0 1)) (limit g b x + g.p * (g.prices.hold * gap)) ≡ within g A
  unfolding within
  limit_holds = rw (running_is, limit_least)

-- ---- the turns

-- what the guest's turn goes by: a board, what the limit allows on it, and the stays that are set
pub record Turn (g : Game) (b : Board) (allowed stays : List ℕ) : Type 0 where
  pub ranged : Ranged g
  pub fits : Fits g b
  pub set : Set g b stays
  pub allows : allowed ≡ limits g b

-- by asking so the guest wins
abbrev pub beats : Game → Position → (ℕ → ℕ) → ℕ → ℕ → ℕ → Bool
beats g P s n gap x = not (both (within g (after g P s gap x)) (keeper_wins g n (after g P s gap x)))

module _ (g : Game) (P : Position) (s : ℕ → ℕ) (n gap x : ℕ) where
  -- where the limit is broken
  pub beats_broken : within g (after g P s gap x) ≡ false → beats g P s n gap x ≡ true
  beats_broken e = rw e

  -- where it holds, the keeper's turn tells; with no request to come the keeper has won
  pub beats_rest : within g (after g P s gap x) ≡ true → beats g P s n gap x ≡ not (keeper_wins g n (after g P s gap x))
  beats_rest e = rw e

  pub beats_end : within g (after g P s gap x) ≡ true → n ≡ 0 → beats g P s n gap x ≡ false
  unfolding keeper_wins
  beats_end e z = rw (e, z)

-- after i + 1 seconds, at some server
abbrev pub asking : Game → Position → (ℕ → ℕ) → ℕ → ℕ → Bool
asking g P s n i = some_below g.servers (λ x. beats g P s n (i + 1) x)

-- the guest's turn, gap by gap
pub guest_gaps : (g : Game) (P : Position) (s : ℕ → ℕ) (n : ℕ) → guest_wins g P s (keeper_wins g n) ≡ some_below g.largest (asking g P s n)
unfolding guest_wins some_move
guest_gaps g P s n = below_same g.largest (λ i. some_below g.servers (λ x. beats g P s n (suc i) x)) (asking g P s n) (λ i h. rw (add-one i))

-- the keeper's turn, setting by setting: by setting k the guest does not win
abbrev pub found : Game → Board → ℕ → ℕ → Bool
found g b n k = not (guest_wins g (shown b) (stays_in (setting g b k)) (keeper_wins g n))

pub keeper_settings : (g : Game) (b : Board) → Ranged g → Fits g b → (n : ℕ) → 1 ≤ n → keeper_wins g n (shown b) ≡ some_below (settings g b) (found g b (n - 1))
keeper_settings g b R F zero h = absurd (omega arith)
keeper_settings g b R F (suc n) h =
    let z : suc n - 1 ≡ n = omega arith in
    rw z (keeper_turn g b R F n)
