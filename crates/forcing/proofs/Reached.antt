-- The positions that a play can reach: their seconds rise, their servers are the game's, so no feasible schedule costs less than their least cost.
use Rattle.std.specs.Prelude.{List, refl, ℕ, ◌+◌, ◌≤◌}
use Rattle.std.proofs.Common.{arith}
use Rattle.model.specs.Rates.{plain}
use Rattle.model.specs.Requests.{Rising, Within}
use Rattle.model.specs.Schedule.{Row, Feasible, cost_of}
use Rattle.model.proofs.PlanLeast.{plan_least}
use Rattle.forcing.specs.declared.Game.{Game}
use Rattle.forcing.specs.Positions.{Position, start, now_at, Move, after, least}
use Rattle.forcing.proofs.OneMore.{more_rising, more_within}

-- from the start by rounds
pub data Reached (g : Game) : Position → Type 0 where
  begun : Reached g start
  asked : (P : Position) (s : ℕ → ℕ) (gap x : ℕ) → Move g gap x → Reached g P → Reached g (after g P s gap x)

-- the seconds rise
pub reached_rising : (g : Game) (P : Position) → Reached g P → Rising P.asked P.count
unfolding start after now_at
reached_rising g P begun = record { start = refl; rise = λ i h. absurd (omega arith) }
reached_rising g P (asked Q s gap x M r) =
    more_rising Q.asked Q.count (now_at Q + gap) x (reached_rising g Q r) (omega (arith, M.some_gap))

-- the servers are the game's
pub reached_within : (g : Game) → 1 ≤ g.servers → (P : Position) → Reached g P → Within g.servers P.asked P.count
unfolding start after Within
reached_within g h P begun = λ i a. h
reached_within g h P (asked Q s gap x M r) = more_within Q.asked Q.count (now_at Q + gap) x g.servers (reached_within g h Q r) M.counted

-- no feasible schedule for the requests so far costs less than their least cost
pub reached_least : (g : Game) → 1 ≤ g.servers → (P : Position) → Reached g P → (rows : List Row)
    → Feasible (plain g.prices) P.asked P.count rows → least g P ≤ cost_of (plain g.prices) rows
unfolding least
reached_least g h P r rows f =
    (plan_least (plain g.prices) g.servers P.asked P.count (reached_rising g P r) (reached_within g h P r)).none_less rows f
