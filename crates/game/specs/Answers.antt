-- What `play` answers: 46, or who wins (02's Req 13). Assumes nothing.
use Rattle.std.specs.Prelude.{Bool, List, [], ◌∷◌, ℕ, ◌≤◌, ltb, Ok, Err, Result}
use Rattle.base.specs.declared.reasons.Reason.TheVariants as reason
use Rattle.base.specs.Choice.{pick, either}
use Rattle.base.specs.declared.Refusal.{Refusal}
use Rattle.base.specs.Refusals.{Condition, refuse, first, Verdict}
use Rattle.prices.specs.Prices.{outside, InRange}
use Rattle.forcing.specs.declared.Game.{Game}
use Rattle.game.specs.declared.Winner.{Winner}
use Rattle.game.specs.declared.Winner.TheVariants.{Keeper, Guest}
use Rattle.forcing.specs.Positions.{start}
use Rattle.forcing.specs.Winning.{keeper_wins}

-- a number is not from 1 to the most
unfoldable pub beyond : ℕ → ℕ → Bool
beyond most x = either (ltb x 1) (ltb most x)

-- a game whose sizes, prices and limit are in range
pub record Ranged (g : Game) : Type 0 where
  pub servers_least : 1 ≤ g.servers
  pub servers_most : g.servers ≤ 3
  pub requests_least : 1 ≤ g.requests
  pub requests_most : g.requests ≤ 3
  pub largest_least : 1 ≤ g.largest
  pub largest_most : g.largest ≤ 3
  pub priced : InRange g.prices
  pub p_least : 1 ≤ g.p
  pub p_most : g.p ≤ 1000
  pub q_least : 1 ≤ g.q
  pub q_most : g.q ≤ 1000

-- 46: a size is not from 1 to 3, a price not from 1 to 1,000,000, or a part of the limit not from 1 to 1,000
unfoldable pub play_conditions : Game → List Condition
play_conditions g =
    refuse reason.GameRange 0 (beyond 3 g.servers)
    ∷ refuse reason.GameRange 0 (beyond 3 g.requests)
    ∷ refuse reason.GameRange 0 (beyond 3 g.largest)
    ∷ refuse reason.GameRange 0 (outside g.prices)
    ∷ refuse reason.GameRange 0 (beyond 1000 g.p)
    ∷ refuse reason.GameRange 0 (beyond 1000 g.q)
    ∷ []

-- passed, or 46
unfoldable pub play_verdict : Game → Verdict
play_verdict g = first (play_conditions g)

-- by that verdict: the refusal, or who wins all the requests
abbrev pub played_by : Game → Verdict → Result Winner Refusal
played_by g (Ok _) = pick (keeper_wins g g.requests start) (Ok Keeper) (Ok Guest)
played_by g (Err r) = Err r

-- the answer
unfoldable pub played : Game → Result Winner Refusal
played g = played_by g (play_verdict g)
