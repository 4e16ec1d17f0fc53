-- The code's boards: the position that a board shows, a round on a board, and boards small enough to compute with. Assumes nothing.
use Rattle.std.specs.Prelude.{true, false, List, [], ◌∷◌, ◌≡◌, ℕ, suc, ◌+◌, ◌*◌, ◌≤◌, ◌<◌, min, leb, eqb, get_or, set, length}
use Rattle.base.specs.Choice.{pick, either}
use Rattle.base.specs.Lists.{build}
use Rattle.model.specs.Rates.{plain}
use Rattle.model.specs.Requests.{Requests}
use Rattle.model.specs.Table.{best}
use Rattle.forcing.specs.declared.Game.{Game}
use Rattle.game.specs.declared.board.Board.{Board}
use Rattle.forcing.specs.Positions.{Position}
use Rattle.forcing.proofs.RoundLaws.{Counted}
use Rattle.game.specs.Costs.{now_of, source_of, next_cost}

-- the requests of a board
unfoldable pub asked_of : Board → Requests
asked_of b = record { time = λ i. get_or b.seconds i 0; server = λ i. get_or b.servers i 0 }

-- the position that a board shows
unfoldable pub shown : Board → Position
shown b = record { asked = asked_of b; count = b.count; stands = λ y. get_or b.copies y false; held = b.held; transfers = b.transfers }

-- the stays in a list, 0 past its end
abbrev pub stays_in : List ℕ → ℕ → ℕ
stays_in list y = get_or list y 0

-- before the first request
unfoldable pub start_board : Board
start_board =
    record {
      count = 0;
      seconds = 0 ∷ 0 ∷ 0 ∷ 0 ∷ [];
      servers = 0 ∷ 0 ∷ 0 ∷ 0 ∷ [];
      copies = true ∷ false ∷ false ∷ [];
      held = 0;
      transfers = 0;
      costs = 0 ∷ 0 ∷ 0 ∷ 0 ∷ [];
    }

-- the board after a round
unfoldable pub moved : Game → Board → List ℕ → ℕ → ℕ → Board
moved g b stays gap x =
    record {
      count = suc b.count;
      seconds = set b.seconds (suc b.count) (now_of b + gap);
      servers = set b.servers (suc b.count) x;
      copies = build 3 (λ y. either (eqb y x) (leb gap (get_or stays y 0)));
      held = b.held + (min (get_or stays 0 0) gap + min (get_or stays 1 0) gap + min (get_or stays 2 0) gap);
      transfers = b.transfers + pick (leb gap (get_or stays x 0)) 0 1;
      costs = build 4 (next_cost g b gap (source_of b x));
    }

-- a board of at most three requests, none of which is late, with the least costs of these
pub record Fits (g : Game) (b : Board) : Type 0 where
  pub seconds_long : length b.seconds ≡ 4
  pub servers_long : length b.servers ≡ 4
  pub copies_long : length b.copies ≡ 3
  pub costs_long : length b.costs ≡ 4
  pub few : b.count ≤ 3
  pub now_most : now_of b ≤ 3 * b.count
  pub past : (i : ℕ) → get_or b.seconds i 0 ≤ now_of b
  pub held_most : b.held ≤ 9 * b.count
  pub transfers_most : b.transfers ≤ b.count
  pub counted : Counted g (shown b)
  pub costs_right : (c : ℕ) → c < 4 → get_or b.costs c 0 ≡ best (plain g.prices) (asked_of b) b.count c
  pub costs_most : (c : ℕ) → get_or b.costs c 0 ≤ 10000000 * b.count
