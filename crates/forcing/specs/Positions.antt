-- The game of 02's Req 13: where a play stands, what a round makes of it, and the limit. Assumes nothing.
use Rattle.std.specs.Prelude.{Bool, true, ℕ, suc, ◌+◌, ◌*◌, ◌≤◌, ◌<◌, min, leb, eqb}
use Rattle.base.specs.Choice.{pick, either, both}
use Rattle.model.specs.Rates.{plain}
use Rattle.model.specs.Requests.{Requests}
use Rattle.model.specs.Plan.{plan_cost}
use Rattle.online.specs.Servers.{across}
use Rattle.forcing.specs.declared.Game.{Game}

-- ---- where a play stands

-- the requests so far, home's copy at second 0 as index 0; how many they are; the servers at which copies stand when the last one has been
-- served; the seconds that copies were held up to it, and the transfers
pub record Position : Type 0 where
  pub asked : Requests
  pub count : ℕ
  pub stands : ℕ → Bool
  pub held : ℕ
  pub transfers : ℕ

-- before the first request: one copy, at home, server 0
unfoldable pub start : Position
start =
    record {
      asked = record { time = λ i. 0; server = λ i. 0 };
      count = 0;
      stands = λ y. eqb y 0;
      held = 0;
      transfers = 0;
    }

-- the second of the last request; 0 before any
unfoldable pub now_at : Position → ℕ
now_at P = P.asked.time P.count

-- its server; home before any
unfoldable pub last_at : Position → ℕ
last_at P = P.asked.server P.count

-- ---- a round: the keeper sets the stays s, then the guest asks for server x, `gap` seconds after the last request

-- the stays that may be set: from 0 seconds to the largest gap; they count where a copy stands that is not the last one's
unfoldable pub Stays : Game → (ℕ → ℕ) → Type 0
Stays g s = (y : ℕ) → s y ≤ g.largest

-- what the guest may ask
pub record Move (g : Game) (gap x : ℕ) : Type 0 where
  pub some_gap : 1 ≤ gap
  pub most_gap : gap ≤ g.largest
  pub counted : x < g.servers

-- a copy stands at y when the request comes: the last one's always, any other that is set to stay so long
unfoldable pub there : Position → (ℕ → ℕ) → ℕ → ℕ → Bool
there P s gap y = pick (eqb y (last_at P)) true (both (P.stands y) (leb gap (s y)))

-- the seconds that y holds in the gap: the last one's copy all of them, any other as many as it is set to stay
unfoldable pub holding : Position → (ℕ → ℕ) → ℕ → ℕ → ℕ
holding P s gap y = pick (eqb y (last_at P)) gap (pick (P.stands y) (min (s y) gap) 0)

-- f with a at i
unfoldable pub put : (ℕ → ℕ) → ℕ → ℕ → ℕ → ℕ
put f i a j = pick (eqb j i) a (f j)

-- the requests with one at second τ and server x as number i
unfoldable pub with_request : Requests → ℕ → ℕ → ℕ → Requests
with_request q i τ x = record { time = put q.time i τ; server = put q.server i x }

-- the position after the round: copies stand where they stood when the request came, and at its server, to which one is sent if none did
unfoldable pub after : Game → Position → (ℕ → ℕ) → ℕ → ℕ → Position
after g P s gap x =
    record {
      asked = with_request P.asked (suc P.count) (now_at P + gap) x;
      count = suc P.count;
      stands = λ y. either (eqb y x) (there P s gap y);
      held = P.held + across g.servers (holding P s gap);
      transfers = P.transfers + pick (there P s gap x) 0 1;
    }

-- ---- the limit

-- the running cost of the requests so far
unfoldable pub running : Game → Position → ℕ
running g P = g.prices.hold * P.held + g.prices.transfer * P.transfers

-- their least cost: the plan's
unfoldable pub least : Game → Position → ℕ
least g P = plan_cost (plain g.prices) P.asked P.count

-- the running cost is at most p over q times the least
unfoldable pub within : Game → Position → Bool
within g P = leb (g.q * running g P) (g.p * least g P)
