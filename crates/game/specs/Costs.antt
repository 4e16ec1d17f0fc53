-- What the code works out of the requests so far: the least costs with one request more, what the limit then allows, and the running cost. Assumes nothing.
use Rattle.std.specs.Prelude.{Bool, false, List, ℕ, suc, ◌+◌, ◌-◌, ◌*◌, min, ltb, eqb, get_or}
use Rattle.base.specs.Choice.{pick}
use Rattle.base.specs.Lists.{build}
use Rattle.forcing.specs.declared.Game.{Game}
use Rattle.game.specs.declared.board.Board.{Board}

-- the second and the server of the last request
unfoldable pub now_of : Board → ℕ
now_of b = get_or b.seconds b.count 0

unfoldable pub last_of : Board → ℕ
last_of b = get_or b.servers b.count 0

-- request i is one of those so far, at server x
unfoldable pub asked_at : Board → ℕ → ℕ → Bool
asked_at b x i = pick (ltb b.count i) false (eqb (get_or b.servers i 0) x)

-- the latest of the first three that is, or 4
unfoldable pub source_of : Board → ℕ → ℕ
source_of b x = pick (asked_at b x 2) 2 (pick (asked_at b x 1) 1 (pick (asked_at b x 0) 0 4))

-- the cost if the next request is sent, `gap` seconds from now
unfoldable pub sent_cost : Game → Board → ℕ → ℕ → ℕ
sent_cost g b gap c =
    pick (ltb b.count c) (g.prices.transfer + g.prices.hold * gap) g.prices.transfer + get_or b.costs (min c b.count) 0

-- the cost if it is kept since request `from`
unfoldable pub kept_cost : Game → Board → ℕ → ℕ → ℕ → ℕ
kept_cost g b gap from c = g.prices.hold * (now_of b + gap - get_or b.seconds from 0) + get_or b.costs (min c from) 0

-- the lesser of both, over what is legal, where `from` is the latest request at its server
unfoldable pub next_cost : Game → Board → ℕ → ℕ → ℕ → ℕ
next_cost g b gap from c =
    pick (eqb from 4) (sent_cost g b gap c)
    (pick (eqb from b.count) (kept_cost g b gap from c) (min (sent_cost g b gap c) (kept_cost g b gap from c)))

-- p times the least cost with a request at server x, but for the holding of the gap before it
unfoldable pub limit : Game → Board → ℕ → ℕ
limit g b x = g.p * next_cost g b 0 (source_of b x) (suc b.count)

-- for each of three servers
unfoldable pub limits : Game → Board → List ℕ
limits g b = build 3 (limit g b)

-- the running cost after a gap, but for the request's own transfer
unfoldable pub spent : Game → Board → List ℕ → ℕ → ℕ
spent g b stays gap =
    g.prices.hold * (b.held + (min (get_or stays 0 0) gap + min (get_or stays 1 0) gap + min (get_or stays 2 0) gap))
    + g.prices.transfer * b.transfers
