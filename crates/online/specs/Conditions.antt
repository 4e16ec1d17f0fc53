-- The conditions of a scan, of the running cost and of a close, in 01's order; those of a start are prices' file_conditions and request_log's offered_conditions (37, 38, 3, 43, 4, 5). Assumes nothing.
use Rattle.std.specs.Prelude.{Bool, false, not, List, [], ◌∷◌, ℕ, ◌+◌, leb, ltb, eqb}
use Rattle.base.specs.declared.reasons.Reason.TheVariants as reason
use Rattle.base.specs.Choice.{both, either}
use Rattle.base.specs.Lists.{same}
use Rattle.base.specs.Refusals.{Condition, refuse}
use Rattle.prices.specs.Prices.{outside}
use Rattle.online.specs.declared.Cache.{Cache}
use Rattle.online.specs.Servers.{some_server}
use Rattle.online.specs.Rules.{window_of, copy_at, use_at}

-- one of some tests holds
unfoldable pub any_of : List Bool → Bool
any_of [] = false
any_of (b ∷ bs) = let r = any_of bs in either b r

-- what can be wrong with server y: a bit at or above the count; a last use after the last second; in the word, not the last server, and
-- expired before the last second; a last use other than 0 outside the word
abbrev pub server_faults : Cache → ℕ → List Bool
server_faults c y =
    both (copy_at c y) (leb c.server_count y)
    ∷ ltb c.second (use_at c y)
    ∷ both (both (copy_at c y) (not (eqb y c.last))) (ltb (use_at c y + window_of c) c.second)
    ∷ both (not (copy_at c y)) (not (eqb (use_at c y) 0))
    ∷ []

-- one of them is
unfoldable pub server_broken : Cache → ℕ → Bool
server_broken c y = any_of (server_faults c y)

-- what can be wrong with a state: a price that is 0 or above 1,000,000, a count that is not 1 to 64, a second past 4,000,000; the last server not below the count, without
-- a copy, or not used at the last second; more than 2,048 requests, more transfers than requests, more than 256,000,000 held; a server at fault
abbrev pub faults : Cache → List Bool
faults c =
    outside c.prices
    ∷ either (eqb c.server_count 0) (ltb 64 c.server_count)
    ∷ ltb 4000000 c.second
    ∷ leb c.server_count c.last
    ∷ not (copy_at c c.last)
    ∷ not (eqb (use_at c c.last) c.second)
    ∷ ltb 2048 c.requests
    ∷ ltb c.requests c.transfers
    ∷ ltb 256000000 c.held
    ∷ some_server 64 (server_broken c)
    ∷ []

-- 32: one of them is
unfoldable pub broken : Cache → Bool
broken c = any_of (faults c)

-- a scan: 11 and 12 for its server and second; 32; 33 closed; 39 an id that is not the state's; 34 no room for one more request; 35 a second that is not
-- later
unfoldable pub scan_conditions : Cache → List ℕ → ℕ → ℕ → List Condition
scan_conditions c id second server =
    refuse reason.UnknownServer 0 (leb c.server_count server)
    ∷ refuse reason.SecondRange 0 (either (eqb second 0) (ltb 4000000 second))
    ∷ refuse reason.BrokenState 0 (broken c)
    ∷ refuse reason.Closed 0 c.closed
    ∷ refuse reason.OtherFile 0 (not (same id c.id))
    ∷ refuse reason.Full 0 (leb 2048 c.requests)
    ∷ refuse reason.PastSecond 0 (leb second c.second)
    ∷ []

-- the running cost: 32
unfoldable pub running_conditions : Cache → List Condition
running_conditions c = refuse reason.BrokenState 0 (broken c) ∷ []

-- a close: 32; 33 closed
unfoldable pub close_conditions : Cache → List Condition
close_conditions c = refuse reason.BrokenState 0 (broken c) ∷ refuse reason.Closed 0 c.closed ∷ []
