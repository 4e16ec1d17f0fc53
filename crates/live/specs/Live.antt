-- The online cache over the requests of a log: its marks, its running costs, and its closing cost. Assumes nothing.
use Rattle.std.specs.Prelude.{List, ℕ, suc, get_or}
use Rattle.base.specs.Choice.{pick}
use Rattle.base.specs.Lists.{build}
use Rattle.prices.specs.Tariff.{Tariff}
use Rattle.request_log.specs.Fields.{header_of, id_of, request_count, seconds_of, servers_of}
use Rattle.request_log.specs.Answers.{header_in}
use Rattle.online.specs.declared.Cache.{Cache}
use Rattle.online.specs.Rules.{kept, running, closing}
use Rattle.online.specs.Answers.{started_for_log}
use Rattle.bounds.specs.Calls.{Call, scan, run}

-- the first k of some requests of a file, as scan calls
unfoldable pub scans : List ℕ → List ℕ → List ℕ → ℕ → List Call
scans id seconds servers k = build k (λ i. scan id (get_or seconds i 0) (get_or servers i 0))

-- the state that they give back
unfoldable pub state_after : Cache → List ℕ → List ℕ → List ℕ → ℕ → Cache
state_after c id seconds servers k = run c (scans id seconds servers k)

-- ---- marks and costs

-- the mark of request i, from 0, as a letter: K if it is kept, else S
unfoldable pub live_mark : Cache → List ℕ → List ℕ → List ℕ → ℕ → ℕ
live_mark c id seconds servers i = pick (kept (state_after c id seconds servers i) (get_or seconds i 0) (get_or servers i 0)) 75 83

-- the running cost after it
unfoldable pub live_cost : Cache → List ℕ → List ℕ → List ℕ → ℕ → ℕ
live_cost c id seconds servers i = running (state_after c id seconds servers (suc i))

-- a start with what a log says, its id too
unfoldable pub opened : Tariff → List ℕ → Cache
opened t log = (started_for_log t (header_of log)).cache

-- the first k requests of a log, as scan calls with its id
abbrev pub calls_of : List ℕ → ℕ → List Call
calls_of log k = scans (id_of log) (seconds_of log) (servers_of log) k

-- the marks of a log's requests, which come with its id
unfoldable pub live_marks : Tariff → List ℕ → List ℕ
live_marks t log = build (request_count log) (live_mark (opened t log) (id_of log) (seconds_of log) (servers_of log))

-- the running costs of its first requests
unfoldable pub running_costs : Tariff → List ℕ → List ℕ
running_costs t log = build (request_count log) (live_cost (opened t log) (id_of log) (seconds_of log) (servers_of log))

-- the running cost after all of them
unfoldable pub running_bill : Tariff → List ℕ → ℕ
running_bill t log = running (state_after (opened t log) (id_of log) (seconds_of log) (servers_of log) (request_count log))

-- the closing cost after all of them
unfoldable pub closing_cost : Tariff → List ℕ → ℕ
closing_cost t log = closing (state_after (opened t log) (id_of log) (seconds_of log) (servers_of log) (request_count log))

-- ---- any bytes

-- the state after the requests that stand in some bytes, from a start with what these say of their file; a refused scan gives the state back
unfoldable pub state_of : Tariff → List ℕ → Cache
state_of t log = state_after (started_for_log t (header_in log)).cache (header_in log).id (seconds_of log) (servers_of log) (request_count log)
