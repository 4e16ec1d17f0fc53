-- The requests and prices of a log. Assumes nothing.
use Rattle.std.specs.Prelude.{List, ℕ}
use Rattle.std.proofs.Math.Option.{Option}
use Rattle.prices.specs.declared.Prices.{Prices}
use Rattle.prices.specs.Prices.{prices_of}
use Rattle.prices.specs.Tariff.{Tariff}
use Rattle.request_log.specs.Fields.{class_of, home_of, seconds_of, servers_of}
use Rattle.model.specs.Rates.{Rates, rates}
use Rattle.model.specs.Requests.{Requests, requests}

-- the requests of a log, with its home before them
unfoldable pub requests_in : List ℕ → Requests
requests_in log = requests (home_of log) (seconds_of log) (servers_of log)

-- the prices of a log's class
unfoldable pub prices_in : Tariff → List ℕ → Prices
prices_in t log = prices_of t.table (class_of log)

-- what a schedule of a log is billed by, with an upload price or with none
abbrev pub rates_in : Tariff → Option ℕ → List ℕ → Rates
rates_in t u log = rates (prices_in t log) u
