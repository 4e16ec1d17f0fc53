-- What is read from a log before the table is made. Assumes nothing.
use Rattle.std.specs.Prelude.{List, ◌∷◌, ℕ, suc, Ok, Err, Result}
use Rattle.base.specs.declared.Refusal.{Refusal}
use Rattle.std.proofs.Math.Option.{Option}
use Rattle.base.specs.Lists.{build}
use Rattle.base.specs.Refusals.{first, otherwise, Verdict}
use Rattle.prices.specs.Tariff.{Tariff}
use Rattle.prices.specs.Uploads.{upload_conditions}
use Rattle.request_log.specs.Fields.{home_of, server_count_of, request_count, seconds_of, servers_of}
use Rattle.request_log.specs.Conditions.{verdict_of}
use Rattle.model.specs.Requests.{latest}
use Rattle.model.proofs.TableLists.{at}
use Rattle.model.specs.LogRequests.{prices_in}
use Rattle.planner.specs.declared.requests.Summary.{Summary}
use Rattle.planner.specs.Fees.{fees_of}
use Rattle.planner.specs.Terms.{index}

-- the seconds and the servers of a log's requests, home's at index 0
unfoldable pub seconds_with_home : List ℕ → List ℕ
seconds_with_home log = 0 ∷ seconds_of log

unfoldable pub servers_with_home : List ℕ → List ℕ
servers_with_home log = home_of log ∷ servers_of log

-- the previous request of each of requests 0 to n, by their servers
unfoldable pub links : List ℕ → ℕ → List ℕ
links servers n = build (suc n) (λ i. index (latest (at servers) (at servers i) i))

-- the log's conditions, and then 44 where an upload price is given
unfoldable pub offer_verdict : Tariff → Option ℕ → List ℕ → Verdict
offer_verdict t u log = otherwise (verdict_of t log) (first (upload_conditions u))

-- what else a log says, and what its plan is billed by
unfoldable pub summary_of : Tariff → Option ℕ → List ℕ → Summary
summary_of t u log = record { requests = request_count log; server_count = server_count_of log; fees = fees_of (prices_in t log) u }

-- that, by a verdict
unfoldable pub loaded : Verdict → Summary → Result Summary Refusal
loaded (Ok _) s = Ok s
loaded (Err r) s = Err r
