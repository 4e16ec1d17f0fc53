-- The logs that an input is made of, end to end, and what each of them is answered (02's Req 12). Assumes nothing.
use Rattle.std.specs.Prelude.{Bool, true, false, List, [], ◌∷◌, ℕ, zero, suc, ltb, take, drop, Ok, Err}
use Rattle.base.specs.Refusals.{Verdict}
use Rattle.base.specs.declared.reasons.Reason.TheVariants as reason
use Rattle.std.proofs.Math.Option.{none}
use Rattle.base.specs.Choice.{pick}
use Rattle.prices.specs.Tariff.{Tariff}
use Rattle.request_log.specs.Fields.{request_count, total_length}
use Rattle.request_log.specs.Conditions.{verdict_of}
use Rattle.model.specs.LogRequests.{requests_in, rates_in}
use Rattle.model.specs.Plan.{plan_cost}
use Rattle.live.specs.Live.{running_bill}
use Rattle.season.specs.Tallies.{Met}
use Rattle.season.specs.Tallies.{ends, tally_of}
use Rattle.season.specs.ReportText.{report_text}

-- how many logs are looked at
abbrev pub most_logs : ℕ
most_logs = 4096

-- the least cost of all requests of a log
unfoldable pub least_bill : Tariff → List ℕ → ℕ
least_bill t log = plan_cost (rates_in t none log) (requests_in log) (request_count log)

-- a log by its verdict: how many requests it has, its least and its running cost; nothing of a refused one
unfoldable pub met_as : Verdict → Tariff → List ℕ → Met
met_as (Ok _) t log = record { verdict = Ok tt; requests = request_count log; least = least_bill t log; running = running_bill t log }
met_as (Err r) t log = record { verdict = Err r; requests = 0; least = 0; running = 0 }

-- a log that is looked at
unfoldable pub looked_at : Tariff → List ℕ → Met
looked_at t log = met_as (verdict_of t log) t log

-- the log after all those: refused by 45
unfoldable pub one_too_many : Met
one_too_many = record { verdict = Err (record { reason = reason.LogCount; place = 0 }); requests = 0; least = 0; running = 0 }

-- how long the log at the front is: as its header says, and a header at least
unfoldable pub log_length : List ℕ → ℕ
log_length s = pick (ltb (total_length s) 40) 40 (total_length s)

-- nothing is left of an input
unfoldable pub empty : List ℕ → Bool
empty [] = true
empty (b ∷ s) = false

-- the logs met in what is left of an input, where k more are looked at
unfoldable pub met : Tariff → ℕ → List ℕ → List Met
met t zero s = pick (empty s) [] (one_too_many ∷ [])
met t (suc k) s =
    let log = looked_at t (take (log_length s) s) in
    pick (empty s) [] (log ∷ pick (ends log.verdict) [] (met t k (drop (log_length s) s)))

-- the logs met in a whole input
unfoldable pub met_in : Tariff → List ℕ → List Met
met_in t s = met t most_logs s

-- the report of the input
unfoldable pub report : Tariff → List ℕ → List ℕ
report t s = report_text (tally_of (met_in t s))
