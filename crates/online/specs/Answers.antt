-- What a start, a scan, the running cost and a close answer, and the state that they give back: unchanged where refused, zeros for a start. Assumes nothing.
use Rattle.std.specs.Prelude.{List, ℕ, Ok, Err, Result}
use Rattle.base.specs.declared.Refusal.{Refusal}
use Rattle.base.specs.Choice.{pick}
use Rattle.base.specs.Refusals.{first, otherwise, Verdict}
use Rattle.prices.specs.declared.Prices.{Prices}
use Rattle.prices.specs.Tariff.{Tariff}
use Rattle.prices.specs.Offer.{Offer}
use Rattle.request_log.specs.declared.Setup.{Setup}
use Rattle.request_log.specs.declared.Header.{Header}
use Rattle.request_log.specs.Conditions.{setup_conditions, offered_conditions}
use Rattle.request_log.specs.Contents.{setup_in}
use Rattle.online.specs.declared.Cache.{Cache}
use Rattle.online.specs.declared.Started.{Started}
use Rattle.online.specs.declared.Service.{Service}
use Rattle.online.specs.declared.Service.TheVariants.{Kept, Sent}
use Rattle.online.specs.declared.Scanned.{Scanned}
use Rattle.online.specs.declared.Closed.{Closed}
use Rattle.online.specs.Rules.{fresh, zeros, kept, accept, running, closing, shut}
use Rattle.online.specs.Conditions.{scan_conditions, running_conditions, close_conditions}

-- what refuses a start: what its price file is answered, else 3, 43, 4, 5
unfoldable pub start_verdict : Offer → Setup → Verdict
start_verdict o s = otherwise o.tariff.judged (first (offered_conditions o s))

-- what refuses a start for a log that there is, whose class may have ended: no 43
unfoldable pub log_start_verdict : Tariff → Setup → Verdict
log_start_verdict t s = otherwise t.judged (first (setup_conditions t.table s))

-- what refuses a scan
unfoldable pub scan_verdict : Cache → List ℕ → ℕ → ℕ → Verdict
scan_verdict c id second server = first (scan_conditions c id second server)

-- what refuses to say the running cost
unfoldable pub running_verdict : Cache → Verdict
running_verdict c = first (running_conditions c)

-- what refuses a close
unfoldable pub close_verdict : Cache → Verdict
close_verdict c = first (close_conditions c)

-- a start by its verdict: ready, or refused with a state of zeros
unfoldable pub started_by : Verdict → List Prices → Header → Started
started_by (Ok _) table h = record { cache = fresh table h; outcome = Ok tt }
started_by (Err r) table h = record { cache = zeros; outcome = Err r }

-- a start, by what a log says of its file; the id has no part in the verdict
unfoldable pub started : Offer → Header → Started
started o h = started_by (start_verdict o (setup_in h)) o.tariff.table h

-- a start for a log that there is
unfoldable pub started_for_log : Tariff → Header → Started
started_for_log t h = started_by (log_start_verdict t (setup_in h)) t.table h

-- K, or S from the last server, with a cost
unfoldable pub mark_outcome : Cache → ℕ → ℕ → ℕ → Result Service Refusal
mark_outcome c second server cost = pick (kept c second server) (Ok (Kept cost)) (Ok (Sent c.last cost))

-- a scan by its verdict: its mark with the running cost after it, and the next state; or refused
unfoldable pub scanned_by : Verdict → Cache → ℕ → ℕ → Scanned
scanned_by (Ok _) c second server =
    record { cache = accept c second server; outcome = mark_outcome c second server (running (accept c second server)) }
scanned_by (Err r) c second server = record { cache = c; outcome = Err r }

-- a scan
unfoldable pub scanned : Cache → List ℕ → ℕ → ℕ → Scanned
scanned c id second server = scanned_by (scan_verdict c id second server) c second server

-- the running cost by its verdict
unfoldable pub running_by : Verdict → Cache → Result ℕ Refusal
running_by (Ok _) c = Ok (running c)
running_by (Err r) c = Err r

-- the running cost of a state, closed or not
unfoldable pub running_answer : Cache → Result ℕ Refusal
running_answer c = running_by (running_verdict c) c

-- a close by its verdict: the closing cost and the state closed, or refused
unfoldable pub closed_by : Verdict → Cache → Closed
closed_by (Ok _) c = record { cache = shut c; outcome = Ok (closing c) }
closed_by (Err r) c = record { cache = c; outcome = Err r }

-- a close
unfoldable pub closed_answer : Cache → Closed
closed_answer c = closed_by (close_verdict c) c
