-- The answers of the public calls in numbers, as a program in another language gets them. Assumes nothing.
use Rattle.std.specs.Prelude.{ℕ, Ok, Err, Result}
use Rattle.base.specs.Refusals.{Verdict}
use Rattle.base.specs.declared.Refusal.{Refusal}
use Rattle.request_log.specs.declared.Decoded.{Decoded}
use Rattle.online.specs.declared.Started.{Started}
use Rattle.online.specs.declared.Service.{Service}
use Rattle.online.specs.declared.Service.TheVariants.{Kept, Sent}
use Rattle.online.specs.declared.Scanned.{Scanned}
use Rattle.online.specs.declared.Closed.{Closed}
use Rattle.game.specs.declared.Winner.{Winner}
use Rattle.game.specs.declared.Winner.TheVariants.{Keeper, Guest}
use Rattle.exports.specs.declared.Answer.{Answer}
use Rattle.exports.specs.declared.logs.ReadAnswer.{ReadAnswer}
use Rattle.exports.specs.declared.caches.CacheAnswer.{CacheAnswer}
use Rattle.exports.specs.declared.caches.ScanAnswer.{ScanAnswer}
use Rattle.base.specs.Reasons.{number}
use Rattle.planner.specs.Outcome.{Outcome}

-- an accepted call: number 0 and its values
abbrev pub accepted : ℕ → ℕ → Answer
accepted value more = record { number = 0; place = 0; value = value; more = more }

-- a refused call: number and place
abbrev pub refused : Refusal → Answer
refused r = record { number = number r.reason; place = r.place; value = 0; more = 0 }

-- a call that gives a number, or the refusal
abbrev pub of_number : Result ℕ Refusal → Answer
of_number (Ok n) = accepted n 0
of_number (Err r) = refused r

-- the reader's answer, with the header
abbrev pub read_answer : Decoded → ReadAnswer
read_answer d = record { header = d.header; answer = of_number d.outcome }

-- the plan's cost and the number of its rows, or the refusal
abbrev pub of_plan : Outcome → Answer
of_plan (Ok p) = accepted p.cost p.rows
of_plan (Err r) = refused r

-- nothing more, or the refusal
abbrev pub of_start : Verdict → Answer
of_start (Ok _) = accepted 0 0
of_start (Err r) = refused r

-- a start's answer, with the state
abbrev pub start_answer : Started → CacheAnswer
start_answer s = record { cache = s.cache; answer = of_start s.outcome }

-- 0 for K; 1 and the source for S; or the refusal
abbrev pub of_scan : Result Service Refusal → Answer
of_scan (Ok (Kept cost)) = accepted 0 0
of_scan (Ok (Sent source cost)) = accepted 1 source
of_scan (Err r) = refused r

-- the running cost after a scan, 0 for a refusal
abbrev pub running_of : Result Service Refusal → ℕ
running_of (Ok (Kept cost)) = cost
running_of (Ok (Sent source cost)) = cost
running_of (Err r) = 0

-- a scan's answer, with the next state and the running cost
abbrev pub scan_answer : Scanned → ScanAnswer
scan_answer s = record { cache = s.cache; answer = of_scan s.outcome; running = running_of s.outcome }

-- a close's answer, with the closed state
abbrev pub close_answer : Closed → CacheAnswer
close_answer s = record { cache = s.cache; answer = of_number s.outcome }

-- 1 where the keeper wins, 0 where the guest does; or the refusal
abbrev pub of_play : Result Winner Refusal → Answer
of_play (Ok Keeper) = accepted 1 0
of_play (Ok Guest) = accepted 0 0
of_play (Err r) = refused r
