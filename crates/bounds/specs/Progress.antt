-- What a list of calls comes to, from what the start was given and the calls alone: no state in sight. Assumes nothing.
use Rattle.std.specs.Prelude.{Bool, true, false, not, List, [], ◌∷◌, ℕ, suc, leb, ltb, eqb, Ok, Err}
use Rattle.base.specs.declared.reasons.Reason.TheVariants as reason
use Rattle.base.specs.Choice.{either}
use Rattle.base.specs.Lists.{same}
use Rattle.base.specs.Refusals.{Condition, refuse, first, Verdict}
use Rattle.request_log.specs.declared.Header.{Header}
use Rattle.bounds.specs.Calls.{Call, scan, close, Request}

-- what was taken so far: the last second, how many requests, and whether a close was
pub record Progress : Type 0 where
  pub second : ℕ
  pub taken : ℕ
  pub closed : Bool

-- before any call
unfoldable pub begun : Progress
begun = record { second = 0; taken = 0; closed = false }

-- a scan: 11 and 12 by its own numbers; 33 once a close was taken; 39 an id that is not the start's; 34 once 2,048 requests were taken; 35 not later than
-- the last one taken. A close: 33
unfoldable pub call_conditions : Header → Progress → Call → List Condition
call_conditions s p (scan id second server) =
    refuse reason.UnknownServer 0 (leb s.server_count server)
    ∷ refuse reason.SecondRange 0 (either (eqb second 0) (ltb 4000000 second))
    ∷ refuse reason.Closed 0 p.closed
    ∷ refuse reason.OtherFile 0 (not (same id s.id))
    ∷ refuse reason.Full 0 (leb 2048 p.taken)
    ∷ refuse reason.PastSecond 0 (leb second p.second)
    ∷ []
call_conditions s p close = refuse reason.Closed 0 p.closed ∷ []

-- what refuses a call: the first that holds
unfoldable pub due : Header → Progress → Call → Verdict
due s p a = first (call_conditions s p a)

-- the progress with a call: a refused one adds nothing
unfoldable pub advanced : Verdict → Call → Progress → Progress
advanced (Ok _) (scan id second server) p = record { second = second; taken = suc p.taken; closed = p.closed }
advanced (Ok _) close p = record { second = p.second; taken = p.taken; closed = true }
advanced (Err r) a p = p

-- with the request of a call before others, if the call is a scan that is not refused
unfoldable pub with_request : Verdict → Call → List Request → List Request
with_request (Ok _) (scan id second server) rs = record { id = id; second = second; server = server } ∷ rs
with_request (Ok _) close rs = rs
with_request (Err r) a rs = rs

-- of a list of calls after some progress: what refuses each, the requests taken, and the progress in the end
unfoldable pub dues : Header → Progress → List Call → List Verdict
dues s p [] = []
dues s p (a ∷ calls) = let v = due s p a in v ∷ dues s (advanced v a p) calls

unfoldable pub taken : Header → Progress → List Call → List Request
taken s p [] = []
taken s p (a ∷ calls) = let v = due s p a in with_request v a (taken s (advanced v a p) calls)

unfoldable pub progress : Header → Progress → List Call → Progress
progress s p [] = p
progress s p (a ∷ calls) = progress s (advanced (due s p a) a p) calls
