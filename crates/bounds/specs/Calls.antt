-- A list of calls, as 01's 'What demand 3 compares' has it: each call gets the state last given back. Assumes nothing.
use Rattle.std.specs.Prelude.{List, [], ◌∷◌, ◌++◌, map, ◌≡◌, ℕ, Ok}
use Rattle.base.specs.Refusals.{Verdict}
use Rattle.base.specs.Choice.{pick}
use Rattle.base.specs.Lists.{same}
use Rattle.model.specs.Requests.{Requests, requests}
use Rattle.online.specs.declared.Cache.{Cache}
use Rattle.online.specs.Answers.{scan_verdict, close_verdict, scanned, closed_answer}

-- scan ID SECOND SERVER, or close
pub data Call : Type 0 where
  scan : List ℕ → ℕ → ℕ → Call
  close : Call

-- what refuses a call, if anything does
unfoldable pub verdict : Cache → Call → Verdict
verdict c (scan id second server) = scan_verdict c id second server
verdict c close = close_verdict c

-- the state that a call gives back
unfoldable pub after : Cache → Call → Cache
after c (scan id second server) = (scanned c id second server).cache
after c close = (closed_answer c).cache

-- the state after a list of calls
unfoldable pub run : Cache → List Call → Cache
run c [] = c
run c (a ∷ calls) = run (after c a) calls

-- what refuses each call of a list, if anything does
unfoldable pub verdicts : Cache → List Call → List Verdict
verdicts c [] = []
verdicts c (a ∷ calls) = verdict c a ∷ verdicts (after c a) calls

-- a list without its scans of files other than one
unfoldable pub of_file : List ℕ → List Call → List Call
of_file own [] = []
of_file own (scan id second server ∷ calls) =
    let rest = of_file own calls in
    pick (same id own) (scan id second server ∷ rest) rest
of_file own (close ∷ calls) = close ∷ of_file own calls

-- a close in a list that is not refused: the calls before it and after it
pub record TakenClose (c : Cache) (calls : List Call) : Type 0 where
  pub before : List Call
  pub later : List Call
  pub among : calls ≡ before ++ (close ∷ later)
  pub passed : verdict (run c before) close ≡ Ok tt

-- a request (01: scan): the id of its file, its second and its server
pub record Request : Type 0 where
  pub id : List ℕ
  pub second : ℕ
  pub server : ℕ

-- a list of requests with home before them
unfoldable pub requests_of : ℕ → List Request → Requests
requests_of home rs = requests home (map (λ r. r.second) rs) (map (λ r. r.server) rs)
