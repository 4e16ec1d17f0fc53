-- What is claimed of a list of scan and close calls: the second half of demand 3, with 02's closing cost. Assumes nothing.
use Rattle.std.specs.Prelude.{false, ◌≢◌, ◌≡◌, ℕ, ◌+◌, ◌*◌, ◌≤◌, ◌<◌, length, Err}
use mathlib.Core.List.{List, Memᴰ}
use Rattle.base.specs.declared.Refusal.{Refusal}
use Rattle.prices.specs.declared.Prices.{Prices}
use Rattle.prices.specs.Prices.{prices_of, window}
use Rattle.request_log.specs.declared.Header.{Header}
use Rattle.model.specs.Rates.{plain}
use Rattle.model.specs.Requests.{Requests, Rising, Within}
use Rattle.model.specs.Plan.{plan_cost}
use Rattle.model.specs.Least.{Least}
use Rattle.online.specs.declared.Cache.{Cache}
use Rattle.online.specs.Rules.{running, remaining, closing}
use Rattle.online.specs.Conditions.{broken}
use Rattle.bounds.specs.Calls.{Call, run, verdicts, Request, requests_of}
use Rattle.bounds.specs.Progress.{begun, dues, taken, progress}
use Rattle.bounds.specs.History.{held, transfers}
use Rattle.bounds.specs.History as history
use Rattle.base.specs.Reasons.{number}

-- the table and what else a start was given, the state that it gave back, and a list of calls after it
module _ (table : List Prices) (s : Header) (first : Cache) (calls : List Call) where
  -- the prices of the class
  abbrev pub prices : Prices
  prices = prices_of table s.«class»

  -- the state last given back
  abbrev pub final : Cache
  final = run first calls

  -- the requests taken, with home before them, and how many they are: from the start and the calls alone
  abbrev pub served : Requests
  served = requests_of s.home (taken s begun calls)

  abbrev pub served_count : ℕ
  served_count = length (taken s begun calls)

  -- The claim. Each call is refused as the calls up to it say, with 32 never, nor would one more call be. The requests taken all came with the start's
  -- id, are at servers below the count and at rising seconds, and the state says what the rules give for them. The running cost is at least the least
  -- cost of the requests taken, and at most three times that; the closing cost is at least the running cost, and at most three times the least and one
  -- transfer price.
  pub record Claim : Type 0 where
    pub refused : verdicts first calls ≡ dues s begun calls
    pub never_32 : (x : Refusal) → Memᴰ (Err x) (verdicts first calls) → number x.reason ≢ 32
    pub unbroken : broken final ≡ false
    pub own_file : (r : Request) → Memᴰ r (taken s begun calls) → r.id ≡ s.id
    pub rising : Rising served served_count
    pub within : Within s.server_count served served_count
    pub prices_are : final.prices ≡ prices
    pub id_is : final.id ≡ s.id
    pub count_is : final.server_count ≡ s.server_count
    pub last_is : final.last ≡ served.server served_count
    pub second_is : final.second ≡ served.time served_count
    pub closed_is : final.closed ≡ (progress s begun calls).closed
    pub requests_are : final.requests ≡ served_count
    pub held_are : final.held ≡ held (window prices) served 64 served_count
    pub transfers_are : final.transfers ≡ transfers (window prices) served served_count
    pub remaining_are : (y : ℕ) → y < 64 → remaining final y ≡ history.remaining (window prices) served served_count y
    pub least : ℕ
    pub is_least : Least (plain prices) s.server_count served served_count least
    pub is_planned : least ≡ plan_cost (plain prices) served served_count
    pub no_less : least ≤ running final
    pub no_more : running final ≤ 3 * least
    pub closing_no_less : running final ≤ closing final
    pub closing_no_more : closing final ≤ 3 * least + prices.transfer
