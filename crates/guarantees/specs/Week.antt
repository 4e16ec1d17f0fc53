-- A worked week of 01: what is handed in, what 01 and 02 say of it, and the test that the definitions say the same. Assumes nothing.
use Rattle.std.specs.Prelude.{Bool, true, List, [], ◌∷◌, ℕ, suc, eqb, length, Ok, Err, Result}
use Rattle.base.specs.declared.Refusal.{Refusal}
use Rattle.base.specs.Refusals.{Verdict}
use Rattle.std.proofs.Math.Option.{Option, none, some}
use Prim.Native.String.{String}
use Rattle.base.specs.Choice.{pick, both}
use Rattle.base.specs.Lists.{build, same}
use Rattle.prices.specs.Prices.{classes, prices_of}
use Rattle.prices.specs.Tariff.{built_in}
use Rattle.prices.specs.Offer.{built_in_offer}
use Rattle.request_log.specs.declared.Header.{Header}
use Rattle.request_log.specs.Conditions.{verdict_of}
use Rattle.request_log.specs.Contents.{contents, encode}
use Rattle.model.specs.Rates.{Rates, rates}
use Rattle.model.specs.Requests.{Requests, requests}
use Rattle.model.specs.RowForm.{flat}
use Rattle.model.specs.Sums.{total}
use Rattle.model.specs.Marking.{K, S, cost}
use Rattle.model.specs.Plan.{markings, plan, plan_cost, plan_rows}
use Rattle.checker.specs.Answers.{check_answer}
use Rattle.planner.specs.Answers.{letter}
use Rattle.quote.specs.Answers.{quote_answer}
use Rattle.online.specs.declared.Cache.{Cache}
use Rattle.online.specs.declared.Service.{Service}
use Rattle.online.specs.declared.Service.TheVariants.{Kept, Sent}
use Rattle.online.specs.Rules.{running}
use Rattle.online.specs.Answers.{started, scanned, closed_answer}
use Rattle.text.specs.Lines.{ascii}
use Rattle.live.specs.Replies.{close_cost}
use Rattle.report.specs.Output.{output}
use Rattle.base.specs.Reasons.{number}

-- the requests of a week: what its start is given, seconds and servers
pub record Given : Type 0 where
  pub header : Header
  pub seconds : List ℕ
  pub servers : List ℕ

-- a planned week: least and running cost before any request and after each, the closing cost after all and the quote, the plan's and the online cache's
-- marks, the plan's rows as numbers
-- a week with an upload price: the plan's cost, marks and rows
-- a tied week: how many legal markings have a cost
-- a checked list of rows, with an upload price or with none: number and place of a refusal and 0, or 0, 0 and the cost
-- a log: the verdict's number and place
-- a printed week: what the program writes for its log
pub data Week : Type 0 where
  planned : Given → (least running : List ℕ) → (closing quoted : ℕ) → (marks live rows : List ℕ) → Week
  uploading : Given → (upload least : ℕ) → (marks rows : List ℕ) → Week
  checked : Given → (upload : Option ℕ) → (rows : List ℕ) → (number place cost : ℕ) → Week
  logged : Given → (number place : ℕ) → Week
  tied : Given → (cost count : ℕ) → Week
  printed : Given → (text : String) → Week

-- a verdict as number and place, 0 and 0 where nothing is refused
unfoldable pub as_numbers : Verdict → List ℕ
as_numbers (Ok _) = 0 ∷ 0 ∷ []
as_numbers (Err r) = number r.reason ∷ r.place ∷ []

-- a checker's answer as numbers
unfoldable pub answer_numbers : Result ℕ Refusal → List ℕ
answer_numbers (Ok c) = 0 ∷ 0 ∷ c ∷ []
answer_numbers (Err r) = number r.reason ∷ r.place ∷ 0 ∷ []

-- a quote's answer as numbers
unfoldable pub quote_numbers : Result ℕ Refusal → List ℕ
quote_numbers (Ok c) = 0 ∷ 0 ∷ c ∷ []
quote_numbers (Err r) = number r.reason ∷ r.place ∷ 0 ∷ []

-- the requests of a week
unfoldable pub requests_given : Given → Requests
requests_given g = requests g.header.home g.seconds g.servers

-- the prices of its class, with an upload price or with none
unfoldable pub rates_given : Given → Option ℕ → Rates
rates_given g u = rates (prices_of classes g.header.«class») u

-- the letter of a scan's answer; 0 for a refusal
unfoldable pub live_letter : Result Service Refusal → ℕ
live_letter (Ok (Kept cost)) = letter K
live_letter (Ok (Sent x cost)) = letter S
live_letter (Err r) = 0

-- the least cost of the first 0, 1, 2, .. requests
unfoldable pub least_so_far : Given → List ℕ
least_so_far g = build (suc (length g.seconds)) (λ k. plan_cost (rates_given g none) (requests_given g) k)

-- the marks of the plan over the whole week
unfoldable pub plan_letters : Given → Option ℕ → List ℕ
plan_letters g u =
    let m = plan (rates_given g u) (requests_given g) (length g.seconds) in
    build (length g.seconds) (λ k. letter (m (suc k)))

-- the numbers of the plan's rows
unfoldable pub plan_numbers : Given → Option ℕ → List ℕ
plan_numbers g u = flat (plan_rows (rates_given g u) (requests_given g) g.header.server_count (length g.seconds))

-- the running cost of a state and after each request served from it; the closing cost in the end; the mark of each request
unfoldable pub costs_from : Cache → List ℕ → List ℕ → List ℕ → List ℕ
costs_from c id (t ∷ ts) (x ∷ xs) = running c ∷ costs_from (scanned c id t x).cache id ts xs
costs_from c id [] xs = running c ∷ []
costs_from c id (t ∷ ts) [] = running c ∷ []

unfoldable pub close_after : Cache → List ℕ → List ℕ → List ℕ → ℕ
close_after c id (t ∷ ts) (x ∷ xs) = close_after (scanned c id t x).cache id ts xs
close_after c id [] xs = close_cost (closed_answer c).outcome
close_after c id (t ∷ ts) [] = close_cost (closed_answer c).outcome

unfoldable pub letters_from : Cache → List ℕ → List ℕ → List ℕ → List ℕ
letters_from c id (t ∷ ts) (x ∷ xs) = let a = scanned c id t x in live_letter a.outcome ∷ letters_from a.cache id ts xs
letters_from c id [] xs = []
letters_from c id (t ∷ ts) [] = []

-- the state of its start
unfoldable pub start_of : Given → Cache
start_of g = (started built_in_offer g.header).cache

-- the log of a week
unfoldable pub log_of : Given → List ℕ
log_of g = encode (contents g.header g.seconds g.servers)

-- what the definitions say of a week is what 01 says
unfoldable pub right : Week → Bool
right (planned g least costs closing quoted marks live rows) =
    both (same (least_so_far g) least)
    (both (same (costs_from (start_of g) g.header.id g.seconds g.servers) costs)
    (both (eqb (close_after (start_of g) g.header.id g.seconds g.servers) closing)
    (both (same (quote_numbers (quote_answer built_in (log_of g))) (0 ∷ 0 ∷ quoted ∷ []))
    (both (same (plan_letters g none) marks)
    (both (same (letters_from (start_of g) g.header.id g.seconds g.servers) live)
    (same (plan_numbers g none) rows))))))
right (uploading g y least marks rows) =
    both (eqb (plan_cost (rates_given g (some y)) (requests_given g) (length g.seconds)) least)
    (both (same (plan_letters g (some y)) marks) (same (plan_numbers g (some y)) rows))
right (checked g u rows number place c) = same (answer_numbers (check_answer built_in u (log_of g) rows)) (number ∷ place ∷ c ∷ [])
right (logged g number place) = same (as_numbers (verdict_of built_in (log_of g))) (number ∷ place ∷ [])
right (tied g c n) =
    let q = requests_given g in
    let k = length g.seconds in
    eqb (total (λ m. pick (eqb (cost (rates_given g none) q m k) c) 1 0) (markings (rates_given g none) q k)) n
right (printed g text) = same (output built_in (log_of g)) (ascii text)

-- every week of a table is right
unfoldable pub all_right : List Week → Bool
all_right [] = true
all_right (w ∷ ws) = both (right w) (all_right ws)
