-- The planner's answer from marks that letters spell. Assumes nothing.
use Rattle.std.specs.Prelude.{List, [], ◌∷◌, ◌≡◌, ℕ, suc, ◌≤◌, length, Ok, Err}
use Rattle.base.specs.Refusals.{first, short, Verdict}
use Rattle.base.specs.Lent.{lent}
use Rattle.base.specs.Lists.{build}
use Rattle.model.specs.Rates.{Rates}
use Rattle.request_log.specs.Sizes.{most_requests}
use Rattle.model.specs.Requests.{Requests, Within}
use Rattle.model.specs.Schedule.{Row}
use Rattle.model.specs.RowForm.{flat}
use Rattle.model.specs.Marking.{rows, Valid}
use Rattle.model.specs.Plan.{plan, plan_cost, plan_rows}
use Rattle.planner.specs.HolderWords.{marking}
use Rattle.planner.specs.Asked.{asks}
use Rattle.planner.specs.Answers.{letter}
use Rattle.planner.specs.Outcome.{Outcome, a_plan}

-- n requests at servers below the count, with marks that are legal at some rates
pub record Marked (n count : ℕ) (seconds servers letters : List ℕ) : Type 0 where
  pub few_requests : n ≤ most_requests
  pub few_servers : count ≤ 64
  pub lettered : n ≤ length letters
  pub within : Within count (asks seconds servers) n
  pub at_rates : Rates
  pub legal_marks : Valid at_rates (asks seconds servers) (marking letters) n

-- their rows
unfoldable pub marked_rows : ℕ → ℕ → List ℕ → List ℕ → List ℕ → List Row
marked_rows n count seconds servers letters = rows (asks seconds servers) count (marking letters) n

-- 31 for the marks of n requests and for rows, given what is lent for them
unfoldable pub lengths_verdict : List Row → ℕ → List ℕ → List ℕ → Verdict
lengths_verdict found n marks rows = first (short n (length marks) ∷ short (length (flat found)) (length rows) ∷ [])

-- the answer by a verdict: the cost and the number of rows, or the refusal
unfoldable pub answer_of : Verdict → ℕ → ℕ → Outcome
answer_of (Ok _) cost found = a_plan cost found
answer_of (Err r) cost found = Err r

-- the answer for n requests with these rows, and what the lent lists hold after it
pub record Answered (found : List Row) (n cost : ℕ) (letters marks rows : List ℕ) (r : Outcome) (marks' rows' : List ℕ) : Type 0 where
  pub answers : r ≡ answer_of (lengths_verdict found n marks rows) cost (length found)
  pub marks_left : marks' ≡ lent (lengths_verdict found n marks rows) letters marks
  pub rows_left : rows' ≡ lent (lengths_verdict found n marks rows) (flat found) rows

-- the letters of the plan's marks
unfoldable pub plan_letters : Rates → Requests → ℕ → List ℕ
plan_letters p q n = build n (λ i. letter (plan p q n (suc i)))

-- the answer for the plan of n requests
abbrev pub PlanAnswered : Rates → Requests → ℕ → ℕ → List ℕ → List ℕ → Outcome → List ℕ → List ℕ → Type 0
PlanAnswered p q n count = Answered (plan_rows p q count n) n (plan_cost p q n) (plan_letters p q n)
