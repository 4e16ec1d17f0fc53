-- The answer from a plan's letters is the planner's answer.
use Rattle.std.specs.Prelude.{List, [], ◌∷◌, ◌++◌, ◌≡◌, refl, ℕ, zero, suc, ◌≤◌, length, get_or, take, Ok, Err}
use Rattle.std.proofs.Math.Option.{Option}
use Rattle.std.proofs.Common.{sym, ap, ◌∙◌, arith, length-append, get_or-take, take_at}
use Rattle.base.specs.Lists.{build, build_length, build_at}
use Rattle.base.specs.Lent.{lent}
use Rattle.base.specs.Refusals.{short, otherwise, Verdict}
use Rattle.base.specs.declared.Refusal.{Refusal}
use Rattle.request_log.specs.Sizes.{most_requests}
use Rattle.prices.specs.Tariff.{Tariff}
use Rattle.request_log.specs.Fields.{request_count}
use Rattle.model.specs.Requests.{Requests, Within}
use Rattle.model.specs.Marking.{Mark, K, S, U, legal, rows, Valid}
use Rattle.model.proofs.TableRows.{Tabled}
use Rattle.model.specs.Plan.{plan, plan_cost, plan_rows, Agree}
use Rattle.model.proofs.PlanLaws.{plan_planned, plan_best}
use Rattle.model.specs.LogRequests.{requests_in, rates_in}
use Rattle.model.specs.Rates.{Rates}
use Rattle.planner.specs.declared.requests.Summary.{Summary}
use Rattle.planner.specs.Loading.{offer_verdict, summary_of}
use Rattle.planner.specs.SummaryLaws.{offer_parts}
use Rattle.planner.specs.HolderWords.{gap_word, spelled, marking}
use Rattle.planner.specs.Asked.{asks}
use Rattle.planner.specs.WordRowLaws.{gap_words_right, word_rows_right}
use Rattle.planner.specs.Answers.{letter, marks_of, planned_rows, rows_of_plan, plan_verdict, planned, marks_left, rows_left}
use Rattle.planner.specs.PlanAnswer.{Marked, Answered, PlanAnswered, marked_rows, plan_letters, lengths_verdict, answer_of}
use Rattle.planner.specs.Outcome.{Outcome}

-- a letter spells its mark
spells : (a : Mark) → spelled (letter a) ≡ a
unfolding letter spelled
spells K = refl
spells S = refl
spells U = refl

-- the letters of a marking spell marks that agree with it
pub letters_agree : (m : ℕ → Mark) (n : ℕ) (letters : List ℕ) → take n letters ≡ build n (λ i. letter (m (suc i))) → Agree n m (marking letters)
unfolding marking
letters_agree m n letters e zero a b = absurd (omega arith)
letters_agree m n letters e (suc i) a b =
    let l : get_or letters i 0 ≡ letter (m (suc i)) =
    sym (get_or-take n letters i 0 b) ∙ ap (λ (x : List ℕ). get_or x i 0) e ∙ build_at n (λ j. letter (m (suc j))) i 0 b in
    sym (ap spelled l ∙ spells (m (suc i)))

-- marks that agree with legal ones are legal, and have the same rows
valid_agree : (p : Rates) (q : Requests) (m m' : ℕ → Mark) (n : ℕ) → Agree n m m' → Valid p q m n → Valid p q m' n
valid_agree p q m m' n agree v i a b = ap (legal p q i) (sym (agree i a b)) ∙ v i a b

rows_agree : (p : Rates) (q : Requests) (m m' : ℕ → Mark) (n count : ℕ) → Agree n m m' → Valid p q m n → Within count q n → count ≤ 64
    → rows q count m' n ≡ rows q count m n
unfolding Within
rows_agree p q m m' n count agree v within few =
    sym (word_rows_right q m' n words (gap_words_right p q m' m' n (suc n) (valid_agree p q m m' n agree v) wide (λ i a b. refl) (omega arith)) m' count (λ i a b. refl) within few)
    ∙ word_rows_right q m n words (gap_words_right p q m m' n (suc n) v wide agree (omega arith)) m' count agree within few
  where
    words : List ℕ
    words = build (suc n) (gap_word q.server m' n)

    wide : Within 64 q n
    wide i h = omega (arith, within i h)

-- the plan's letters at the front of a list are those that the list spells
pub spelt_front : (p : Rates) (q : Requests) (n : ℕ) (letters rest : List ℕ) → letters ≡ build n (λ i. letter (plan p q n (suc i))) ++ rest
    → take n letters ≡ plan_letters p q n
unfolding plan_letters
spelt_front p q n letters rest e = ap (take n) e ∙ take_at (plan_letters p q n) rest n (build_length n _)

pub lettered_front : (p : Rates) (q : Requests) (n : ℕ) (letters rest : List ℕ) → letters ≡ build n (λ i. letter (plan p q n (suc i))) ++ rest
    → n ≤ length letters
lettered_front p q n letters rest e =
    omega (arith, ap length e ∙ length-append (build n (λ i. letter (plan p q n (suc i)))) rest, build_length n (λ i. letter (plan p q n (suc i))))

-- the cost that the table gives is the plan's
pub cost_front : (p : Rates) (q : Requests) (n k : ℕ) (C D : ℕ → ℕ) → Tabled p q n C D → k ≡ n → C k ≡ plan_cost p q n
cost_front p q n k C D t e = ap C e ∙ t.costs n (omega arith) ∙ sym (plan_best p q n)

-- letters that spell the plan of the requests that two lists hold
module _ (p : Rates) (n count : ℕ) (seconds servers letters : List ℕ)
    (few : n ≤ most_requests) (narrow : count ≤ 64) (within : Within count (asks seconds servers) n)
    (lettered : n ≤ length letters) (spelt : take n letters ≡ plan_letters p (asks seconds servers) n) where
  lawful : Valid p (asks seconds servers) (plan p (asks seconds servers) n) n
  lawful = (plan_planned p (asks seconds servers) n).lawful

  agree : Agree n (plan p (asks seconds servers) n) (marking letters)
  unfolding plan_letters
  agree = letters_agree (plan p (asks seconds servers) n) n letters spelt

  -- are legal marks of them
  pub plan_marked : Marked n count seconds servers letters
  plan_marked =
      record {
        few_requests = few;
        few_servers = narrow;
        lettered = lettered;
        within = within;
        at_rates = p;
        legal_marks = valid_agree p (asks seconds servers) (plan p (asks seconds servers) n) (marking letters) n agree lawful;
      }

  -- with the plan's rows
  rows_marked : marked_rows n count seconds servers letters ≡ plan_rows p (asks seconds servers) count n
  unfolding marked_rows plan_rows
  rows_marked = rows_agree p (asks seconds servers) (plan p (asks seconds servers) n) (marking letters) n count agree lawful within narrow

  -- so the answer from them is the plan's
  pub plan_answered : (cost : ℕ) (marks rows : List ℕ) (r : Outcome) (marks' rows' : List ℕ) → cost ≡ plan_cost p (asks seconds servers) n
      → Answered (marked_rows n count seconds servers letters) n cost (take n letters) marks rows r marks' rows'
      → PlanAnswered p (asks seconds servers) n count marks rows r marks' rows'
  plan_answered cost marks rows r marks' rows' e x =
      let y = rw rows_marked at x in
      record { answers = y.answers ∙ rw e; marks_left = y.marks_left ∙ rw spelt; rows_left = y.rows_left }

-- the answer for a log, and what the lent lists hold at the end
abbrev pub PlannedSo : Tariff → Option ℕ → List ℕ → List ℕ → List ℕ → Outcome → List ℕ → List ℕ → Type 0
PlannedSo t u log marks rows r marks' rows' =
    (r ≡ planned (plan_verdict t u log (length marks) (length rows)) t u log)
    × (marks' ≡ marks_left t u log marks rows)
    × (rows' ≡ rows_left t u log marks rows)

-- the verdict by the log's and the upload price's, and by the lengths of the lent lists
plan_parts : (t : Tariff) (u : Option ℕ) (log : List ℕ) (marks rows : List ℕ)
    → plan_verdict t u log (length marks) (length rows) ≡ otherwise (offer_verdict t u log) (lengths_verdict (planned_rows t u log) (request_count log) marks rows)
unfolding plan_verdict lengths_verdict rows_of_plan
plan_parts t u log marks rows = offer_parts t u log (short (request_count log) (length marks) ∷ short (length (rows_of_plan t u log)) (length rows) ∷ [])

-- a refused log or upload price
pub log_refused : (t : Tariff) (u : Option ℕ) (log marks rows : List ℕ) (e : Refusal) (r : Outcome) → offer_verdict t u log ≡ Err e → r ≡ answer_of (Err e) 0 0
    → PlannedSo t u log marks rows r marks rows
unfolding planned lent answer_of
log_refused t u log marks rows e r v a =
    let w : plan_verdict t u log (length marks) (length rows) ≡ Err e = plan_parts t u log marks rows ∙ rw v in
    (rw w a, rw w, rw w)

-- an answer by a verdict
answer_planned : (v : Verdict) (t : Tariff) (u : Option ℕ) (log : List ℕ)
    → answer_of v (plan_cost (rates_in t u log) (requests_in log) (request_count log)) (length (planned_rows t u log)) ≡ planned v t u log
unfolding answer_of planned
answer_planned (Ok _) t u log = refl
answer_planned (Err e) t u log = refl

-- an accepted log, by its requests as they were read and what its plan is billed by
pub log_answered : (t : Tariff) (u : Option ℕ) (log : List ℕ) → offer_verdict t u log ≡ Ok tt → (s : Summary) → s ≡ summary_of t u log
    → (q : Requests) → q ≡ requests_in log → (p : Rates) → p ≡ rates_in t u log → (marks rows : List ℕ) (r : Outcome) (marks' rows' : List ℕ)
    → PlanAnswered p q s.requests s.server_count marks rows r marks' rows' → PlannedSo t u log marks rows r marks' rows'
unfolding lengths_verdict rows_of_plan planned_rows marks_of plan_letters summary_of
log_answered t u log ok s e q f p g marks rows r marks' rows' x =
    let v : lengths_verdict (planned_rows t u log) (request_count log) marks rows ≡ plan_verdict t u log (length marks) (length rows) =
    sym (plan_parts t u log marks rows ∙ rw ok) in
    let y = rw (e, f, g) at x in (
      y.answers ∙ rw v (answer_planned (plan_verdict t u log (length marks) (length rows)) t u log),
      y.marks_left ∙ rw v,
      y.rows_left ∙ rw v,
    )
