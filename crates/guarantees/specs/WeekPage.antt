-- The week page (02's Req 01), over the definitions that its contract cites, for every table of prices: what its figures and sums are, that they
-- make up the plan's cost, that none passes its column's width, and what the program prints.
use Rattle.std.specs.Prelude.{true, false, ◌⊎◌, ◌↔◌, ◌≡◌, refl, ℕ, suc, pred, ◌+◌, ◌*◌, ◌^◌, ◌≤◌, ◌<◌, leb, ltb, eqb, get_or, length, take, Ok, Err}
use Rattle.base.specs.declared.reasons.Reason.TheVariants as reason
use mathlib.Core.List.{List, [], ◌∷◌, Memᴰ}
use Rattle.std.proofs.Common.{inl, inr, sym, ap, ◌∙◌, arith, lt-ltb, le-ltb, le-leb, ltb-true, leb-true, eq-eqb, eqb-true}
use Rattle.std.proofs.Math.Option.{none}
use Rattle.base.specs.Choice.{pick, both, le_or_lt, true_or_false, not_both}
use Rattle.base.specs.ChoiceLaws.{both_true, either_true}
use Rattle.base.specs.Refusals.{first}
use Rattle.prices.specs.Tariff.{Tariff}
use Rattle.request_log.specs.Sizes.{log_limit}
use Rattle.request_log.specs.Fields.{server_count_of, request_count}
use Rattle.request_log.specs.Conditions.{Accepted, before}
use Rattle.request_log.specs.ConditionLaws.{after_accepted}
use Rattle.model.specs.LogRequests.{requests_in, prices_in, rates_in}
use Rattle.model.specs.Plan.{plan_cost}
use Rattle.model.specs.Schedule.{Row, hold, move, length_of, is_transfer}
use Rattle.model.specs.Sums.{sum, total}
use Rattle.model.proofs.SumLaws.{sum_zero}
use Rattle.planner.specs.Answers.{planned_rows}
use Rattle.week.specs.Days.{day_seconds, week_days, week_seconds, holds_over, held_over, cell, server_days, day_sums, line_sum, held_at}
use Rattle.week.specs.OutputLaws.{page_enough}
use Rattle.week.specs.PageLaws.{plan_formed}
use Rattle.week.specs.Pages.{page_of, last_second, after_week, week_verdict, page_output}

-- a row that holds over a second is such a hold
over : (y τ : ℕ) (r : Row) → holds_over y τ r ≡ true → (a : ℕ) × (b : ℕ) × (hold y a b ≡ r) × (a < τ) × (τ ≤ b)
unfolding holds_over
over y τ (hold x a b) e =
    let (p, q) = both_true (eqb x y) (both (ltb a τ) (leb τ b)) e in
    let (h, l) = both_true (ltb a τ) (leb τ b) q in
    (a, b, ap (λ (z : ℕ). hold z a b) (sym (eqb-true x y p)), ltb-true a τ h, leb-true τ b l)
over y τ (move v) e = absurd (not_both e refl)

-- A SECOND IS COUNTED exactly if a hold at the server began before it ends, and reaches its end: as where a copy stands
pub counted : (y τ : ℕ) (rows : List Row) → (held_over y τ rows ≡ true) ↔ ((a : ℕ) × (b : ℕ) × Memᴰ (hold y a b) rows × (a < τ) × (τ ≤ b))
unfolding holds_over held_over
counted y τ rows = (to rows, λ (a, b, m, h, l). from rows m h l)
  where
    to : (rows : List Row) → held_over y τ rows ≡ true → (a : ℕ) × (b : ℕ) × Memᴰ (hold y a b) rows × (a < τ) × (τ ≤ b)
    to [] e = absurd (not_both e refl)
    to (r ∷ rows) e =
        elim (either_true (holds_over y τ r) (held_over y τ rows) e) [
          | inl f ↦ let (a, b, g, h, l) = over y τ r f in (a, b, Memᴰ.head g, h, l)
          | inr f ↦ let (a, b, m, h, l) = to rows f in (a, b, Memᴰ.tail m, h, l)
        ]

    from : {a b : ℕ} (rows : List Row) → Memᴰ (hold y a b) rows → a < τ → τ ≤ b → held_over y τ rows ≡ true
    from [] m h l = elim m [ ]
    from {a} {b} (r ∷ rows) (Memᴰ.head e) h l = rw (← e, eq-eqb y y refl, lt-ltb a τ h, le-leb τ b l)
    from (r ∷ rows) (Memᴰ.tail m) h l = elim (true_or_false (holds_over y τ r)) [ inl f ↦ rw f | inr f ↦ rw f (from rows m h l) ]

-- the page of a log's plan
pub record PageRight (t : Tariff) (log : List ℕ) : Type 0 where
  -- THE CORNER is the plan's held seconds, counted from its rows
  pub corner : line_sum (day_sums (planned_rows t none log) (server_count_of log)) ≡ total length_of (planned_rows t none log)
  -- and the sum of the servers' sums, each of which is the seconds that the rows hold there
  pub down : line_sum (day_sums (planned_rows t none log) (server_count_of log)) ≡ sum (server_count_of log) (λ i. line_sum (server_days (planned_rows t none log) (pred i)))
  pub held : (y : ℕ) → line_sum (server_days (planned_rows t none log) y) ≡ total (held_at y) (planned_rows t none log)
  -- EACH SUM is that of its cells, a server's over the days and a day's over the servers
  pub across : (y : ℕ) → line_sum (server_days (planned_rows t none log) y) ≡ sum week_days (λ i. cell (planned_rows t none log) y (pred i))
  pub columns : (d : ℕ) → d < week_days
      → get_or (day_sums (planned_rows t none log) (server_count_of log)) d 0 ≡ sum (server_count_of log) (λ i. cell (planned_rows t none log) (pred i) d)
  -- THE BILL: hold price × corner + transfer price × transfers is the planned cost
  pub bill : (prices_in t log).hold * line_sum (day_sums (planned_rows t none log) (server_count_of log)) + (prices_in t log).transfer * total is_transfer (planned_rows t none log)
      ≡ plan_cost (rates_in t none log) (requests_in log) (request_count log)
  -- NO FIGURE PASSES ITS WIDTH: 2 columns for a server, 8 for a cell and a day's sum, 9 for a server's sum and the corner
  pub server_width : (y : ℕ) → y < server_count_of log → y < 10 ^ 2
  pub cell_width : (y d : ℕ) → cell (planned_rows t none log) y d < 10 ^ 8
  pub day_width : (d : ℕ) → sum (server_count_of log) (λ i. cell (planned_rows t none log) (pred i) d) < 10 ^ 8
  pub sum_width : (y : ℕ) → line_sum (server_days (planned_rows t none log) y) < 10 ^ 9
  pub corner_width : line_sum (day_sums (planned_rows t none log) (server_count_of log)) < 10 ^ 9
  -- so each line has 68 bytes, and there is one for each server and one for the sums
  pub long : length (page_of t log) ≡ 68 * suc (server_count_of log)

-- 36 exactly where an accepted log's last request is after second 604,800
pub late : (t : Tariff) (log : List ℕ) → Accepted t log → (week_verdict t log ≡ Err (record { reason = reason.AfterWeek; place = 0 })) ↔ (week_seconds < last_second log)
unfolding after_week first
late t log a = (λ e. to e (le_or_lt (last_second log) week_seconds), λ h. after_accepted t log _ a ∙ rw (lt-ltb week_seconds (last_second log) h))
  where
    to : week_verdict t log ≡ Err (record { reason = reason.AfterWeek; place = 0 }) → (last_second log ≤ week_seconds) ⊎ (week_seconds < last_second log) → week_seconds < last_second log
    to e (inl h) =
        let p : week_verdict t log ≡ (Ok tt) = after_accepted t log _ a ∙ rw (le-ltb week_seconds (last_second log) h) in
        absurd (let z : ◌≡◌ {A = ℕ} 0 1 = cc in omega arith)
    to e (inr h) = h

-- AN EMPTY LOG is a page of zeros
pub empty : (t : Tariff) (log : List ℕ) → Accepted t log → request_count log ≡ 0
    → (week_verdict t log ≡ Ok tt) × ((y d : ℕ) → cell (planned_rows t none log) y d ≡ 0)
unfolding after_week first before cell
empty t log a e = (
  after_accepted t log _ a ∙ rw (le-ltb week_seconds (last_second log) (let z : last_second log ≡ 0 = rw e in omega (arith, z))),
  λ y d. sum_zero day_seconds _ (λ i f g. zero y (day_seconds * d + i) (true_or_false (held_over y (day_seconds * d + i) (planned_rows t none log)))),
)
  where
    zero : (y τ : ℕ) → (held_over y τ (planned_rows t none log) ≡ true) ⊎ (held_over y τ (planned_rows t none log) ≡ false)
        → pick {A = ℕ} (held_over y τ (planned_rows t none log)) 1 0 ≡ 0
    zero y τ (inl f) = let (x, b, m, h, l) = (counted y τ (planned_rows t none log)).0 f in absurd (omega (arith, (plan_formed t log a).asked _ m, e))
    zero y τ (inr f) = rw f

-- THE PROGRAM need read no more of an input than one byte more than the longest log has
pub input_enough : (t : Tariff) (s : List ℕ) → page_output t (take log_limit s) ≡ page_output t s
input_enough = page_enough
