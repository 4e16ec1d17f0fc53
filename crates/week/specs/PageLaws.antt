-- The page of an accepted log, from the rows of its plan to its bytes.
use Rattle.std.specs.Prelude.{true, ◌≡◌, refl, ℕ, zero, suc, pred, ◌*◌, ◌≤◌, ◌<◌, length, Ok, Err}
use mathlib.Core.List.{List, [], ◌∷◌, ◌++◌}
use Rattle.std.proofs.Math.Option.{none}
use Rattle.std.proofs.Math.Path.{sym, ap, ap₂}
use Rattle.std.proofs.Common.{◌∙◌, arith, length-append, lt-ltb, le-ltb, ltb-false}
use Rattle.std.proofs.Math.ListN.{get_or}
use Rattle.base.specs.Lent.{lent}
use Rattle.base.specs.Lists.{build, build_at, build_same}
use Rattle.base.specs.Refusals.{first, short, Verdict}
use Rattle.base.specs.RefusalLaws.{first_passed}
use Rattle.base.specs.declared.Refusal.{Refusal}
use Rattle.prices.specs.Tariff.{Tariff}
use Rattle.request_log.specs.Fields.{server_count_of, request_count, length_for}
use Rattle.request_log.specs.Conditions.{Accepted, verdict_of}
use Rattle.request_log.specs.ConditionLaws.{after_log, after_accepted}
use Rattle.request_log.specs.AcceptedLaws.{accepted_sound}
use Rattle.model.specs.LogRequests.{requests_in, rates_in}
use Rattle.model.proofs.LogRequestLaws.{last_is, log_rising, log_within}
use Rattle.model.proofs.MarkingRows.{rows_realize}
use Rattle.model.specs.Plan.{plan, plan_rows}
use Rattle.model.proofs.PlanLaws.{plan_planned}
use Rattle.model.proofs.FlatLaws.{flat_length, upto_flat}
use Rattle.model.specs.RowForm.{all_fit, ordered, rows_upto}
use Rattle.model.proofs.RowLaws.{Formed, formed, fits_hold, member_all_fit, row_member}
use Rattle.model.specs.Sums.{total}
use Rattle.model.proofs.SumLaws.{sum_same}
use Rattle.planner.specs.Answers.{planned_rows, rows_of_plan, plan_verdict, planned, rows_left}
use Rattle.planner.specs.RoomLaws.{Roomy, few_rows, plan_roomy}
use Rattle.text.specs.Lines.{ascii}
use Rattle.week.specs.Days.{week_seconds, week_days, cell, server_days, day_sums}
use Rattle.week.specs.DayLaws.{row_in_day, cell_total, cell_most}
use Rattle.week.specs.Figures.{Placed, Daily, days_upto, sums_of}
use Rattle.week.specs.FigureLaws.{row_hold}
use Rattle.week.specs.LineLaws.{lines_same}
use Rattle.week.specs.PageLength.{page_room, page_length}
use Rattle.week.specs.PageText.{week_line, page_lines, page_text}
use Rattle.week.specs.Pages.{page_of, last_second, after_week, page_verdict}
use Rattle.base.specs.declared.reasons.Reason.TheVariants as reason
use Rattle.text.specs.Answers.{room_verdict}
use Rattle.planner.specs.Outcome.{Outcome, a_plan}
use Rattle.planner.specs.declared.Planned.{Planned}

-- n rows are n
upto_length : (ns : List ℕ) (n : ℕ) → length (rows_upto ns n) ≡ n
unfolding rows_upto
upto_length ns zero = refl
upto_length ns (suc n) = simp length-append (omega (arith, upto_length ns n))

module _ (t : Tariff) (log : List ℕ) (a : Accepted t log) where
  -- the rows of its plan are well formed
  pub plan_formed : Formed (server_count_of log) (request_count log) ((requests_in log).time (request_count log)) (planned_rows t none log)
  unfolding planned_rows plan_rows
  plan_formed =
      let p = rates_in t none log in
      let q = requests_in log in
      let n = request_count log in
      formed _ _ _ _ (rows_realize p q (server_count_of log) (plan p q n) n (log_rising t log a) (log_within t log a) (plan_planned p q n).lawful).formed

  -- they fit, and are ordered
  pub plan_fits : all_fit (server_count_of log) (last_second log) (planned_rows t none log) ≡ true
  plan_fits = rw (last_is log) (member_all_fit _ _ _ plan_formed.fit)

  pub plan_ordered : ordered (planned_rows t none log) ≡ true
  plan_ordered = plan_formed.order

  -- a log has at most 64 servers
  pub few_servers : server_count_of log ≤ 64
  few_servers = (accepted_sound t log a).setup.servers_most

  -- the page of an accepted log fits its room
  pub page_fits : length (page_of t log) ≤ page_room
  unfolding page_of
  page_fits = omega (arith, page_length (planned_rows t none log) (server_count_of log) few_servers, few_servers)

  -- numbers of which the first n rows are the plan's
  module _ (ns : List ℕ) (n : ℕ) (same : rows_upto ns n ≡ planned_rows t none log) where
    -- they are few
    pub plan_few : n ≤ 4096
    plan_few = omega (arith, upto_length ns n, ap length same, few_rows t log a, (accepted_sound t log a).requests_most)

    -- in the week its holds are in their place
    pub plan_placed : last_second log ≤ week_seconds → Placed ns n
    plan_placed week i h e =
        let m = plan_formed.fit _ (rw same at (row_member ns n i h)) in
        let (x, y, z) = fits_hold _ _ _ _ _ (rw (row_hold ns i e) at m) in
        (omega (arith, x, few_servers), y, omega (arith, z, last_is log))

    -- the code's figures are the page's
    figures_right : (y : ℕ) → days_upto ns n y ≡ server_days (planned_rows t none log) y
    unfolding days_upto server_days
    figures_right y =
        build_same week_days _ _
        (λ d b. ap (total (row_in_day y d)) same ∙ sym (cell_total _ _ _ plan_fits plan_ordered y d))

    -- a table of them has no more than a day in a cell
    pub table_daily : (table : List (List ℕ)) → table ≡ build 64 (days_upto ns n) → Daily table
    unfolding server_days
    table_daily table e y h d b =
        rw (e, build_at 64 (days_upto ns n) y [] h, figures_right y, build_at week_days (cell (planned_rows t none log) y) d 0 b)
        (cell_most (planned_rows t none log) y d)

    -- and makes the page
    pub table_page : (table : List (List ℕ)) → table ≡ build 64 (days_upto ns n)
        → page_lines (λ y. get_or table y []) (sums_of table (server_count_of log)) (server_count_of log) ≡ page_of t log
    unfolding page_of page_text page_lines sums_of day_sums server_days
    table_page table e =
        ap₂ (λ (x y : List ℕ). x ++ week_line (ascii "  ") y)
        (lines_same _ _ (server_count_of log) (λ y h. row y (omega (arith, few_servers))))
        (build_same week_days _ _
        (λ d b.
        sum_same (server_count_of log) _ _
        (λ i l m. ap (λ (r : List ℕ). get_or r d 0) (row (pred i) (omega (arith, few_servers))) ∙ build_at week_days (cell (planned_rows t none log) (pred i)) d 0 b)))
      where
        row : (y : ℕ) → y < 64 → get_or table y [] ≡ server_days (planned_rows t none log) y
        row y h = rw e (build_at 64 (days_upto ns n) y [] h ∙ figures_right y)

  -- after the week it is refused
  pub page_late : (room : ℕ) → week_seconds < last_second log → page_verdict t log room ≡ Err (record { reason = reason.AfterWeek; place = 0 })
  unfolding page_verdict after_week first
  page_late room h = after_accepted t log _ a ∙ rw (lt-ltb week_seconds (last_second log) h)

  -- in the week it needs room
  pub page_timely : (room : ℕ) → last_second log ≤ week_seconds → page_verdict t log room ≡ room_verdict (page_of t log) room
  unfolding page_verdict after_week first room_verdict
  page_timely room h = after_accepted t log _ a ∙ rw (le-ltb week_seconds (last_second log) h)

  -- an accepted log's page is refused by 36 and by its room alone
  pub page_parts : (room : ℕ) → page_verdict t log room ≡ first (after_week log ∷ short (length (page_of t log)) room ∷ [])
  unfolding page_verdict
  page_parts room = after_accepted t log _ a

-- a log that 36 does not refuse ends in the week
pub timely : (log : List ℕ) → first (after_week log ∷ []) ≡ Ok tt → last_second log ≤ week_seconds
unfolding after_week
timely log e = ltb-false week_seconds (last_second log) ((first_passed (after_week log ∷ [])).0 e 0)

-- a short log's plan needs little room
pub short_roomy : (t : Tariff) (log : List ℕ) → length log ≤ 424 → Roomy t log 64 512
unfolding length_for
short_roomy t log h a = let e = (accepted_sound t log a).length_is in (omega (arith, e), omega (arith, e))

-- what is known where the plan is answered: the log is accepted, and how many rows there are
pub plan_answered : (t : Tariff) (log : List ℕ) (cost n : ℕ) → planned (verdict_of t log) t none log ≡ a_plan cost n
    → Accepted t log × (n ≡ length (planned_rows t none log))
unfolding planned Accepted
plan_answered t log cost n e = go (verdict_of t log) e
  where
    rows_of : Outcome → ℕ
    rows_of (Ok p) = p.rows
    rows_of (Err r) = 0

    go : (v : Verdict) → planned v t none log ≡ a_plan cost n → (v ≡ Ok tt) × (n ≡ length (planned_rows t none log))
    go (Ok _) f = (refl, sym (ap rows_of f))
    go (Err r) f = let z : ◌≡◌ {A = ℕ} 0 1 = cc in absurd (omega arith)

-- and where it is refused
pub plan_refused : (t : Tariff) (log : List ℕ) (r : Refusal) → planned (verdict_of t log) t none log ≡ Err r → verdict_of t log ≡ Err r
unfolding planned
plan_refused t log r e = go (verdict_of t log) e
  where
    go : (v : Verdict) → planned v t none log ≡ Err r → v ≡ Err r
    go (Ok _) f = let z : ◌≡◌ {A = ℕ} 0 1 = cc in absurd (omega arith)
    go (Err s) f =
        let same : s ≡ r = cc in
        ap Err same

-- the rows of an accepted log's plan stand at the front of what was lent
pub plan_stands : (t : Tariff) (log ns o : List ℕ) → ns ≡ lent (Ok tt) (rows_of_plan t none log) o
    → (4 * length (planned_rows t none log) ≤ length ns) × (rows_upto ns (length (planned_rows t none log)) ≡ planned_rows t none log)
unfolding lent rows_of_plan
plan_stands t log ns o e =
    rw e (simp length-append (omega (arith, flat_length (planned_rows t none log))), upto_flat (planned_rows t none log) _)

-- a refused log is refused
pub page_refused : (t : Tariff) (log : List ℕ) (room : ℕ) (r : Refusal) → verdict_of t log ≡ Err r → page_verdict t log room ≡ Err r
unfolding page_verdict
page_refused t log room r e = after_log t log _ ∙ rw e

-- a plan in lists that have room for it
module _ (t : Tariff) (log marks rows : List ℕ) (room : Roomy t log (length marks) (length rows)) where
  -- is refused as the log is
  as_log : plan_verdict t none log (length marks) (length rows) ≡ verdict_of t log
  as_log = plan_roomy t log (length marks) (length rows) room

  -- where it is, so is the page
  pub roomy_refused : (r : Refusal) (place : ℕ) → planned (plan_verdict t none log (length marks) (length rows)) t none log ≡ Err r
      → page_verdict t log place ≡ Err r
  roomy_refused r place e = page_refused t log place r (plan_refused t log r (rw as_log at e))

  -- where it is answered the log is accepted, and the answer has the number of its rows
  pub roomy_answered : (p : Planned) → planned (plan_verdict t none log (length marks) (length rows)) t none log ≡ Ok p
      → Accepted t log × (p.rows ≡ length (planned_rows t none log))
  roomy_answered p e = plan_answered t log p.cost p.rows (rw as_log at e)

  -- and these stand at the front of what was lent
  pub roomy_stands : (p : Planned) (ns : List ℕ) → planned (plan_verdict t none log (length marks) (length rows)) t none log ≡ Ok p
      → ns ≡ rows_left t none log marks rows → (4 * p.rows ≤ length ns) × (rows_upto ns p.rows ≡ planned_rows t none log)
  unfolding Accepted
  roomy_stands p ns e f =
      let (a, n) = roomy_answered p e in
      rw n (plan_stands t log ns rows (f ∙ ap (λ (v : Verdict). lent v (rows_of_plan t none log) rows) (as_log ∙ a)))
