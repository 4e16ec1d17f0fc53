-- The columns of the sheet, proved.
use Rattle.std.specs.Prelude.{List, ◌≡◌, ℕ, zero, suc, ◌-◌, ◌≤◌, ◌<◌, length, get_or, Ok}
use Rattle.std.proofs.Math.Option.{none}
use Rattle.std.proofs.Math.Path.{refl}
use Rattle.std.proofs.Common.{sym, ap, ◌∙◌, arith}
use Rattle.base.specs.Lists.{build, build_at}
use Rattle.prices.specs.PriceLaws.{given_priced}
use Rattle.prices.specs.Tariff.{Tariff, Given}
use Rattle.request_log.specs.Fields.{id_of, request_count, seconds_of, servers_of, header_of}
use Rattle.request_log.specs.Conditions.{Accepted}
use Rattle.request_log.specs.Contents.{cut}
use Rattle.model.specs.LogRequests.{requests_in, prices_in, rates_in}
use Rattle.model.specs.Plan.{plan_cost}
use Rattle.planner.specs.Answers.{planned_rows, least_costs}
use Rattle.online.specs.Rules.{running}
use Rattle.online.specs.Answers.{close_verdict}
use Rattle.bounds.specs.Calls.{run}
use Rattle.live.specs.declared.Turn.{Turn}
use Rattle.live.specs.Live.{scans, state_after, calls_of, live_mark, live_cost, opened, live_marks, running_costs, closing_cost}
use Rattle.live.specs.LiveLaws.{starts, goes_on, closes, turn_next}
use Rattle.live.specs.LiveClaim.{passed, claim_of, served_is, count_is, least_of}
use Rattle.live.specs.Replies.{turn}
use Rattle.report.specs.Sheet.{columns_of}
use Rattle.report.specs.Text.{entry_of}
use Rattle.guarantees.specs.Demand3.{for_log}
use Rattle.guarantees.proofs.Demand3.{planned_best}
use Rattle.guarantees.specs.Closes.{close_at_once}
use Rattle.guarantees.proofs.Closes.{close_within}
use Rattle.guarantees.specs.SheetColumns.{line_of, LeastColumn, LiveColumns, all_calls, CloseLine}
use Rattle.planner.specs.Outcome.{a_plan}

-- THE SHEET'S LEAST COLUMN
pub least_column : (t : Tariff) (log : List ℕ) (k : ℕ) → Accepted t log → 1 ≤ k → k ≤ request_count log → LeastColumn t log k
unfolding entry_of columns_of
least_column t log k a least most =
    let best = planned_best t none tt log k a most in
    let number : (line_of t log k).number ≡ k = omega arith in
    let column : (line_of t log k).least ≡ plan_cost (rates_in t none (cut k log)) (requests_in (cut k log)) k =
    ap (λ (i : ℕ). get_or (least_costs t none log) i 0) number ∙ best.least_is in
    record {
      number_is = number;
      least_is = column;
      answers = λ marks rows h l.
          best.gives marks rows h l ∙ ap (λ (cost : ℕ). a_plan cost (length (planned_rows t none (cut k log)))) (sym column);
    }

module _ (t : Tariff) (g : Given t) (log : List ℕ) (i : ℕ) (a : Accepted t log) (h : i < request_count log) where
  -- the line of request i, from 0
  turn_is : turn (run (opened t log) (calls_of log i)) (id_of log) (get_or (seconds_of log) i 0) (get_or (servers_of log) i 0)
      ≡ record {
        cache = run (opened t log) (calls_of log (suc i));
        mark = live_mark (opened t log) (id_of log) (seconds_of log) (servers_of log) i;
        cost = live_cost (opened t log) (id_of log) (seconds_of log) (servers_of log) i;
      }
  unfolding state_after
  turn_is = turn_next (opened t log) (id_of log) (seconds_of log) (servers_of log) i (run (opened t log) (calls_of log i)) refl (goes_on t (given_priced t g) log a i h)

-- THE SHEET'S LIVE COLUMNS
pub live_columns : (t : Tariff) → Given t → (log : List ℕ) (k : ℕ) → Accepted t log → 1 ≤ k → k ≤ request_count log → LiveColumns t log k
unfolding entry_of columns_of live_marks running_costs live_cost state_after turn
live_columns t g log zero a least most = absurd (omega arith)
live_columns t g log (suc i) a least most =
    let e : suc i - 1 ≡ i = omega arith in
    let mark : get_or (live_marks t log) i 0 ≡ live_mark (opened t log) (id_of log) (seconds_of log) (servers_of log) i =
    build_at (request_count log) (live_mark (opened t log) (id_of log) (seconds_of log) (servers_of log)) i 0 most in
    let cost : get_or (running_costs t log) i 0 ≡ live_cost (opened t log) (id_of log) (seconds_of log) (servers_of log) i =
    build_at (request_count log) (live_cost (opened t log) (id_of log) (seconds_of log) (servers_of log)) i 0 most in
    let x = turn_is t g log i a most in
    let claim = claim_of t (given_priced t g) log (suc i) a most in
    let column : claim.least ≡ (line_of t log (suc i)).least = least_of t (given_priced t g) log (suc i) a most claim ∙ sym (least_column t log (suc i) a least most).least_is in
    let paid : (line_of t log (suc i)).cost ≡ running (run (opened t log) (calls_of log (suc i))) = rw e cost in
    record {
      ready = starts t (given_priced t g) log a;
      passes = passed t (given_priced t g) log (suc i) a most;
      mark_is = rw e (mark ∙ sym (ap (λ (y : Turn). y.mark) x));
      cost_is = rw e (cost ∙ sym (ap (λ (y : Turn). y.cost) x));
      running_is = paid;
      claimed = claim;
      taken_are = served_is t (given_priced t g) log (suc i) a most;
      all_taken = count_is t (given_priced t g) log (suc i) a most;
      no_less = omega (arith, claim.no_less, column, paid);
      no_more = omega (arith, claim.no_more, column, paid);
    }

-- THE SHEET'S LAST LINE
pub close_line : (t : Tariff) → Given t → (log : List ℕ) → Accepted t log → CloseLine t log
unfolding closing_cost state_after scans build run opened prices_in header_of
close_line t g log a =
    let n = request_count log in
    let passes : close_verdict (run (opened t log) (all_calls log)) ≡ (Ok tt) = closes t (given_priced t g) log a in
    let w = close_within t g (header_of log) (opened t log) (for_log (starts t (given_priced t g) log a)) (all_calls log) passes in
    let least : w.claimed.least ≡ get_or (least_costs t none log) n 0 =
    least_of t (given_priced t g) log n a (omega arith) w.claimed ∙ sym (planned_best t none tt log n a (omega arith)).least_is in
    record {
      passes = passes;
      answers = w.answers;
      no_less = w.no_less;
      no_more = omega (arith, w.no_more, least);
      empty = λ e. rw e (close_at_once t g (header_of log) (opened t log) (for_log (starts t (given_priced t g) log a)));
    }
