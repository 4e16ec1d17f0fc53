-- The week page, proved.
use Rattle.std.specs.Prelude.{◌≡◌, ℕ, pred, Ok}
use mathlib.Core.List.{List}
use Rattle.std.proofs.Common.{arith}
use Rattle.std.proofs.Math.Option.{none}
use Rattle.base.specs.Lists.{build_at}
use Rattle.prices.specs.Tariff.{Tariff}
use Rattle.request_log.specs.Fields.{server_count_of, request_count}
use Rattle.model.specs.LogRequests.{requests_in, rates_in}
use Rattle.model.proofs.LogRequestLaws.{log_rising, log_within}
use Rattle.model.specs.Plan.{plan_rows}
use Rattle.model.specs.Rates.{rates, or_zero}
use Rattle.model.specs.Schedule.{cost_of}
use Rattle.model.specs.Sums.{sum}
use Rattle.planner.specs.Answers.{planned_rows}
use Rattle.week.specs.Days.{week_days, cell, day_sums}
use Rattle.week.specs.DayLaws.{cell_most}
use Rattle.week.specs.OutputLaws.{week_accepted, week_timely}
use Rattle.week.specs.PageLaws.{plan_fits, plan_ordered, few_servers}
use Rattle.week.specs.PageLength.{page_length}
use Rattle.week.specs.Pages.{page_of, last_second, week_verdict}
use Rattle.week.specs.WeekSums.{server_cells, server_sum, corner_servers, corner_held, server_sum_most, day_most, corner_most}
use Rattle.guarantees.specs.Optimality.{optimal}
use Rattle.guarantees.specs.WeekPage.{PageRight}

-- THE WEEK PAGE: of every log that is accepted and has no request after the week
pub page_right : (t : Tariff) (log : List ℕ) → week_verdict t log ≡ Ok tt → PageRight t log
unfolding page_of planned_rows plan_rows day_sums cost_of or_zero rates
page_right t log e =
    let a = week_accepted t log e in
    let rows = planned_rows t none log in
    let count = server_count_of log in
    let few = few_servers t log a in
    let week = week_timely t log e in
    let p = rates_in t none log in
    let corner = corner_held count (last_second log) rows (plan_fits t log a) (plan_ordered t log a) week in
    record {
      corner = corner;
      down = corner_servers rows count;
      held = server_sum count (last_second log) rows (plan_fits t log a) (plan_ordered t log a) week;
      across = server_cells rows;
      columns = λ d h. build_at week_days (λ d. sum count (λ i. cell rows (pred i) d)) d 0 h;
      bill = rw corner (omega (arith, (optimal p count (requests_in log) (request_count log) (log_rising t log a) (log_within t log a)).costs));
      server_width = λ y h. omega (arith, few);
      cell_width = λ y d. omega (arith, cell_most rows y d);
      day_width = λ d. omega (arith, day_most rows count d, few);
      sum_width = λ y. omega (arith, server_sum_most rows y);
      corner_width = omega (arith, corner_most rows count, few);
      long = page_length rows count few;
    }
