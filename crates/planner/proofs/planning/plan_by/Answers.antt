-- `planner::planning::plan_by` meets its contract. Assumes nothing.
use Rattle.planner.specs.Loading.{offer_verdict, summary_of}
use Rattle.planner.specs.SummaryLaws.{loaded_log, loaded_refused, offer_passed, summary_rates, setup_requests, summary_ready, setup_within}
use Rattle.planner.specs.PlanAnswer.{answer_of}
use Rattle.planner.specs.PlanRight.{log_refused, log_answered}
use Rattle.request_log.specs.AcceptedLaws.{accepted_sound}
use Rattle.prices.specs.Tariff.{tariff_of}
use Rattle.prices.specs.Uploads.{if_given}
use Rattle.std.proofs.lemmas.Result.{err_from_is_err_and}
use Rattle.planner.proofs.planning.plan_by.Goals as goal

pub plan_of-requires : goal.plan_of-requires
unfolding summary_of
plan_of-requires c =
    let a = c.args in
    let log = a.log.now in
    let t = tariff_of a.tariff in
    let u = if_given a.upload in
    let d = loaded_log (offer_verdict t u log) (summary_of t u log) c.load.result _ c.load.ensures.value c.in_ok-summary.was in
    let ok = offer_passed t u log d.0 in record {
      ready = summary_ready t log ok.0 _ _ _ _ c.load.ensures.seconds_after c.load.ensures.servers_after c.requires u ok.1 _ (summary_rates t u log _ ok.1 d.1) _ _ _ c.load.ensures.previous_after d.1;
      server_count_bound = (
        rw d.1 (accepted_sound t log ok.0).setup.servers_most,
        rw d.1 (setup_within t log ok.0 _ _ _ _ c.load.ensures.seconds_after c.load.ensures.servers_after),
      );
    }

pub returns-in_err-summary : goal.returns-in_err-summary
unfolding answer_of
returns-in_err-summary c =
    let a = c.args in
    let log = a.log.now in
    let t = tariff_of a.tariff in
    let u = if_given a.upload in
    let p = err_from_is_err_and c.from_residual.result c.from_residual.ensures.1 in
    let e = log_refused t u log a.marks.now a.rows.now _ _ (loaded_refused (offer_verdict t u log) (summary_of t u log) c.load.result _ c.load.ensures.value c.in_err-summary.was) (rw (p.1, p.2)) in
    record { value = e.0; marks_after = e.1; rows_after = e.2 }

pub returns : goal.returns
returns c =
    let a = c.args in
    let log = a.log.now in
    let t = tariff_of a.tariff in
    let u = if_given a.upload in
    let d = loaded_log (offer_verdict t u log) (summary_of t u log) c.load.result _ c.load.ensures.value c.in_ok-summary.was in
    let ok = offer_passed t u log d.0 in
    let e = log_answered t u log d.0 _ d.1 _ (setup_requests t log ok.0 _ _ _ _ c.load.ensures.seconds_after c.load.ensures.servers_after) _ (summary_rates t u log _ ok.1 d.1) a.marks.now a.rows.now _ _ _ c.plan_of.ensures in
    record { value = e.0; marks_after = e.1; rows_after = e.2 }
