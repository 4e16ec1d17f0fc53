-- `planner::costs::least_by` meets its contract. Assumes nothing.
use Rattle.std.proofs.lemmas.Result.{err_from_is_err_and}
use Rattle.prices.specs.Tariff.{tariff_of}
use Rattle.prices.specs.Uploads.{if_given}
use Rattle.planner.specs.SummaryLaws.{loaded_log, loaded_refused, offer_passed, summary_rates, setup_requests, summary_ready}
use Rattle.planner.specs.Loading.{offer_verdict, summary_of}
use Rattle.planner.specs.LeastAnswer.{costs_answer}
use Rattle.planner.specs.LeastAnswerLaws.{least_refused, least_accepted}
use Rattle.planner.proofs.costs.least_by.Goals as goal

pub returns-in_err-summary : goal.returns-in_err-summary
unfolding costs_answer
returns-in_err-summary c =
    let a = c.args in
    let log = a.log.now in
    let t = tariff_of a.tariff in
    let u = if_given a.upload in
    let p = err_from_is_err_and c.from_residual.result c.from_residual.ensures.1 in
    let e = least_refused t u log a.costs.now _ _ (loaded_refused (offer_verdict t u log) (summary_of t u log) c.load.result _ c.load.ensures.value c.in_err-summary.was) (rw (p.1, p.2)) in
    record { value = e.0; costs_after = e.1 }

pub costs_of-requires : goal.costs_of-requires
costs_of-requires c =
    let a = c.args in
    let log = a.log.now in
    let t = tariff_of a.tariff in
    let u = if_given a.upload in
    let d = loaded_log (offer_verdict t u log) (summary_of t u log) c.load.result _ c.load.ensures.value c.in_ok-summary.was in
    let ok = offer_passed t u log d.0 in
    summary_ready t log ok.0 _ _ _ _ c.load.ensures.seconds_after c.load.ensures.servers_after c.requires u ok.1 _ (summary_rates t u log _ ok.1 d.1) _ _ _ c.load.ensures.previous_after d.1

pub returns : goal.returns
returns c =
    let a = c.args in
    let log = a.log.now in
    let t = tariff_of a.tariff in
    let u = if_given a.upload in
    let d = loaded_log (offer_verdict t u log) (summary_of t u log) c.load.result _ c.load.ensures.value c.in_ok-summary.was in
    let ok = offer_passed t u log d.0 in
    let e = least_accepted t u log a.costs.now d.0 _ d.1 _ (setup_requests t log ok.0 _ _ _ _ c.load.ensures.seconds_after c.load.ensures.servers_after) _ (summary_rates t u log _ ok.1 d.1) _ _ c.costs_of.ensures.value c.costs_of.ensures.costs_after in
    record { value = e.0; costs_after = e.1 }
