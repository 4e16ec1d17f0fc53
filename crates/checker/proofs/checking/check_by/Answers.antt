-- `checker::checking::check_by` meets its contract. Assumes nothing.
use mathlib.Core.Path.{sym, ◌∙◌}
use Rattle.std.proofs.lemmas.Result.{err_from_is_err_and}
use Rattle.std.specs.Prelude.{Ok, Err}
use Rattle.request_log.specs.Conditions.{Accepted}
use Rattle.request_log.specs.AcceptedLaws.{accepted_sound}
use Rattle.request_log.specs.Fields.{class_of}
use Rattle.prices.specs.Tariff.{tariff_of}
use Rattle.prices.specs.Uploads.{if_given}
use Rattle.model.specs.LogRequests.{prices_in}
use Rattle.model.proofs.RateLaws.{fee_most}
use Rattle.rows.specs.GivenLaws.{asked_some}
use Rattle.checker.specs.Answers.{checked}
use Rattle.checker.specs.AnswerLaws.{sums_fit, prices_fit}
use Rattle.checker.proofs.AnswerLaws.{log_refused, price_refused, log_accepted}
use Rattle.checker.proofs.checking.check_by.Goals as goal

pub returns-in_err-verdict : goal.returns-in_err-verdict
returns-in_err-verdict c =
    let a = c.args in
    let p = err_from_is_err_and c.from_residual.result c.from_residual.ensures.1 in
    rw (p.1, p.2) (sym (log_refused (tariff_of a.tariff) (if_given a.upload) a.log.now a.rows.now _ (sym c.in_err-verdict.ensures)))

pub returns-in_err-upload_fault : goal.returns-in_err-upload_fault
returns-in_err-upload_fault c =
    let a = c.args in
    let p = err_from_is_err_and c.from_residual-in_err-upload_fault.result c.from_residual-in_err-upload_fault.ensures.1 in
    rw (p.1, p.2)
    (sym (price_refused (tariff_of a.tariff) (if_given a.upload) a.log.now a.rows.now _ (sym c.in_ok-verdict.ensures) (sym c.in_err-upload_fault.ensures)))

pub schedule_fault-requires : goal.schedule_fault-requires
unfolding Accepted
schedule_fault-requires c = accepted_sound _ _ (sym c.in_ok-verdict.ensures)

pub returns-in_err-schedule_fault : goal.returns-in_err-schedule_fault
unfolding checked
returns-in_err-schedule_fault c =
    let a = c.args in
    let given = asked_some a.upload ∙ sym c.is_some.ensures in
    let p = err_from_is_err_and c.from_residual-in_err-schedule_fault.result c.from_residual-in_err-schedule_fault.ensures.1 in
    rw (p.1, p.2)
    (sym (log_accepted (tariff_of a.tariff) (if_given a.upload) a.log.now a.rows.now (Err c.in_err-schedule_fault.field-0.0) (sym c.in_ok-verdict.ensures) (sym c.in_ok-upload_fault.ensures)
    (rw given (sym c.in_err-schedule_fault.ensures))))

pub cost-requires : goal.cost-requires
unfolding class_of prices_in
cost-requires c =
    let a = c.args in
    let passed = sym c.in_ok-verdict.ensures in
    let given = asked_some a.upload ∙ sym c.is_some.ensures in
    let p = prices_fit (tariff_of a.tariff) c.requires a.log.now passed in
    let f = fee_most (if_given a.upload) (sym c.in_ok-upload_fault.ensures) in
    let s = sums_fit (tariff_of a.tariff) (if_given a.upload) a.log.now a.rows.now passed (rw given (sym c.in_ok-schedule_fault.ensures)) in
    rw (c.of_class.ensures, c.at.ensures) (p.0, p.1, f, s)

pub returns : goal.returns
unfolding checked prices_in class_of
returns c =
    let a = c.args in
    let given = asked_some a.upload ∙ sym c.is_some.ensures in
    rw (c.cost.ensures, c.of_class.ensures, c.at.ensures)
    (sym (log_accepted (tariff_of a.tariff) (if_given a.upload) a.log.now a.rows.now (Ok tt) (sym c.in_ok-verdict.ensures) (sym c.in_ok-upload_fault.ensures)
    (rw given (sym c.in_ok-schedule_fault.ensures))))
