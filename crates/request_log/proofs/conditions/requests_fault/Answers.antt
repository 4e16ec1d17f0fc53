-- `request_log::conditions::requests_fault` meets its contract. Assumes nothing.
use mathlib.Core.Path.{refl, sym}
use native.Mathlib.Omega.{arith}
use native.Mathlib.Numerals.{add-one}
use Rattle.std.proofs.lemmas.Result.{err_from_is_err_and}
use Rattle.base.specs.Refusals.{first, each}
use Rattle.base.specs.RefusalLaws.{each_refused}
use Rattle.request_log.specs.Fields.{server_count_of, request_count}
use Rattle.request_log.specs.Conditions.{before}
use Rattle.request_log.specs.ConditionLaws.{log_requests, before_next, each_more, request_found}
use Rattle.request_log.proofs.conditions.requests_fault.Goals as goal

pub loop-i-init : goal.loop-i-init
unfolding first each before
loop-i-init c = record { passed = refl; earlier = refl }

pub returns-in_err-request_fault : goal.returns-in_err-request_fault
unfolding request_count server_count_of
returns-in_err-request_fault c =
    let l = c.loop-i in
    let log = c.args.log.now in
    let request = c.request_at-request.ensures in
    let p = err_from_is_err_and c.from_residual.result c.from_residual.ensures.1 in
    rw (p.1, p.2)
    (sym (each_refused (log_requests log) l.i (request_count log) _ (omega arith) l.invariant.passed
    (request_found log l.i _ _ _ _ _ _ (omega arith) c.at-count.ensures request.1 request.0 l.invariant.earlier c.place.ensures c.in_err-request_fault.ensures)))

pub loop-i-preserved : goal.loop-i-preserved
unfolding request_count server_count_of
loop-i-preserved c =
    let l = c.loop-i in
    let log = c.args.log.now in
    let request = c.request_at-request.ensures in
    rw add-one record {
      passed = each_more (log_requests log) l.i l.invariant.passed
          (request_found log l.i _ _ _ _ _ _ (omega arith) c.at-count.ensures request.1 request.0 l.invariant.earlier c.place.ensures c.in_ok-request_fault.ensures);
      earlier = rw request.0 (sym (before_next log l.i (omega arith)));
    }
