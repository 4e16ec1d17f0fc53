-- `writer::conditions::lists_fault` meets its contract. Assumes nothing.
use mathlib.Core.Path.{refl, sym}
use native.Mathlib.Omega.{arith}
use native.Mathlib.Numerals.{add-one}
use lib.ListN.{length}
use Rattle.std.proofs.lemmas.Result.{err_from_is_err_and}
use Rattle.base.specs.Refusals.{first, each}
use Rattle.base.specs.RefusalLaws.{each_refused}
use Rattle.request_log.specs.Conditions.{before, request_conditions}
use Rattle.request_log.specs.ConditionLaws.{each_more, list_found}
use Rattle.writer.proofs.conditions.lists_fault.Goals as goal

pub loop-i-init : goal.loop-i-init
unfolding first each before
loop-i-init c = record { passed = refl; earlier = refl }

pub returns-in_err-request_fault : goal.returns-in_err-request_fault
returns-in_err-request_fault c =
    let l = c.loop-i in
    let a = c.args in
    let p = err_from_is_err_and c.from_residual.result c.from_residual.ensures.1 in
    rw (p.1, p.2)
    (sym (each_refused (request_conditions a.count a.seconds.now a.servers.now) l.i (length a.seconds.now) _ (omega arith) l.invariant.passed
    (list_found a.count a.seconds.now a.servers.now l.i l.earlier _ _ l.invariant.earlier c.place.ensures c.in_err-request_fault.ensures)))

pub loop-i-preserved : goal.loop-i-preserved
unfolding before
loop-i-preserved c =
    let l = c.loop-i in
    let a = c.args in
    rw add-one record {
      passed = each_more (request_conditions a.count a.seconds.now a.servers.now) l.i l.invariant.passed
          (list_found a.count a.seconds.now a.servers.now l.i l.earlier _ _ l.invariant.earlier c.place.ensures c.in_ok-request_fault.ensures);
      earlier = refl;
    }
