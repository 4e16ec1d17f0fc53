-- `checker::conditions::requests_fault` meets its contract. Assumes nothing.
use borrow.Author.Rules.{rules}
use mathlib.Core.Path.{◌≡◌, refl, sym}
use native.Mathlib.Omega.{arith}
use native.Mathlib.Numerals.{add-one}
use Rattle.std.proofs.lemmas.Result.{err_from_is_err_and}
use Rattle.base.specs.Refusals.{first, each}
use Rattle.base.specs.RefusalLaws.{each_refused}
use Rattle.request_log.specs.ConditionLaws.{each_more}
use Rattle.request_log.specs.Fields.{request_count, length_for}
use Rattle.checker.specs.Quick.{serve_test}
use Rattle.checker.proofs.conditions.requests_fault.Goals as goal

pub loop-i-init : goal.loop-i-init
unfolding first each
loop-i-init c = refl

pub served-served-requires : goal.served-served-requires
unfolding request_count length_for
served-served-requires c = search rules

pub returns-in_err-refuse_if : goal.returns-in_err-refuse_if
unfolding request_count serve_test
returns-in_err-refuse_if c =
    let a = c.args in
    let l = c.loop-i in
    let p = err_from_is_err_and c.from_residual.result c.from_residual.ensures.1 in
    rw (p.1, p.2)
    (sym (each_refused (serve_test a.log.now a.s.now.rows.ns.now) l.i (request_count a.log.now) _ (search rules) l.invariant
    (rw (c.from.ensures, add-one l.i, c.served-served.ensures) at (sym c.in_err-refuse_if.ensures))))

pub loop-i-preserved : goal.loop-i-preserved
unfolding serve_test
loop-i-preserved c =
    let a = c.args in
    let l = c.loop-i in
    rw (add-one l.i)
    (each_more (serve_test a.log.now a.s.now.rows.ns.now) l.i l.invariant (rw (c.from.ensures, add-one l.i, c.served-served.ensures) at (sym c.in_ok-refuse_if.ensures)))

pub returns : goal.returns
unfolding request_count
returns c =
    let l = c.loop-i in
    let e : l.i ≡ request_count c.args.log.now = omega arith in
    sym (rw e at l.invariant)
