-- `checker::copies::holds_fault` meets its contract. Assumes nothing.
use borrow.Author.Rules.{rules}
use mathlib.Core.Path.{refl, sym}
use native.Mathlib.Omega.{arith}
use native.Mathlib.Numerals.{add-one}
use Rattle.std.proofs.lemmas.Result.{err_from_is_err_and}
use Rattle.base.specs.Refusals.{first, each}
use Rattle.base.specs.RefusalLaws.{each_refused}
use Rattle.request_log.specs.ConditionLaws.{each_more}
use Rattle.model.specs.Checking.{row_count}
use Rattle.checker.specs.Quick.{hold_test}
use Rattle.checker.proofs.copies.holds_fault.Goals as goal

pub loop-i-init : goal.loop-i-init
unfolding first each
loop-i-init c = refl

pub place-requires : goal.place-requires
unfolding row_count
place-requires c = search rules

pub returns-in_err-refuse_if : goal.returns-in_err-refuse_if
unfolding hold_test
returns-in_err-refuse_if c =
    let a = c.args in
    let l = c.loop-i in
    let p = err_from_is_err_and c.from_residual.result c.from_residual.ensures.1 in
    rw (p.1, p.2)
    (sym (each_refused (hold_test a.s.now.home a.s.now.rows.ns.now a.low) l.i a.holds _ (omega arith) l.invariant (rw (c.place.ensures, c.fails.ensures) at (sym c.in_err-refuse_if.ensures))))

pub loop-i-preserved : goal.loop-i-preserved
unfolding hold_test
loop-i-preserved c =
    let a = c.args in
    let l = c.loop-i in
    rw (add-one l.i)
    (each_more (hold_test a.s.now.home a.s.now.rows.ns.now a.low) l.i l.invariant (rw (c.place.ensures, c.fails.ensures) at (sym c.in_ok-refuse_if.ensures)))
