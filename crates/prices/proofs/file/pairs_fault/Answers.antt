-- `prices::file::pairs_fault` meets its contract. Assumes nothing.
use mathlib.Core.Path.{sym}
use native.Mathlib.Omega.{arith}
use Rattle.std.proofs.lemmas.Result.{err_from_is_err_and}
use Rattle.base.specs.RefusalLaws.{each_refused}
use Rattle.prices.specs.PriceFile.{class_count, pair_condition}
use Rattle.prices.proofs.file.pairs_fault.Goals as goal

pub returns-in_err-refuse_if : goal.returns-in_err-refuse_if
unfolding pair_condition
returns-in_err-refuse_if c =
    let file = c.args.file.now in
    let l = c.loop-class in
    let p = err_from_is_err_and c.from_residual.result c.from_residual.ensures.1 in
    rw (p.1, p.2)
    (sym (each_refused (pair_condition file) l.class (class_count file) _ (omega (arith, l.invariant.0)) l.invariant.1
    (rw (c.from.ensures, c.outside.ensures, c.pair_at.ensures) at (sym c.in_err-refuse_if.ensures))))
