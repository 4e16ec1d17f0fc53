-- `planner::walk::step_back` meets its contract. Assumes nothing.
use mathlib.Core.Path.{sym, ◌∙◌}
use native.Mathlib.Omega.{arith}
use Rattle.planner.specs.Asked.{asks}
use Rattle.planner.specs.Fees.{rated}
use Rattle.planner.specs.TurnLaws.{turned_gone, gone_most}
use Rattle.planner.proofs.walk.step_back.Goals as goal

pub overflow_sub-result-2 : goal.overflow_sub-result-2
overflow_sub-result-2 c =
    let a = c.args in
    let few = c.requires.ready.fits.requests_most in
    rw (c.unkept-left.ensures, c.sent.ensures)
    (gone_most (rated a.fees) (asks a.seconds.now a.servers.now) a.i a.c a.d a.v (omega arith) c.terms_at-a.result c.terms_at-a.ensures c.requires.v_value.0 c.requires.v_value.1
    (sym c.kept.ensures ∙ c.if-kept.false))

pub returns : goal.returns
returns c =
    let a = c.args in
    let few = c.requires.ready.fits.requests_most in
    rw (c.min-2.ensures, c.unkept-left.ensures, c.sent.ensures)
    (turned_gone (rated a.fees) (asks a.seconds.now a.servers.now) a.i a.c a.d a.v (omega arith) c.terms_at-a.result c.terms_at-a.ensures
    (sym c.kept.ensures ∙ c.if-kept.false))
