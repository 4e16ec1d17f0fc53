-- `checker::standing::reaches` meets its contract. Assumes nothing.
use mathlib.Core.Path.{sym, ◌∙◌}
use borrow.Author.Tests.{eq-eqb}
use Rattle.checker.specs.Quick.{reaches}
use Rattle.checker.specs.QuickSteps.{reaches_read}
use Rattle.checker.proofs.standing.reaches.Goals as goal

pub returns-then-p-ne0 : goal.returns-then-p-ne0
returns-then-p-ne0 c =
    let a = c.args in
    c.covers.ensures ∙ sym (reaches_read a.rows.ns.now a.t a.x _ _ c.after_holds-p.ensures c.if-p-ne0.true c.row.ensures)

pub returns-else-p-ne0 : goal.returns-else-p-ne0
unfolding reaches
returns-else-p-ne0 c = rw (← c.after_holds-p.ensures, eq-eqb _ _ c.if-p-ne0.false)
