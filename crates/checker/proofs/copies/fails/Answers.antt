-- `checker::copies::fails` meets its contract. Assumes nothing.
use borrow.Author.Tests.{ne_eqb}
use Rattle.checker.specs.CopySteps.{fails_read}
use Rattle.checker.proofs.copies.fails.Goals as goal

pub returns-else-i-low : goal.returns-else-i-low
returns-else-i-low c =
    let a = c.args in
    rw (ne_eqb _ _ c.if-i-low.false, fails_read a.s.now.home a.s.now.rows.ns.now a.i _ _ _ c.row-r.ensures c.second.ensures c.fed.ensures)
