-- `planner::walk::kept` meets its contract. Assumes nothing.
use borrow.Author.Tests.{le-ltb, ne_eqb}
use Rattle.planner.specs.Terms.{kept_by}
use Rattle.planner.proofs.walk.kept.Goals as goal

pub returns-else-not-a : goal.returns-else-not-a
unfolding kept_by
returns-else-not-a c = rw (← c.shut.ensures, ne_eqb _ _ c.if-a-ne-NONE.true, le-ltb _ _ c.if-a-c.false, c.if-not-a.false)
