-- `checker::search::precedes` meets its contract. Assumes nothing.
use mathlib.Core.Path.{sym, ◌∙◌}
use borrow.Author.Tests.{le-ltb}
use Rattle.model.specs.Checking.{row_count}
use Rattle.checker.specs.SearchLaws.{place_tells, past_after}
use Rattle.checker.proofs.search.precedes.Goals as goal

pub returns-then-i-rows : goal.returns-then-i-rows
unfolding row_count
returns-then-i-rows c = place_tells c.args.rows.ns.now c.args.rows.in_order c.args.k c.args.i _ _ c.if-i-rows.true c.row.ensures c.key.ensures

pub returns-else-i-rows : goal.returns-else-i-rows
unfolding row_count
returns-else-i-rows c = le-ltb _ _ c.if-i-rows.false ∙ sym (past_after c.args.rows.ns.now c.args.k c.args.i c.if-i-rows.false)
