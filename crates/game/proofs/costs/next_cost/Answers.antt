-- `game::costs::next_cost` meets its contract. Assumes nothing.
use borrow.Author.Tests.{eq-eqb, ne_eqb}
use Rattle.game.specs.Costs.{next_cost}
use Rattle.game.proofs.costs.next_cost.Goals as goal

pub returns-then-from-eq4 : goal.returns-then-from-eq4
unfolding next_cost
returns-then-from-eq4 c = rw (eq-eqb _ _ c.if-from-eq4.true) c.sent_cost.ensures

pub returns-then-from-board : goal.returns-then-from-board
unfolding next_cost
returns-then-from-board c = rw (ne_eqb _ _ c.if-from-eq4.false, eq-eqb _ _ c.if-from-board.true) c.kept_cost.ensures

pub returns : goal.returns
unfolding next_cost
returns c = rw (ne_eqb _ _ c.if-from-eq4.false, ne_eqb _ _ c.if-from-board.false, c.min.ensures, c.sent_cost-2.ensures, c.kept_cost-2.ensures)
