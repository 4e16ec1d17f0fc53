-- `game::costs::next_costs` meets its contract. Assumes nothing.
use Rattle.base.specs.Lists.{build}
use Rattle.game.proofs.costs.next_costs.Goals as goal

pub returns : goal.returns
unfolding build
returns c = rw (c.next_cost.ensures, c.next_cost-2.ensures, c.next_cost-3.ensures, c.next_cost-4.ensures, c.source-from.ensures)
