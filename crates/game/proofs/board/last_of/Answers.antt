-- `game::board::last_of` meets its contract. Assumes nothing.
use Rattle.game.specs.Costs.{last_of}
use Rattle.game.proofs.board.last_of.Goals as goal

pub returns : goal.returns
unfolding last_of
returns c = cc
