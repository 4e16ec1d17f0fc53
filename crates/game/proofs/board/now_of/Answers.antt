-- `game::board::now_of` meets its contract. Assumes nothing.
use Rattle.game.specs.Costs.{now_of}
use Rattle.game.proofs.board.now_of.Goals as goal

pub returns : goal.returns
unfolding now_of
returns c = cc
