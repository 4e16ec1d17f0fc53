-- `game::board::start` meets its contract. Assumes nothing.
use mathlib.Core.Path.{refl}
use Rattle.game.specs.Boards.{start_board}
use Rattle.game.proofs.board.start.Goals as goal

pub returns : goal.returns
unfolding start_board
returns c = refl
