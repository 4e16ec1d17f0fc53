-- `game::costs::asked_at` meets its contract. Assumes nothing.
use Rattle.std.proofs.Common.{lt-ltb, le-ltb}
use Rattle.std.proofs.lemmas.Bool.{lt-leb}
use Rattle.game.specs.Costs.{asked_at}
use Rattle.game.proofs.costs.asked_at.Goals as goal

pub returns-then-i-board : goal.returns-then-i-board
unfolding asked_at
returns-then-i-board c = rw (le-ltb _ _ c.if-i-board.true, c.at.ensures)

pub returns-else-i-board : goal.returns-else-i-board
unfolding asked_at
returns-else-i-board c = rw (lt-leb _ _ c.if-i-board.false, lt-ltb _ _ c.if-i-board.false)
