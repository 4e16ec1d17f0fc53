-- `game::playing::beyond` meets its contract. Assumes nothing.
use Rattle.std.proofs.Common.{lt-ltb, le-ltb}
use Rattle.game.specs.Answers.{beyond}
use Rattle.game.proofs.playing.beyond.Goals as goal

pub returns-then-x-lt1 : goal.returns-then-x-lt1
unfolding beyond
returns-then-x-lt1 c = rw (lt-ltb _ _ c.if-x-lt1.true)

pub returns-else-x-lt1 : goal.returns-else-x-lt1
unfolding beyond
returns-else-x-lt1 c = rw (le-ltb _ _ c.if-x-lt1.false)
