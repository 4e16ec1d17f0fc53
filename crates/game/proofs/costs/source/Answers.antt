-- `game::costs::source` meets its contract. Assumes nothing.
use Rattle.game.specs.Costs.{source_of}
use Rattle.game.proofs.costs.source.Goals as goal

pub returns-then-asked_at : goal.returns-then-asked_at
unfolding source_of
returns-then-asked_at c = rw (← c.asked_at.ensures, c.if-asked_at.true)

pub returns-then-asked_at-2 : goal.returns-then-asked_at-2
unfolding source_of
returns-then-asked_at-2 c = rw (← c.asked_at.ensures, ← c.asked_at-2.ensures, c.if-asked_at.false, c.if-asked_at-2.true)

pub returns-then-asked_at-3 : goal.returns-then-asked_at-3
unfolding source_of
returns-then-asked_at-3 c = rw (← c.asked_at.ensures, ← c.asked_at-2.ensures, ← c.asked_at-3.ensures, c.if-asked_at.false, c.if-asked_at-2.false, c.if-asked_at-3.true)

pub returns : goal.returns
unfolding source_of
returns c = rw (← c.asked_at.ensures, ← c.asked_at-2.ensures, ← c.asked_at-3.ensures, c.if-asked_at.false, c.if-asked_at-2.false, c.if-asked_at-3.false)
