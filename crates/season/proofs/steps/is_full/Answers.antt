-- `season::steps::is_full` meets its contract. Assumes nothing.
use Rattle.season.specs.Steps.{full}
use Rattle.season.proofs.steps.is_full.Goals as goal

pub returns-then-tally : goal.returns-then-tally
unfolding full
returns-then-tally c = rw c.if-tally.true

pub returns-else-tally : goal.returns-else-tally
unfolding full
returns-else-tally c = rw c.if-tally.false
