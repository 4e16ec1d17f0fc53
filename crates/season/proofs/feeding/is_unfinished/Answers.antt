-- `season::feeding::is_unfinished` meets its contract. Assumes nothing.
use Rattle.std.proofs.Common.{lt-ltb, le-ltb}
use Rattle.request_log.specs.Fields.{total_length}
use Rattle.season.specs.Steps.{unfinished}
use Rattle.season.proofs.feeding.is_unfinished.Goals as goal

pub returns-then-log-lt40 : goal.returns-then-log-lt40
unfolding unfinished
returns-then-log-lt40 c = rw (lt-ltb _ _ c.if-log-lt40.true)

pub returns-then-heads : goal.returns-then-heads
unfolding unfinished total_length
returns-then-heads c = rw (le-ltb _ _ c.if-log-lt40.false, ← c.heads.ensures, c.if-heads.true, c.at32.ensures)

pub returns-else-heads : goal.returns-else-heads
unfolding unfinished
returns-else-heads c = rw (le-ltb _ _ c.if-log-lt40.false, ← c.heads.ensures, c.if-heads.false)
