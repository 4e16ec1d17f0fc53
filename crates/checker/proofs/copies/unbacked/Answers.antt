-- `checker::copies::unbacked` meets its contract. Assumes nothing.
use Rattle.model.specs.Checking.{row_count}
use Rattle.checker.proofs.copies.unbacked.Goals as goal

pub returns-then-member : goal.returns-then-member
unfolding row_count
returns-then-member c = rw (← c.member.ensures, c.if-member.true)
