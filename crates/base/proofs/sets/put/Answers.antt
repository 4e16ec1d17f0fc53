-- `base::sets::put` meets its contract: or with a shifted 1 puts a number in. Assumes nothing.
use borrow.Author.Tests.{lt-ltb, le-ltb}
use Rattle.base.specs.WordLaws.{or_put}
use Rattle.base.proofs.sets.put.Goals as goal

pub returns-then-k-ge64 : goal.returns-then-k-ge64
returns-then-k-ge64 c = rw (le-ltb _ _ c.if-k-ge64.true)

pub returns : goal.returns
returns c = let a = c.args in rw (lt-ltb _ _ c.if-k-ge64.false) (or_put 64 a.w a.k c.if-k-ge64.false)
