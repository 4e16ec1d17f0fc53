-- `rows::kinds::covers` meets its contract. Assumes nothing.
use Rattle.std.proofs.Common.{arith}
use Rattle.std.proofs.lemmas.Bool.Decides.{nat_tests}
use Rattle.rows.specs.Passes.{covers}
use Rattle.rows.proofs.kinds.covers.Goals as goal

pub returns-then-from-t : goal.returns-then-from-t
unfolding covers
returns-then-from-t c = rw (← c.in-Hold.ensures) (grind (arith, nat_tests))
