-- `rows::forms::fits` meets its contract. Assumes nothing.
use Rattle.std.proofs.Common.{arith}
use Rattle.std.proofs.lemmas.Bool.Decides.{nat_tests}
use Rattle.model.specs.RowForm.{fits}
use Rattle.rows.proofs.forms.fits.Goals as goal

pub returns-then-from-to : goal.returns-then-from-to
unfolding fits
returns-then-from-to c = rw c.in-Hold.is (grind (arith, nat_tests))

pub returns-else-target-count : goal.returns-else-target-count
unfolding fits
returns-else-target-count c = rw c.in-Transfer.is (grind (arith, nat_tests))
