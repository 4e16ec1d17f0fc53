-- `rows::forms::kind_fits` meets its contract. Assumes nothing.
use Rattle.model.specs.Checking.{kind_fits}
use Rattle.rows.specs.Passes.{offering}
use Rattle.rows.specs.GivenLaws.{given_some}
use Rattle.rows.proofs.forms.kind_fits.Goals as goal

pub returns-then-r-eq0 : goal.returns-then-r-eq0
unfolding kind_fits offering
returns-then-r-eq0 c = rw (c.in-2.is, c.if-r-eq0.true, given_some)
