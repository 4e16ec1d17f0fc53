-- `base::sets::has` meets its contract: no word has a member from 64 on. Assumes nothing.
use mathlib.Core.Path.{refl, sym}
use Rattle.base.specs.Sets.{has}
use Rattle.base.specs.SetLaws.{has_over}
use Rattle.base.proofs.sets.has.Goals as goal

pub returns-then-k-ge64 : goal.returns-then-k-ge64
returns-then-k-ge64 c =
    sym (has_over 64 c.args.w c.args.k c.ranges.w.fits c.if-k-ge64.true)

pub returns : goal.returns
unfolding has
returns c = refl
