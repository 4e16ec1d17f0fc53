-- `base::sets::size` meets its contract: the count of ones is the number of members. Assumes nothing.
use Rattle.base.specs.WordLaws.{ones_members}
use Rattle.base.proofs.sets.size.Goals as goal

pub returns : goal.returns
returns c = ones_members 64 c.args.w c.ranges.w.fits
