-- `base::sets::lowest` meets its contract: the count of trailing zeros is the lowest member. Assumes nothing.
use Rattle.base.specs.WordLaws.{trailing_lowest}
use Rattle.base.proofs.sets.lowest.Goals as goal

pub returns : goal.returns
returns c = trailing_lowest 64 c.args.w
