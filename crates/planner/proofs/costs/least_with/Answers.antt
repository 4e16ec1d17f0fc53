-- `planner::costs::least_with` meets its contract. Assumes nothing.
use mathlib.Core.Path.{sym, subst}
use Rattle.prices.specs.PriceLaws.{Priced, file_priced}
use Rattle.prices.specs.Uploads.{if_given}
use Rattle.planner.proofs.costs.least_with.Goals as goal

pub least_by-requires : goal.least_by-requires
least_by-requires c = subst Priced (sym c.of_file.ensures) (file_priced c.args.prices.now)

pub returns : goal.returns
unfolding if_given
returns c = rw c.of_file.ensures at c.least_by.ensures
