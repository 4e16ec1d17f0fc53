-- `planner::costs::least` meets its contract. Assumes nothing.
use mathlib.Core.Path.{sym, subst}
use Rattle.prices.specs.PriceLaws.{Priced, classes_ranged}
use Rattle.prices.specs.Uploads.{if_given}
use Rattle.planner.proofs.costs.least.Goals as goal

pub least_by-requires : goal.least_by-requires
least_by-requires c = subst Priced (sym c.built_in.ensures) (λ e. classes_ranged)

pub returns : goal.returns
unfolding if_given
returns c = rw c.built_in.ensures at c.least_by.ensures
