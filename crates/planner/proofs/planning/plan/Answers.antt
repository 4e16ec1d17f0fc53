-- `planner::planning::plan` meets its contract. Assumes nothing.
use mathlib.Core.Path.{sym, subst}
use Rattle.prices.specs.PriceLaws.{Priced, given_priced}
use Rattle.prices.specs.Tariff.{none}
use Rattle.prices.specs.Uploads.{if_given}
use Rattle.planner.proofs.planning.plan.Goals as goal

pub plan_by-requires : goal.plan_by-requires
plan_by-requires c = subst Priced (sym c.built_in.ensures) (given_priced _ none)

pub returns : goal.returns
unfolding if_given
returns c = rw c.built_in.ensures at c.plan_by.ensures
