-- `checker::checking::check_uploads` meets its contract. Assumes nothing.
use mathlib.Core.Path.{sym, subst}
use Rattle.prices.specs.PriceLaws.{Priced, given_priced}
use Rattle.prices.specs.Tariff.{none}
use Rattle.prices.specs.Uploads.{if_given}
use Rattle.checker.proofs.checking.check_uploads.Goals as goal

pub check_by-requires : goal.check_by-requires
check_by-requires c = subst Priced (sym c.built_in.ensures) (given_priced _ none)

pub returns : goal.returns
unfolding if_given
returns c = rw c.built_in.ensures at c.check_by.ensures
