-- `game::settings::stay` meets its contract. Assumes nothing.
use borrow.Author.Tests.{eq-eqb, ne_eqb}
use Rattle.game.specs.Settings.{stay}
use Rattle.game.proofs.settings.stay.Goals as goal

pub returns-then-y-last_of : goal.returns-then-y-last_of
unfolding stay
returns-then-y-last_of c = rw (← c.last_of.ensures, eq-eqb _ _ c.if-y-last_of.true)

pub returns : goal.returns
unfolding stay
returns c = rw (← c.last_of.ensures, ne_eqb _ _ c.if-y-last_of.false)
