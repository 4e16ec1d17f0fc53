-- `game::rounds::moved` meets its contract. Assumes nothing.
use native.Mathlib.Numerals.{add-one}
use Rattle.base.specs.Lists.{build}
use Rattle.game.specs.Boards.{moved}
use Rattle.game.proofs.rounds.moved.Goals as goal

pub returns : goal.returns
unfolding moved build
returns c = rw (c.now_of.ensures, c.here.ensures, c.here-2.ensures, c.here-3.ensures, c.holding_all.ensures.value, c.sends.ensures.value, c.next_costs-costs.ensures, add-one)
