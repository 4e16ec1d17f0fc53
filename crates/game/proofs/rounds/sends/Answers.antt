-- `game::rounds::sends` meets its contract. Assumes nothing.
use native.Mathlib.Omega.{arith}
use borrow.Author.Tests.{le-leb, lt-leb}
use Rattle.game.proofs.rounds.sends.Goals as goal

pub returns-then-gap-at : goal.returns-then-gap-at
returns-then-gap-at c = record { value = rw (← c.at.ensures, le-leb _ _ c.if-gap-at.true); upper_bound = omega arith }

pub returns : goal.returns
returns c = record { value = rw (← c.at.ensures, lt-leb _ _ c.if-gap-at.false); upper_bound = omega arith }
