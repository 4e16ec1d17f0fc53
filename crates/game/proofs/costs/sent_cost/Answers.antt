-- `game::costs::sent_cost` meets its contract. Assumes nothing.
use native.Mathlib.Omega.{arith}
use borrow.Author.Tests.{lt-ltb, le-ltb}
use Rattle.game.specs.Costs.{sent_cost}
use Rattle.game.proofs.costs.sent_cost.Goals as goal

pub paid-requires : goal.paid-requires
paid-requires c =
    (c.requires.0.priced.hold_most, omega (arith, c.requires.3))

pub overflow_add-result : goal.overflow_add-result
overflow_add-result c =
    record { fits = omega (arith, c.requires.0.priced.transfer_most, c.paid.ensures.upper_bound, c.requires.3) }

pub overflow_add-result-then-board-c : goal.overflow_add-result-then-board-c
overflow_add-result-then-board-c c =
    record { fits = omega (arith, c.requires.0.priced.transfer_most, c.paid.ensures.upper_bound, c.requires.3, c.requires.1.costs_most c.min.result) }

pub returns-then-board-c : goal.returns-then-board-c
unfolding sent_cost
returns-then-board-c c = rw (lt-ltb _ _ c.if-board-c.true, c.at-before.ensures, c.min.ensures, c.paid.ensures.value)

pub overflow_add-result-2 : goal.overflow_add-result-2
overflow_add-result-2 c =
    record { fits = omega (arith, c.requires.0.priced.transfer_most, c.requires.1.costs_most c.min.result) }

pub returns : goal.returns
unfolding sent_cost
returns c = rw (le-ltb _ _ c.if-board-c.false, c.at-before.ensures, c.min.ensures)
