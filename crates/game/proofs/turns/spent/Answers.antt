-- `game::turns::spent` meets its contract. Assumes nothing.
use native.Mathlib.Omega.{arith}
use Rattle.game.specs.Costs.{spent}
use Rattle.game.proofs.turns.spent.Goals as goal

pub overflow_add-held : goal.overflow_add-held
overflow_add-held c =
    record { fits = omega (arith, c.holding_all.ensures.upper_bound, c.requires.1.held_most) }

pub paid-requires : goal.paid-requires
paid-requires c =
    (c.requires.0.priced.hold_most, omega (arith, c.holding_all.ensures.upper_bound, c.requires.1.held_most))

pub paid-requires-2 : goal.paid-requires-2
paid-requires-2 c =
    (c.requires.0.priced.transfer_most, omega (arith, c.requires.1.transfers_most))

pub overflow_add-result : goal.overflow_add-result
overflow_add-result c =
    record { fits = omega (arith, c.paid.ensures.upper_bound, c.paid-2.ensures.upper_bound, c.holding_all.ensures.upper_bound, c.requires.1.held_most, c.requires.1.transfers_most) }

pub returns : goal.returns
unfolding spent
returns c =
    record { value = rw (c.paid.ensures.value, c.paid-2.ensures.value, c.holding_all.ensures.value); upper_bound = omega (arith, c.paid.ensures.upper_bound, c.paid-2.ensures.upper_bound, c.holding_all.ensures.upper_bound, c.requires.1.held_most, c.requires.1.transfers_most) }
