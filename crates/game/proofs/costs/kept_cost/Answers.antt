-- `game::costs::kept_cost` meets its contract. Assumes nothing.
use native.Mathlib.Omega.{arith}
use Rattle.game.specs.Costs.{kept_cost}
use Rattle.game.proofs.costs.kept_cost.Goals as goal

pub overflow_add-span : goal.overflow_add-span
overflow_add-span c =
    record { fits = omega (arith, c.now_of.ensures, c.requires.1.now_most, c.requires.3) }

pub overflow_sub-span : goal.overflow_sub-span
overflow_sub-span c =
    omega (arith, c.requires.1.past c.args.from, c.now_of.ensures, c.at-since.ensures)

pub paid-requires : goal.paid-requires
paid-requires c =
    (c.requires.0.priced.hold_most, omega (arith, c.requires.1.now_most, c.requires.3, c.now_of.ensures))

pub overflow_add-result : goal.overflow_add-result
overflow_add-result c =
    record { fits = omega (arith, c.paid.ensures.upper_bound, c.requires.1.now_most, c.requires.3, c.now_of.ensures, c.requires.1.costs_most c.min.result) }

pub returns : goal.returns
unfolding kept_cost
returns c = rw (c.paid.ensures.value, c.now_of.ensures, c.at-since.ensures, c.at-before.ensures, c.min.ensures)
