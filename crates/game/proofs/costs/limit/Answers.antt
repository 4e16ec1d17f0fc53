-- `game::costs::limit` meets its contract. Assumes nothing.
use native.Mathlib.Numerals.{add-one}
use native.Mathlib.Omega.{arith}
use Prim.Native.Nat.{◌+◌}
use Rattle.game.specs.CostLaws.{cost_most}
use Rattle.game.specs.Costs.{limit}
use Rattle.game.proofs.costs.limit.Goals as goal

pub scaled-requires : goal.scaled-requires
scaled-requires c =
    (c.requires.0.p_most, omega (arith, cost_most c.args.game c.args.board c.requires.0 c.requires.1 c.requires.2 0 (omega arith) c.source-from.result (c.args.board.count + 1)))

pub returns : goal.returns
unfolding limit
returns c = rw (c.scaled.ensures, c.next_cost-cost.ensures, c.source-from.ensures, add-one)
