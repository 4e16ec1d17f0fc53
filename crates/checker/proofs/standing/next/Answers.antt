-- `checker::standing::next` meets its contract. Assumes nothing.
use borrow.Author.Rules.{rules}
use Prim.Native.Nat.{◌≤◌}
use Rattle.checker.specs.Skips.{skips_lowest, lowest_most, skips_high}
use Rattle.checker.proofs.standing.next.Goals as goal

pub returns-then-x-ge64 : goal.returns-then-x-ge64
returns-then-x-ge64 c =
    (search rules, search rules, skips_high c.args.some c.args.x c.args.count c.ranges.some.fits c.if-x-ge64.true)

pub overflow_add-x : goal.overflow_add-x
overflow_add-x c =
    let m : c.lowest.result ≤ 64 = lowest_most _ _ c.lowest.ensures in
    search rules

pub returns : goal.returns
returns c =
    (search rules, search rules, skips_lowest c.args.some c.args.x _ _ c.lowest.ensures (search rules))
