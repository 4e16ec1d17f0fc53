-- `rows::sets::settle` meets its contract. Assumes nothing.
use Rattle.std.proofs.Common.{◌≡◌, ◌-◌, arith}
use Rattle.rows.specs.Passes.{settle}
use Rattle.rows.proofs.sets.settle.Goals as goal

pub returns : goal.returns
unfolding settle
returns c =
    let l = c.loop in
    let e : c.args.count - l.counter ≡ 0 = omega arith in
    rw e at l.invariant
