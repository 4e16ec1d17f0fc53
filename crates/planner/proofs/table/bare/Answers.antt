-- `planner::table::bare` meets its contract. Assumes nothing.
use mathlib.Core.Path.{◌≡◌}
use native.Mathlib.Omega.{arith}
use Prim.Native.Nat.{◌+◌, ◌^◌}
use Rattle.prices.specs.Uploads.{if_given}
use Rattle.planner.specs.Fees.{rated}
use Rattle.planner.specs.Terms.{away_of, bare_by}
use Rattle.planner.specs.TermLaws.{cheaper_under}
use Rattle.planner.proofs.table.bare.Goals as goal

pub returns : goal.returns
unfolding away_of bare_by
returns c =
    let a = c.args in
    let e : c.unkept.result.price ≡ bare_by (rated a.fees) a.a = rw (c.unkept.ensures, c.from-transfer.ensures) in
    (e, omega (arith, e, cheaper_under (if_given a.fees.upload) a.a.sendable (a.fees.transfer + a.a.gap) (2 ^ 61) (omega (arith, c.requires)) (omega (arith, c.requires))))
