-- `checker::copies::copies_fault` meets its contract. Assumes nothing.
use Rattle.std.proofs.lemmas.Result.{err_from_is_err_and}
use Rattle.checker.specs.CopySteps.{copy_parts, unbacked_most}
use Rattle.checker.specs.Search.{second_key}
use Rattle.checker.specs.SearchLaws.{position_most}
use Rattle.checker.proofs.copies.copies_fault.Goals as goal

pub holds_fault-requires : goal.holds_fault-requires
holds_fault-requires c = rw c.from_second-holds.ensures (position_most c.args.s.now.rows.ns.now (second_key 0))

pub returns-in_err-holds_fault : goal.returns-in_err-holds_fault
returns-in_err-holds_fault c =
    let a = c.args in
    let p = err_from_is_err_and c.from_residual.result c.from_residual.ensures.1 in
    rw (
      p.1,
      p.2,
      copy_parts a.s.now.count a.s.now.home a.s.now.rows.ns.now _ _ _ _ c.from_second-holds.ensures c.args.s.now.first c.scan-faults.ensures.0 c.scan-faults.ensures.1,
      ← c.in_err-holds_fault.ensures,
    )

pub transfer_fault-requires : goal.transfer_fault-requires
transfer_fault-requires c = rw c.scan-faults.ensures.1 (unbacked_most _ _ _ _ _)

pub returns : goal.returns
returns c =
    let a = c.args in
    rw (
      copy_parts a.s.now.count a.s.now.home a.s.now.rows.ns.now _ _ _ _ c.from_second-holds.ensures c.args.s.now.first c.scan-faults.ensures.0 c.scan-faults.ensures.1,
      ← c.in_ok-holds_fault.ensures,
    )
    c.transfer_fault.ensures
