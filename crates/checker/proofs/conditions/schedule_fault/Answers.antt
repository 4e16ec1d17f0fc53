-- `checker::conditions::schedule_fault` meets its contract. Assumes nothing.
use mathlib.Core.Path.{◌∙◌}
use Rattle.std.proofs.lemmas.Result.{err_from_is_err_and}
use Rattle.request_log.specs.Fields.{server_count_of, home_of, request_count}
use Rattle.checker.specs.QuickParts.{schedule_parts, row_part_read, copy_part_read}
use Rattle.checker.specs.QuickTests.{in_order}
use Rattle.checker.proofs.conditions.schedule_fault.Goals as goal

pub returns-in_err-refuse_if : goal.returns-in_err-refuse_if
returns-in_err-refuse_if c =
    let a = c.args in
    let p = err_from_is_err_and c.from_residual.result c.from_residual.ensures.1 in
    rw (p.1, p.2, schedule_parts a.given a.log.now a.ns.now, ← c.in_err-refuse_if.ensures)

pub returns-in_err-rows_fault : goal.returns-in_err-rows_fault
unfolding server_count_of request_count
returns-in_err-rows_fault c =
    let a = c.args in
    let p = err_from_is_err_and c.from_residual-in_err-rows_fault.result c.from_residual-in_err-rows_fault.ensures.1 in
    rw (
      p.1,
      p.2,
      schedule_parts a.given a.log.now a.ns.now,
      ← c.in_ok-refuse_if.ensures,
      row_part_read a.given a.log.now a.ns.now _ _ _ _ (c.from-count.ensures ∙ c.at.ensures) c.at16.ensures c.last_second.ensures c.in_err-rows_fault.ensures,
    )

pub invariant_of-rows : goal.invariant_of-rows
unfolding server_count_of request_count
invariant_of-rows c =
    let a = c.args in
    let count = c.from-count.ensures ∙ c.at.ensures in
    record {
      in_order = in_order a.log.now a.ns.now c.requires a.given
          (row_part_read a.given a.log.now a.ns.now _ _ _ _ count c.at16.ensures c.last_second.ensures c.in_ok-rows_fault.ensures);
    }

pub returns-in_err-copies_fault : goal.returns-in_err-copies_fault
unfolding server_count_of request_count home_of
returns-in_err-copies_fault c =
    let a = c.args in
    let count = c.from-count.ensures ∙ c.at.ensures in
    let p = err_from_is_err_and c.from_residual-in_err-copies_fault.result c.from_residual-in_err-copies_fault.ensures.1 in
    rw (
      p.1,
      p.2,
      schedule_parts a.given a.log.now a.ns.now,
      ← c.in_ok-refuse_if.ensures,
      row_part_read a.given a.log.now a.ns.now _ _ _ _ count c.at16.ensures c.last_second.ensures c.in_ok-rows_fault.ensures,
      copy_part_read a.log.now a.ns.now _ _ _ count (c.from.ensures ∙ c.at-2.ensures) c.in_err-copies_fault.ensures,
    )

pub requests_fault-requires : goal.requests_fault-requires
unfolding server_count_of home_of
requests_fault-requires c = (c.from-count.ensures ∙ c.at.ensures, c.from.ensures ∙ c.at-2.ensures, c.requires.length_is)

pub returns : goal.returns
unfolding server_count_of request_count home_of
returns c =
    let a = c.args in
    let count = c.from-count.ensures ∙ c.at.ensures in
    rw (
      schedule_parts a.given a.log.now a.ns.now,
      ← c.in_ok-refuse_if.ensures,
      row_part_read a.given a.log.now a.ns.now _ _ _ _ count c.at16.ensures c.last_second.ensures c.in_ok-rows_fault.ensures,
      copy_part_read a.log.now a.ns.now _ _ _ count (c.from.ensures ∙ c.at-2.ensures) c.in_ok-copies_fault.ensures,
    )
    c.requests_fault.ensures
