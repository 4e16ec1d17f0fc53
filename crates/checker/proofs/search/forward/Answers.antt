-- `checker::search::forward` meets its contract. Assumes nothing.
use borrow.Author.Rules.{rules}
use native.Mathlib.Omega.{arith}
use Prim.Native.Nat.{◌≤◌}
use Rattle.model.specs.Checking.{row_count}
use Rattle.checker.specs.Search.{position}
use Rattle.checker.specs.SearchLaws.{position_most}
use Rattle.checker.proofs.search.forward.Goals as goal

pub loop-lo-init : goal.loop-lo-init
loop-lo-init c =
    let a = c.args in
    let n : position a.rows.ns.now a.k ≤ row_count a.rows.ns.now = position_most a.rows.ns.now a.k in
    (search rules, search rules, search rules, n, omega arith)

pub overflow_add-lo : goal.overflow_add-lo
unfolding row_count
overflow_add-lo c = search rules

pub overflow_add-m : goal.overflow_add-m
unfolding row_count
overflow_add-m c = search rules
