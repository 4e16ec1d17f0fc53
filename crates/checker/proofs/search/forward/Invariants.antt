-- `checker::search::forward` meets its contract. Assumes nothing.
use Prim.Native.Nat.{◌-◌, ◌*◌, ◌≤◌}
use Rattle.model.specs.Checking.{row_count}
use Rattle.checker.specs.Search.{position}
use Rattle.checker.proofs.search.forward.Given as goal

abbrev pub invariant-loop-lo : goal.invariant-loop-lo
invariant-loop-lo l = (l.from ≤ l.m) × (l.lo ≤ l.m) × (l.lo ≤ position l.rows.ns.now l.k) × (position l.rows.ns.now l.k ≤ row_count l.rows.ns.now) × (l.m ≤ 2 * row_count l.rows.ns.now)

abbrev pub decreases-loop-lo : goal.decreases-loop-lo
decreases-loop-lo l = position l.rows.ns.now l.k - l.lo
