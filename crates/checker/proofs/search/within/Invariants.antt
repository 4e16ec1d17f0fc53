-- `checker::search::within` meets its contract. Assumes nothing.
use Prim.Native.Nat.{◌-◌, ◌≤◌}
use Rattle.checker.specs.Search.{position}
use Rattle.checker.proofs.search.within.Given as goal

abbrev pub invariant-loop-lo : goal.invariant-loop-lo
invariant-loop-lo l = (l.lo ≤ position l.rows.ns.now l.k) × (position l.rows.ns.now l.k ≤ l.hi)

abbrev pub decreases-loop-lo : goal.decreases-loop-lo
decreases-loop-lo l = l.hi - l.lo
