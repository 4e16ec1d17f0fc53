-- `planner::rows::Basis::put_transfers` meets its contract: when the loop stands at k, the transfers to requests 1 to k are in place. Assumes nothing.
use Prim.Native.Nat.{◌+◌, ◌≤◌}
use Rattle.model.specs.Marking.{transfers}
use Rattle.planner.specs.RowWriting.{Put}
use Rattle.planner.specs.Basis.{asked, marked, source}
use Rattle.planner.proofs.rows.Basis.put_transfers.Given as goal

abbrev pub invariant-loop-k : goal.invariant-loop-k
invariant-loop-k l = (l.next ≤ l.at + l.k) × Put l.at (transfers (asked l.self) (marked l.self) (source l.self) l.k) l.initial.out l.next l.out
