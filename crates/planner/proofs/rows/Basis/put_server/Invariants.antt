-- `planner::rows::Basis::put_server` meets its contract: when the loop stands at k, the holds that begin with gaps 1 to k are in place. Assumes nothing.
use Prim.Native.Nat.{◌+◌, ◌≤◌}
use Rattle.model.specs.Marking.{hold_rows}
use Rattle.planner.specs.RowWriting.{Put}
use Rattle.planner.specs.Basis.{asked, held}
use Rattle.planner.proofs.rows.Basis.put_server.Given as goal

abbrev pub invariant-loop-k : goal.invariant-loop-k
invariant-loop-k l = (l.next ≤ l.at + l.k) × Put l.at (hold_rows (asked l.self) (held l.self l.y) l.self.n l.y l.k) l.initial.out l.next l.out
