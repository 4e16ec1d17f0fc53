-- `planner::rows::Basis::put_uploads` meets its contract: when the loop stands at k, the uploads to requests 1 to k are in place. Assumes nothing.
use Prim.Native.Nat.{◌+◌, ◌≤◌}
use Rattle.model.specs.Marking.{uploads}
use Rattle.planner.specs.RowWriting.{Put}
use Rattle.planner.specs.Basis.{asked, marked}
use Rattle.planner.proofs.rows.Basis.put_uploads.Given as goal

abbrev pub invariant-loop-k : goal.invariant-loop-k
invariant-loop-k l = (l.next ≤ l.at + l.k) × Put l.at (uploads (asked l.self) (marked l.self) l.k) l.initial.out l.next l.out
