-- `planner::rows::Basis::put_holds` meets its contract: when the loop stands at y, the holds of the servers below y are in place. Assumes nothing.
use Prim.Native.Nat.{◌*◌, ◌≤◌}
use Rattle.planner.specs.WordRows.{word_holds}
use Rattle.planner.specs.RowWriting.{Put}
use Rattle.planner.specs.Basis.{asked}
use Rattle.planner.proofs.rows.Basis.put_holds.Given as goal

abbrev pub invariant-loop-y : goal.invariant-loop-y
invariant-loop-y l = (l.next ≤ 65536 * l.y) × Put 0 (word_holds (asked l.self) l.self.words.now l.self.n l.y) l.initial.out l.next l.out
