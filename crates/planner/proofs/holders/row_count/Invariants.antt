-- `planner::holders::row_count` meets its contract: when the loop stands at k, the rows of gaps 1 to k are counted. Assumes nothing.
use mathlib.Core.Path.{◌≡◌}
use Prim.Native.Nat.{◌*◌, ◌≤◌}
use Rattle.planner.specs.HolderWords.{marking}
use Rattle.planner.specs.RowCount.{row_count}
use Rattle.planner.proofs.holders.row_count.Given as goal

abbrev pub invariant-loop-k : goal.invariant-loop-k
invariant-loop-k l = (l.rows ≤ 65 * l.k) × (l.rows ≡ row_count l.words (marking l.letters) l.k)
