-- `planner::rows::Basis::last_of_run` meets its contract: when the loop stands at e, the run's end from k is that from e. Assumes nothing.
use mathlib.Core.Path.{◌≡◌}
use Prim.Native.Nat.{◌-◌}
use Rattle.model.specs.Marking.{run_end}
use Rattle.planner.specs.Basis.{held}
use Rattle.planner.proofs.rows.Basis.last_of_run.Given as goal

abbrev pub invariant-loop-e : goal.invariant-loop-e
invariant-loop-e l = run_end (held l.self l.y) l.k (l.self.n - l.k) ≡ run_end (held l.self l.y) l.e (l.self.n - l.e)
