-- `planner::table::Asked::own_costs` meets its contract. Assumes nothing.
use mathlib.Core.Path.{◌≡◌}
use lib.ListN.{length}
use Rattle.planner.specs.Prepared.{rates_of, asks_of}
use Rattle.planner.specs.Fits.{Owned}
use Rattle.planner.proofs.table.Asked.own_costs.Given as goal

abbrev pub invariant-loop-i : goal.invariant-loop-i
invariant-loop-i l = (length l.owns ≡ length l.initial.owns) × Owned (rates_of l.self) (asks_of l.self) l.i l.owns
