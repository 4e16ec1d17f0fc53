-- `planner::table::Asked::row` meets its contract. Assumes nothing.
use mathlib.Core.Path.{◌≡◌}
use Rattle.model.proofs.TableLists.{at}
use Rattle.model.proofs.TableRows.{row}
use Rattle.planner.specs.Prepared.{rates_of, asks_of}
use Rattle.planner.proofs.table.Asked.row.Given as goal

abbrev pub invariant-loop-k : goal.invariant-loop-k
invariant-loop-k l = l.v ≡ row (rates_of l.self) (asks_of l.self) (at l.costs) (at l.keeps) l.c l.k
