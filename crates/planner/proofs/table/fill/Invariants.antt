-- `planner::table::fill` meets its contract. Assumes nothing.
use mathlib.Core.Path.{◌≡◌}
use lib.ListN.{length}
use Rattle.planner.specs.FillLaws.{costs_front, keeps_front}
use Rattle.planner.specs.Prepared.{rates_of, asks_of}
use Rattle.planner.proofs.table.fill.Given as goal

abbrev pub invariant-loop-i : goal.invariant-loop-i
invariant-loop-i l =
    (length l.costs ≡ length l.fn.costs)
    × (length l.keeps ≡ length l.fn.keeps)
    × (l.costs ≡ costs_front (rates_of l.asked) (asks_of l.asked) l.i l.fn.costs)
    × (l.keeps ≡ keeps_front (rates_of l.asked) (asks_of l.asked) l.i l.fn.keeps)
