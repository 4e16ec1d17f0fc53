-- `report::columns::replay` meets its contract. Assumes nothing.
use Rattle.live.specs.Live.{state_after, live_mark, live_cost}
use Rattle.base.specs.Lists.{build}
use lib.ListN.{length, drop}
use mathlib.Core.List.{◌++◌}
use mathlib.Core.Path.{◌≡◌}
use Rattle.report.proofs.columns.replay.Given as goal

abbrev pub invariant-loop-i : goal.invariant-loop-i
invariant-loop-i l =
    (length l.marks ≡ length l.initial.marks)
    × (length l.costs ≡ length l.initial.costs)
    × (l.state ≡ state_after l.initial.state l.id l.seconds l.servers l.i)
    × (l.marks ≡ build l.i (live_mark l.initial.state l.id l.seconds l.servers) ++ drop l.i l.initial.marks)
    × (l.costs ≡ build l.i (live_cost l.initial.state l.id l.seconds l.servers) ++ drop l.i l.initial.costs)
