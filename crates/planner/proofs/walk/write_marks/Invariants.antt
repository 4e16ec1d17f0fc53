-- `planner::walk::write_marks` meets its contract: when the loop stands at i, v is the cost of i requests where the gaps above c are covered, and the letters still to be found, before those written, are the whole walk's. Assumes nothing.
use mathlib.Core.List.{◌++◌}
use mathlib.Core.Path.{◌≡◌}
use lib.ListN.{drop}
use Rattle.model.specs.Table.{best}
use Rattle.model.proofs.TableLists.{at}
use Rattle.planner.specs.Asked.{asks}
use Rattle.planner.specs.Walked.{walked}
use Rattle.planner.specs.Fees.{rated}
use Rattle.planner.proofs.walk.write_marks.Given as goal

abbrev pub invariant-loop-i : goal.invariant-loop-i
invariant-loop-i l =
    (l.v ≡ best (rated l.fees) (asks l.seconds l.servers) l.i l.c)
    × (walked (rated l.fees) (asks l.seconds l.servers) (at l.keeps) l.i l.c l.v ++ drop l.i l.letters
    ≡ walked (rated l.fees) (asks l.seconds l.servers) (at l.keeps) l.n l.n (at l.costs l.n) ++ drop l.n l.initial.letters)
