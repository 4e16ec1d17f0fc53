-- `planner::requests::link` meets its contract. Assumes nothing.
use lib.ListN.{length}
use mathlib.Core.Path.{◌≡◌}
use Rattle.model.proofs.TableLists.{at}
use Rattle.model.proofs.RecentLaws.{recents}
use Rattle.planner.specs.Terms.{index}
use Rattle.planner.specs.LinkLaws.{links_front}
use Rattle.planner.proofs.requests.link.Given as goal

abbrev pub invariant-loop-i : goal.invariant-loop-i
invariant-loop-i l =
    (l.recent ≡ recents (at l.servers) index l.i)
    × (length l.previous ≡ length l.initial.previous)
    × (l.previous ≡ links_front (at l.servers) l.i l.initial.previous)
