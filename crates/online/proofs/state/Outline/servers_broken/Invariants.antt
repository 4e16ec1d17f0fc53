-- `online::state::Outline::servers_broken` meets its contract. Assumes nothing.
use mathlib.Core.Path.{◌≡◌}
use lib.ListN.{length}
use Rattle.base.specs.Sets.{members}
use Rattle.online.specs.declared.Cache.{Cache}
use Rattle.online.specs.Serving.{Outlines}
use Rattle.online.specs.Looked.{Looked}
use Rattle.online.proofs.state.Outline.servers_broken.Given as goal

abbrev pub invariant-loop-left : goal.invariant-loop-left
invariant-loop-left l = (length l.rest ≡ 64) × ((s : Cache) → Outlines s l.self → s.last_use ≡ l.initial.rest → Looked s l.left l.rest)

abbrev pub decreases-loop-left : goal.decreases-loop-left
decreases-loop-left l = members 64 l.left
