-- `online::Cache::all_remaining` meets its contract. Assumes nothing.
use mathlib.Core.Path.{◌≡◌}
use Rattle.base.specs.Sets.{members}
use Rattle.online.specs.Servers.{across}
use Rattle.online.specs.Rules.{remaining}
use Rattle.online.specs.Walk.{given}
use Rattle.online.proofs.Cache.all_remaining.Given as goal

abbrev pub invariant-loop-left : goal.invariant-loop-left
invariant-loop-left l = l.sum ≡ across 64 (given 0 l.left (remaining l.self))

abbrev pub decreases-loop-left : goal.decreases-loop-left
decreases-loop-left l = members 64 l.left
