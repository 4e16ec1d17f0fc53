-- `online::Cache::accept` meets its contract. Assumes nothing.
use mathlib.Core.Bool.{false}
use mathlib.Core.Path.{◌≡◌}
use lib.ListN.{length}
use Rattle.base.specs.Sets.{members}
use Rattle.base.specs.Lists.{build}
use Rattle.online.specs.Servers.{across, set_of}
use Rattle.online.specs.Rules.{stands, next_use, seconds}
use Rattle.online.specs.Walk.{given}
use Rattle.online.proofs.Cache.accept.Given as goal

abbrev pub invariant-loop-left : goal.invariant-loop-left
invariant-loop-left l =
    (length l.last_use ≡ 64)
    × (l.last_use ≡ build 64 (given 0 l.left (next_use l.self l.q.second l.q.server)))
    × (l.holders ≡ set_of 64 (given false l.left (stands l.self l.q.second l.q.server)))
    × (l.held ≡ across 64 (given 0 l.left (seconds l.self l.q.second)))

abbrev pub decreases-loop-left : goal.decreases-loop-left
decreases-loop-left l = members 64 l.left
