-- `online::conditions::some_used` meets its contract. Assumes nothing.
use Prim.Native.Nat.{◌*◌, ◌≤◌}
use mathlib.Core.Path.{◌≡◌}
use lib.ListN.{get_or}
use Rattle.online.specs.Servers.{across}
use Rattle.online.proofs.conditions.some_used.Given as goal

abbrev pub invariant-loop-used : goal.invariant-loop-used
invariant-loop-used l = (l.sum ≡ across l.used-index (λ y. get_or l.last_use y 0)) × (l.sum ≤ 4294967295 * l.used-index)
