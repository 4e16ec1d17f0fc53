-- `season::feeding::take_all` meets its contract. Assumes nothing.
use mathlib.Core.Path.{◌≡◌}
use Prim.Native.Nat.{◌-◌, ◌≤◌, ◌<◌}
use lib.ListN.{length, take}
use Rattle.prices.specs.Tariff.{built_in}
use Rattle.request_log.specs.Sizes.{log_room}
use Rattle.season.specs.Steps.{gathered, with_bytes}
use Rattle.season.proofs.feeding.take_all.Given as goal

abbrev pub invariant-loop-at : goal.invariant-loop-at
invariant-loop-at l =
    (l.at ≤ length l.piece) × (length l.room ≡ length l.initial.room) × (l.kept < log_room)
    × (gathered l.sums (take l.kept l.room) ≡ with_bytes built_in (gathered l.initial.sums (take l.held l.initial.room)) (take l.at l.piece))

abbrev pub decreases-loop-at : goal.decreases-loop-at
decreases-loop-at l = length l.piece - l.at
