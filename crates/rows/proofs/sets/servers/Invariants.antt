-- `rows::sets::servers` meets its contract. Assumes nothing.
use Rattle.std.proofs.Common.{◌≡◌, ◌≤◌, ◌-◌}
use Rattle.rows.specs.Passes.{servers}
use Rattle.rows.proofs.sets.servers.Given as goal

abbrev pub invariant-loop-i : goal.invariant-loop-i
invariant-loop-i l = record { within : l.i - l.from ≤ l.to - l.from; so_far : l.w ≡ servers l.ns l.from l.start (l.i - l.from) }
