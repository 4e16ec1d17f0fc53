-- `rows::sets::along` meets its contract. Assumes nothing.
use Rattle.std.proofs.Common.{◌≡◌, ◌≤◌, ◌-◌}
use Rattle.rows.specs.Passes.{along}
use Rattle.rows.proofs.sets.along.Given as goal

abbrev pub invariant-loop-i : goal.invariant-loop-i
invariant-loop-i l = record { within : l.i - l.from ≤ l.to - l.from; so_far : l.w ≡ along l.ns l.t l.from l.start (l.i - l.from) }
