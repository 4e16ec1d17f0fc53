-- `week::days::sum_days` meets its contract. Assumes nothing.
use Rattle.std.proofs.Common.{◌≡◌}
use Rattle.week.specs.Figures.{sums_of}
use Rattle.week.proofs.days.sum_days.Given as goal

abbrev pub invariant-loop-y : goal.invariant-loop-y
invariant-loop-y l = l.sums ≡ sums_of l.table l.y
