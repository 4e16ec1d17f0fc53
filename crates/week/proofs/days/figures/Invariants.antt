-- `week::days::figures` meets its contract. Assumes nothing.
use Rattle.std.proofs.Common.{◌≡◌}
use Rattle.base.specs.Lists.{build}
use Rattle.week.specs.Figures.{days_upto}
use Rattle.week.proofs.days.figures.Given as goal

abbrev pub invariant-loop-i : goal.invariant-loop-i
invariant-loop-i l = l.table ≡ build 64 (days_upto l.rows l.i)
