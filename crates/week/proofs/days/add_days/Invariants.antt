-- `week::days::add_days` meets its contract. Assumes nothing.
use Rattle.std.proofs.Common.{◌+◌, get_or}
use Rattle.base.specs.LentLaws.{Filling}
use Rattle.week.proofs.days.add_days.Given as goal

abbrev pub invariant-loop-d : goal.invariant-loop-d
invariant-loop-d l = Filling (λ k. get_or l.sums k 0 + get_or l.days k 0) l.initial.more l.more l.d
