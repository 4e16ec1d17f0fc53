-- `checksum::sum_from` meets its contract. Assumes nothing.
use Rattle.std.proofs.Common.{◌≡◌, ◌*◌, drop}
use Rattle.checksum.specs.Sum.{sum_from}
use Rattle.checksum.proofs.sum_from.Given as goal

abbrev pub invariant-loop-pair : goal.invariant-loop-pair
invariant-loop-pair l = sum_from l.s (drop (l.pair-index * 8) l.bytes) ≡ sum_from l.start l.bytes
