-- `checksum::by_fours` meets its contract. Assumes nothing.
use Rattle.std.proofs.Common.{◌≡◌, ◌*◌, drop}
use Rattle.checksum.specs.Sum.{sum_from}
use Rattle.checksum.proofs.by_fours.Given as goal

abbrev pub invariant-loop-group : goal.invariant-loop-group
invariant-loop-group l = sum_from l.s (drop (l.group-index * 4) l.bytes) ≡ sum_from l.start l.bytes

abbrev pub invariant-loop-byte : goal.invariant-loop-byte
invariant-loop-byte l = sum_from l.s (drop l.byte-index l.left) ≡ sum_from l.start l.bytes
