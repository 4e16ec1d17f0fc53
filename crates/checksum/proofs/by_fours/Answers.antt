-- `checksum::by_fours` meets its contract. Assumes nothing.
use Rattle.std.proofs.Common.{◌≡◌, length, ◌∙◌, add-one, arith, drop-cons}
use lib.Seq.{drop-length}
use Rattle.checksum.specs.Sum.{sum_from}
use Rattle.checksum.specs.SumLaws.{group_on}
use Rattle.checksum.proofs.by_fours.Goals as goal

pub loop-group-preserved : goal.loop-group-preserved
loop-group-preserved c =
    let l = c.loop-group in
    rw c.step4-s.ensures (group_on l.s c.args.bytes.now _ l.group-index c.as_chunks.ensures.front (omega (arith, c.as_chunks.ensures.front_len)) ∙ l.invariant)

pub loop-byte-preserved : goal.loop-byte-preserved
unfolding sum_from
loop-byte-preserved c =
    let i = c.loop-byte.byte-index in
    rw (c.step-s.ensures, add-one i) (rw (drop-cons c.as_chunks.result.1.now i 0 (omega arith)) at c.loop-byte.invariant)

pub returns : goal.returns
unfolding sum_from
returns c =
    let left = c.as_chunks.result.1.now in
    let e : c.loop-byte.byte-index ≡ length left = omega arith in
    rw (e, drop-length) at c.loop-byte.invariant
