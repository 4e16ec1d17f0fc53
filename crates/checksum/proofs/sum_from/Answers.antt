-- `checksum::sum_from` meets its contract. Assumes nothing.
use Rattle.std.proofs.Common.{◌∙◌, arith}
use Rattle.checksum.specs.SumLaws.{pair_on}
use Rattle.checksum.proofs.sum_from.Goals as goal

pub loop-pair-preserved : goal.loop-pair-preserved
loop-pair-preserved c =
    let l = c.loop-pair in
    pair_on l.s _ _ c.args.bytes.now _ l.pair-index c.as_chunks.ensures.front (omega (arith, c.as_chunks.ensures.front_len)) c.step4-half.ensures c.step4-s.ensures ∙ l.invariant
