-- `checksum::sum` meets its contract. Assumes nothing.
use Rattle.std.proofs.Common.{◌≡◌, ◌-◌, length, take, drop, sym, ◌∙◌, arith, length-drop, take_all}
use Rattle.checksum.specs.Sum.{sum_from}
use Rattle.checksum.specs.SumLaws.{sum_parts}
use Rattle.checksum.proofs.sum.Goals as goal

pub returns : goal.returns
returns c =
    let log = c.args.log.now in
    let rest : take (length log - 24) (drop 24 log) ≡ drop 24 log = take_all (length log - 24) (drop 24 log) (simp length-drop (omega arith)) in
    let tail : c.sum_from-2.result ≡ sum_from c.sum_from-s.result (take (length log - 24) (drop 24 log)) = c.sum_from-2.ensures in
    tail ∙ rw (rest, c.sum_from-s.ensures) (sym (sum_parts log))
