-- `request_log::reader::put_requests` meets its contract. Assumes nothing.
use Prim.Native.Nat.{◌+◌, ◌*◌}
use Rattle.base.specs.Bytes.{le16, le32}
use Rattle.base.specs.LentLaws.{Filling}
use Rattle.request_log.proofs.reader.put_requests.Given as goal

abbrev pub invariant-loop-i : goal.invariant-loop-i
invariant-loop-i l = record {
  seconds : Filling (λ k. le32 l.log (40 + 6 * k)) l.initial.seconds l.seconds l.i;
  servers : Filling (λ k. le16 l.log (44 + 6 * k)) l.initial.servers l.servers l.i;
}
