-- `request_log::reader::put_requests` meets its contract. Assumes nothing.
use native.Mathlib.Omega.{arith}
use Rattle.base.specs.LentLaws.{filling_begins, filling_next}
use Rattle.request_log.proofs.reader.put_requests.Goals as goal

pub loop-i-init : goal.loop-i-init
loop-i-init c = record { seconds = filling_begins _ _; servers = filling_begins _ _ }

pub loop-i-preserved : goal.loop-i-preserved
loop-i-preserved c =
    let l = c.loop-i in
    let k = c.from-k.ensures in
    let request = c.request_at-request.ensures in
    record {
      seconds = filling_next _ _ _ l.i _ _ l.invariant.seconds (omega arith) k (rw k request.0);
      servers = filling_next _ _ _ l.i _ _ l.invariant.servers (omega arith) k (rw k request.1);
    }
