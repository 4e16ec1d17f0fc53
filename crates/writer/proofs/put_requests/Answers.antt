-- `writer::put_requests` meets its contract. Assumes nothing.
use mathlib.Core.Path.{refl, sym, ◌∙◌}
use native.Mathlib.Omega.{arith}
use native.Mathlib.Numerals.{add-one}
use lib.ListN.{take-append-drop}
use Rattle.request_log.specs.Contents.{requests_bytes}
use Rattle.writer.specs.WriteLaws.{requests_next}
use Rattle.writer.proofs.put_requests.Goals as goal

pub loop-k-init : goal.loop-k-init
unfolding requests_bytes
loop-k-init c = record { as_long = refl; written = sym (take-append-drop 40 _) }

pub loop-k-preserved : goal.loop-k-preserved
loop-k-preserved c =
    let l = c.loop-k in
    let a = c.args in
    record {
      as_long = c.put_request.auto.log ∙ l.invariant.as_long;
      written = c.put_request.ensures
          ∙ rw (l.invariant.written, add-one l.k) (requests_next a.seconds.now a.servers.now a.log.now l.k (omega arith));
    }
