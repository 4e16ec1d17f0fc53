-- `writer::write_by` meets its contract. Assumes nothing.
use borrow.Author.Rules.{rules}
use mathlib.Core.Path.{◌≡◌, refl, sym, ◌∙◌}
use native.Mathlib.Omega.{arith}
use lib.ListN.{length}
use Rattle.std.proofs.lemmas.Result.{err_from_is_err_and}
use Rattle.request_log.specs.AnswerLaws.{write_room}
use Rattle.base.specs.Lent.{lent}
use Rattle.request_log.specs.Fields.{length_for}
use Rattle.request_log.specs.Contents.{head, body, requests_bytes, encode}
use Rattle.request_log.specs.Answers.{written}
use Rattle.request_log.specs.EncodeLaws.{requests_length}
use Rattle.writer.specs.WriteLaws.{all_written}
use Rattle.writer.proofs.write_by.Goals as goal

pub returns-in_err-write_fault : goal.returns-in_err-write_fault
unfolding written lent
returns-in_err-write_fault c =
    let p = err_from_is_err_and c.from_residual.result c.from_residual.ensures.1 in
    rw (p.1, p.2, ← c.in_err-write_fault.ensures) record { value = refl; log_after = refl }

pub put_head-requires : goal.put_head-requires
put_head-requires c =
    let ok = write_room _ _ _ (sym c.in_ok-write_fault.ensures) in
    (ok.1, omega arith)

pub put_requests-requires : goal.put_requests-requires
put_requests-requires c =
    let ok = write_room _ _ _ (sym c.in_ok-write_fault.ensures) in
    (ok.0, ok.1, omega (arith, c.put_head.auto.log))

pub put_sum-requires : goal.put_sum-requires
put_sum-requires c =
    let ok = write_room _ _ _ (sym c.in_ok-write_fault.ensures) in
    omega (arith, c.clear.auto.out, c.put_requests.auto.log, c.put_head.auto.log)

pub returns : goal.returns
unfolding written encode body head length_for
returns c =
    let wf = c.in_ok-write_fault.ensures in
    let a = c.args in
    let n = length a.seconds.now in
    let id_length : length a.header.id ≡ 16 = let g = c.well_formed in search rules in
    let ok = write_room _ _ _ (sym wf) in
    rw (← wf) record {
      value = refl;
      log_after = c.put_sum.ensures
          ∙ all_written (head a.header n) a.header.id (requests_bytes a.seconds.now a.servers.now n) a.log.now n
          refl id_length (requests_length a.seconds.now a.servers.now n) ok.2
          _ _ _ c.put_head.ensures c.put_requests.ensures c.clear.ensures;
    }
