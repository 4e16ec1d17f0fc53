-- `request_log::reader::read_by` meets its contract. Assumes nothing.
use mathlib.Core.Path.{refl, sym, ◌∙◌}
use native.Mathlib.Omega.{arith}
use Rattle.base.specs.Lent.{lent}
use Rattle.request_log.specs.AcceptedLaws.{accepted_sound}
use Rattle.request_log.specs.Fields.{length_for, request_count, seconds_of, servers_of}
use Rattle.request_log.specs.Answers.{decoded}
use Rattle.request_log.specs.AnswerLaws.{read_passed}
use Rattle.request_log.proofs.reader.read_by.Goals as goal

pub returns-in-Err : goal.returns-in-Err
unfolding decoded lent
returns-in-Err c = rw (← c.read_fault.ensures, c.in-Err.is, c.blank.ensures) record { value = refl; seconds_after = refl; servers_after = refl }

pub give_requests-requires : goal.give_requests-requires
unfolding request_count length_for
give_requests-requires c =
    let ok = read_passed _ _ _ _ (sym c.read_fault.ensures ∙ c.in_default.is) in
    let long = (accepted_sound _ _ ok.0).length_is in
    rw c.at16-n.ensures (omega (arith, long), ok.1, ok.2)

pub header-requires : goal.header-requires
unfolding length_for
header-requires c =
    let ok = read_passed _ _ _ _ (sym c.read_fault.ensures ∙ c.in_default.is) in
    omega (arith, (accepted_sound _ _ ok.0).length_is)

pub returns : goal.returns
unfolding decoded request_count seconds_of servers_of
returns c =
    let given = rw c.at16-n.ensures at c.give_requests.ensures in
    rw (← c.read_fault.ensures, c.in_default.is, c.header.ensures, c.at16-n.ensures)
    record { value = refl; seconds_after = given.seconds_after; servers_after = given.servers_after }
