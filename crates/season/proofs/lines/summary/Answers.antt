-- `season::lines::summary` meets its contract. Assumes nothing.
use mathlib.Core.Path.{sym}
use native.Mathlib.Omega.{arith}
use lib.Seq.{length-take-le}
use Rattle.text.proofs.AnswerLaws.{front_of}
use Rattle.season.proofs.lines.summary.Goals as goal

pub slice_bounds-page-end : goal.slice_bounds-page-end
slice_bounds-page-end c =
    (front_of _ _ _ _ c.put_report-n.ensures.text_after (omega (arith, c.put_report-n.ensures.tally_len_bound))).0

pub slice_bounds-give-end : goal.slice_bounds-give-end
slice_bounds-give-end c =
    sym (length-take-le _ _ (front_of _ _ _ _ c.put_report-n.ensures.text_after (omega (arith, c.put_report-n.ensures.tally_len_bound))).0)

pub returns : goal.returns
returns c =
    let e = (front_of _ _ _ _ c.put_report-n.ensures.text_after (omega (arith, c.put_report-n.ensures.tally_len_bound))).1 in
    record { value = rw (← e) c.give.ensures.value; text_after = rw (← e) c.give.ensures.text_after; tally_len_bound = c.put_report-n.ensures.tally_len_bound }
