-- `text::refusal::refusal_line` meets its contract. Assumes nothing.
use mathlib.Core.Path.{sym}
use lib.Seq.{length-take-le}
use Rattle.text.proofs.AnswerLaws.{front_of}
use Rattle.text.proofs.refusal.refusal_line.Goals as goal

pub slice_bounds-line-end : goal.slice_bounds-line-end
slice_bounds-line-end c = let p = c.put_refusal-n.ensures in (front_of _ _ _ _ p.text_after p.refusal_len_bound).0

pub slice_bounds-give-end : goal.slice_bounds-give-end
slice_bounds-give-end c = let p = c.put_refusal-n.ensures in sym (length-take-le _ _ (front_of _ _ _ _ p.text_after p.refusal_len_bound).0)

pub returns : goal.returns
returns c =
    let p = c.put_refusal-n.ensures in
    rw (← (front_of _ _ _ _ p.text_after p.refusal_len_bound).1) c.give.ensures
