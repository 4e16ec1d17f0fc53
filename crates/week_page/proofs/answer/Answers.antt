use Rattle.std.proofs.Common.{sym, ◌∙◌, arith, length-take-le}
use Rattle.text.proofs.AnswerLaws.{front_of}
use Rattle.week.specs.OutputLaws.{page_stands, page_refuses}
use Rattle.week_page.proofs.answer.Goals as goal

-- the page
pub returns-in-Ok : goal.returns-in-Ok
returns-in-Ok c =
    let e = c.page.ensures in
    let f = page_stands _ c.args.log.now c.args.text.now c.requires _ _ (sym e.value ∙ c.in-Ok.is) e.text_after in
    ((f.0, sym (length-take-le _ _ f.0)), f.1)

-- the line of a refusal
pub returns-in-Err : goal.returns-in-Err
returns-in-Err c =
    let e = c.page.ensures in
    let p = c.put_refusal.ensures in
    let f = front_of _ _ _ _ p.text_after (omega (arith, p.refusal_len_bound)) in
    ((f.0, sym (length-take-le _ _ f.0)), f.1 ∙ page_refuses _ c.args.log.now c.args.text.now c.requires _ (sym e.value ∙ c.in-Err.is))
