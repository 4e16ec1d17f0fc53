use Rattle.std.proofs.Common.{sym, ◌∙◌, arith, length-take-le}
use Rattle.prices.specs.PriceLaws.{file_priced}
use Rattle.text.proofs.AnswerLaws.{front_of}
use Rattle.report.specs.OutputLaws.{sheet_stands, sheet_refuses}
use Rattle.sheet.proofs.answer.Goals as goal

-- the sheet
pub returns-in-Ok : goal.returns-in-Ok
returns-in-Ok c =
    let e = c.sheet_with.ensures in
    let f = sheet_stands _ (file_priced c.args.prices.now) c.args.log.now c.args.text.now c.requires _ _ (sym e.value ∙ c.in-Ok.is) e.text_after in
    ((f.0, sym (length-take-le _ _ f.0)), f.1)

-- the line of a refusal
pub returns-in-Err : goal.returns-in-Err
returns-in-Err c =
    let e = c.sheet_with.ensures in
    let p = c.put_refusal.ensures in
    let f = front_of _ _ _ _ p.text_after (omega (arith, p.refusal_len_bound)) in
    ((f.0, sym (length-take-le _ _ f.0)), f.1 ∙ sheet_refuses _ (file_priced c.args.prices.now) c.args.log.now c.args.text.now c.requires _ (sym e.value ∙ c.in-Err.is))
