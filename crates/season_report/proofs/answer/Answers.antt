use Rattle.std.proofs.Common.{sym, ap, ◌∙◌, length-take-le}
use Rattle.season.specs.ReportText.{report_text}
use Rattle.season.specs.ReportLaws.{report_stands, report_prints}
use Rattle.season_report.proofs.answer.Goals as goal

-- the report
pub returns-in-Ok : goal.returns-in-Ok
returns-in-Ok c =
    let e = c.summary.ensures in
    let f = report_stands _ c.args.text.now e.tally_len_bound c.requires _ _ (sym e.value ∙ c.in-Ok.is) e.text_after in
    ((f.0, sym (length-take-le _ _ f.0)), f.1 ∙ ap report_text c.finish.ensures)

-- a report has room
pub returns-in-Err : goal.returns-in-Err
returns-in-Err c =
    let e = c.summary.ensures in
    absurd (report_prints _ c.args.text.now e.tally_len_bound c.requires _ (sym e.value ∙ c.in-Err.is))
