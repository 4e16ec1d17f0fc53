-- `report::sheets::sheet_with` meets its contract. Assumes nothing.
use borrow.Author.Rules.{rules}
use mathlib.Core.Path.{refl, sym, ◌∙◌}
use lib.ListN.{length}
use lib.Seq.{length-take-le}
use Rattle.base.specs.Lent.{lent}
use Rattle.prices.specs.Tariff.{price_file}
use Rattle.request_log.specs.Conditions.{verdict_of, Accepted}
use Rattle.request_log.specs.AnswerLaws.{decoded_requests, decoded_refused}
use Rattle.std.proofs.lemmas.Result.{err_from_is_err_and}
use Rattle.text.specs.Answers.{printed}
use Rattle.report.specs.Alike.{lent_alike}
use Rattle.report.specs.SheetLaws.{sheet_refused, sheet_accepted}
use Rattle.report.proofs.sheets.sheet_with.Goals as goal

pub put_sheet-end-requires : goal.put_sheet-end-requires
unfolding Accepted
put_sheet-end-requires c =
    let a = c.args in
    let log = a.log.now in
    let t = price_file a.prices.now in
    let d = decoded_requests (verdict_of t log) log c.read_requests-decoded.result _ c.read_requests-decoded.ensures.value c.in_ok-n.was in
    let seconds = rw d.0 at c.read_requests-decoded.ensures.seconds_after in
    let servers = rw d.0 at c.read_requests-decoded.ensures.servers_after in
    record { accepted = (d.0, d.2, c.from.ensures ∙ d.1); alike = (lent_alike _ _ _ seconds, lent_alike _ _ _ servers); seconds_len = (search rules, search rules, search rules) }

pub slice_bounds-give-end : goal.slice_bounds-give-end
slice_bounds-give-end c = sym (length-take-le _ _ c.put_sheet-end.ensures.0)

pub returns-in_err-n : goal.returns-in_err-n
unfolding printed lent
returns-in_err-n c =
    let a = c.args in
    let t = price_file a.prices.now in
    let e = decoded_refused (verdict_of t a.log.now) a.log.now c.read_requests-decoded.result _ c.read_requests-decoded.ensures.value c.in_err-n.was in
    let p = err_from_is_err_and c.from_residual.result c.from_residual.ensures.1 in
    rw (p.1, p.2, sheet_refused t a.log.now (length a.text.now) _ e) record { value = refl; text_after = refl }

pub returns : goal.returns
unfolding Accepted
returns c =
    let a = c.args in
    let t = price_file a.prices.now in
    let d = decoded_requests (verdict_of t a.log.now) a.log.now c.read_requests-decoded.result _ c.read_requests-decoded.ensures.value c.in_ok-n.was in
    rw (sheet_accepted t a.log.now (length a.text.now) d.0, ← c.put_sheet-end.ensures.1) c.give.ensures
