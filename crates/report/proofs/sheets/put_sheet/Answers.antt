-- `report::sheets::put_sheet` meets its contract. Assumes nothing.
use borrow.Author.Rules.{rules}
use mathlib.Core.Path.{◌≡◌, ap, ◌∙◌}
use native.Mathlib.Omega.{arith}
use Rattle.prices.specs.PriceLaws.{file_priced}
use Rattle.prices.specs.Tariff.{price_file}
use Rattle.request_log.specs.AcceptedLaws.{accepted_sound}
use Rattle.request_log.specs.Fields.{id_of, header_of}
use Rattle.request_log.specs.declared.Header.{Header}
use Rattle.online.specs.Answers.{started_for_log}
use Rattle.report.specs.SheetLaws.{runs_read, sheet_made, closing_made}
use Rattle.live.specs.Live.{opened}
use Rattle.report.specs.Alike.{lent_alike}
use Rattle.report.proofs.sheets.put_sheet.Goals as goal

pub give_live-end-requires : goal.give_live-end-requires
unfolding header_of opened
give_live-end-requires c =
    let log = c.args.log.now in
    let file = c.args.prices.now in
    let t = price_file file in
    let (a, from, n) = c.requires.accepted in
    let (seconds, servers) = c.requires.alike in
    let few = (accepted_sound t log a).requests_most in
    let o : c.open-cache.result ≡ opened t log = c.open-cache.ensures ∙ ap (λ (h : Header). (started_for_log t h).cache) from in
    let w : c.args.header.id ≡ id_of log = ap (λ (h : Header). h.id) from in (
      rw (n, o, w) (runs_read t (file_priced file) log a _ _ seconds servers),
      omega (arith, n, few),
      omega (arith, n, few),
      omega (arith, n, few),
      omega (arith, n, few),
    )

pub put_lines-requires : goal.put_lines-requires
put_lines-requires c =
    let (a, _, n) = c.requires.accepted in
    let few = (accepted_sound (price_file c.args.prices.now) c.args.log.now a).requests_most in (
      omega (arith, n, few),
      (
        search rules,
        search rules,
        omega (arith, c.plan_marks-rows.auto.marks),
        omega (arith, c.give_live-end.auto.marks),
        omega (arith, c.find_least.auto.costs),
        omega (arith, c.give_live-end.auto.costs),
      ),
      search rules,
    )

pub returns : goal.returns
unfolding header_of opened
returns c =
    let log = c.args.log.now in
    let file = c.args.prices.now in
    let t = price_file file in
    let (a, from, n) = c.requires.accepted in
    let (seconds, servers) = c.requires.alike in
    let o : c.open-cache.result ≡ opened t log = c.open-cache.ensures ∙ ap (λ (h : Header). (started_for_log t h).cache) from in
    let w : c.args.header.id ≡ id_of log = ap (λ (h : Header). h.id) from in
    let closed = c.closing-close.ensures ∙ closing_made t (file_priced file) log _ _ _ _ _ _ a n o w seconds servers c.give_live-end.ensures.value in
    (c.put_lines.ensures.0, c.put_lines.ensures.1 ∙ sheet_made t log _ _ _ _ _ _ _ _ _ _ _ n c.plan_marks-rows.ensures.value o w seconds servers (lent_alike _ _ _ c.plan_marks-rows.ensures.marks_after) (lent_alike _ _ _ c.find_least.ensures) (lent_alike _ _ _ c.give_live-end.ensures.marks_after) (lent_alike _ _ _ c.give_live-end.ensures.costs_after) closed)
