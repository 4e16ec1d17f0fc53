-- `week::pages::put_plan` meets its contract. Assumes nothing.
use native.Mathlib.Omega.{arith}
use mathlib.Core.List.{List}
use mathlib.Core.Path.{◌≡◌, ap, ◌∙◌}
use Prim.Native.Nat.{ℕ}
use Rattle.prices.specs.Tariff.{built_in}
use Rattle.request_log.specs.Fields.{server_count_of}
use Rattle.text.proofs.AnswerLaws.{front_of}
use Rattle.text.specs.Page.{page, added}
use Rattle.week.specs.PageLaws.{page_fits, plan_few, plan_placed, table_page}
use Rattle.week.specs.Pages.{page_of}
use Rattle.week.proofs.pages.put_plan.Goals as goal

pub figures-requires : goal.figures-requires
figures-requires c =
    let a = c.args in
    let p = c.requires.accepted in
    let r = c.requires.n_in_bounds in
    (r.0, plan_few built_in a.log.now p.0 a.rows.now a.n r.1, plan_placed built_in a.log.now p.0 a.rows.now a.n r.1 p.1)

pub returns : goal.returns
unfolding server_count_of
returns c =
    let a = c.args in
    let log = a.log.now in
    let p = c.requires.accepted in
    let count : c.from-count.result ≡ server_count_of log = c.from-count.ensures ∙ c.at.ensures in
    let right = table_page built_in log p.0 a.rows.now a.n c.requires.n_in_bounds.1 c.figures.result c.figures.ensures in
    front_of (page_of built_in log) a.text.now _ _
    (c.put_page.ensures ∙ rw count (ap (λ (xs : List ℕ). added xs (page 0 a.text.now)) right))
    (omega (arith, page_fits built_in log p.0, p.2))
