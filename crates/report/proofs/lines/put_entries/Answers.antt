-- `report::lines::put_entries` meets its contract. Assumes nothing.
use borrow.Author.Rules.{rules}
use Rattle.report.specs.TextLaws.{lines_next, lines_longer}
use Rattle.report.specs.Columns.{columns_in}
use Rattle.report.specs.Text.{entry_lines, entry_of}
use Rattle.text.specs.Page.{page, added}
use native.Mathlib.Omega.{arith}
use native.Mathlib.Numerals.{add-one}
use mathlib.Core.Path.{◌≡◌, refl, ◌∙◌}
use Rattle.report.proofs.lines.put_entries.Goals as goal

pub loop-i-init : goal.loop-i-init
unfolding entry_lines added
loop-i-init c = (refl, refl, search rules)

pub loop-i-preserved : goal.loop-i-preserved
loop-i-preserved c =
    let l = c.loop-i in
    let a = c.args in
    let e = entry_of (columns_in a.columns) in
    rw (add-one l.i) (
      c.put_entry-to.auto.text ∙ l.invariant.0,
      c.put_entry-to.ensures.text_after ∙ rw (l.invariant.1, c.entry.ensures) (lines_next e l.i (page a.at a.text.now)),
      lines_longer e l.i l.invariant.2 (rw c.entry.ensures at c.put_entry-to.ensures.len_bound),
    )

pub returns : goal.returns
returns c =
    let l = c.loop-i in
    let e : l.i ≡ c.args.n = omega arith in
    record { text_after = rw e at l.invariant.1; n_len_bound = rw e at l.invariant.2 }
