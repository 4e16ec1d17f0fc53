-- `report::lines::put_lines` meets its contract. Assumes nothing.
use Rattle.report.specs.TextLaws.{sheet_parts, sheet_length}
use Rattle.report.specs.Columns.{columns_in}
use Rattle.report.specs.Text.{entry_of, sheet_text}
use Rattle.text.specs.Lines.{ascii}
use Rattle.text.specs.Page.{page, added}
use Rattle.text.proofs.AnswerLaws.{front_of}
use native.Mathlib.Omega.{arith}
use mathlib.Core.Path.{◌≡◌, ◌∙◌}
use Rattle.report.proofs.lines.put_lines.Goals as goal

pub returns : goal.returns
unfolding ascii
returns c =
    let a = c.args in
    let e = entry_of (columns_in a.columns) in
    let o = a.text.now in
    let parts : page _ _ ≡ added (sheet_text e a.n a.rows a.closing) (page 0 o) =
    c.put_line.ensures
    ∙ rw (c.put_line-c.ensures, c.put_entries-b.ensures.text_after, c.put_heading-a.ensures) (sheet_parts e a.n a.rows a.closing (page 0 o)) in
    front_of (sheet_text e a.n a.rows a.closing) o _ _ parts
    (omega (arith, sheet_length e a.n a.rows a.closing (omega arith) c.ranges.rows.fits c.ranges.closing.fits c.put_entries-b.ensures.n_len_bound))
