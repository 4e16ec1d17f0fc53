-- `report::lines::put_entry` meets its contract. Assumes nothing.
use borrow.Author.Rules.{rules}
use Rattle.report.specs.TextLaws.{entry_length}
use Rattle.text.specs.Lines.{ascii, line, line_end}
use Rattle.report.specs.Text.{entry_line}
use Rattle.text.specs.PageLaws.{added_append}
use Rattle.text.specs.Page.{added}
use mathlib.Core.Path.{◌∙◌}
use Rattle.report.proofs.lines.put_entry.Goals as goal

pub returns : goal.returns
unfolding entry_line line line_end ascii added
returns c = record {
  text_after = c.put_byte.ensures
      ∙ rw (
        c.put_field-g.ensures,
        c.put_field-f.ensures,
        c.put_letter-e.ensures,
        c.put_letter-d.ensures,
        c.put_field-c.ensures,
        c.put_field-b.ensures,
        c.put_number-a.ensures,
      ) (simp added_append);
  len_bound = entry_length c.args.entry (search rules) (search rules) (search rules) (search rules) (search rules);
}
