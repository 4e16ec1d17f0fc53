-- `text::put::put_field` meets its contract. Assumes nothing.
use Rattle.text.specs.Lines.{ascii}
use Rattle.text.specs.Page.{added}
use mathlib.Core.Path.{◌∙◌}
use Rattle.text.proofs.put.put_field.Goals as goal

pub returns : goal.returns
unfolding added ascii
returns c = c.put_number.ensures ∙ rw c.put_byte-to.ensures
