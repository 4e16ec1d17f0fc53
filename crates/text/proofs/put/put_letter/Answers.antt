-- `text::put::put_letter` meets its contract. Assumes nothing.
use Rattle.text.specs.Lines.{ascii}
use Rattle.text.specs.Page.{added}
use mathlib.Core.Path.{◌∙◌}
use Rattle.text.proofs.put.put_letter.Goals as goal

pub returns : goal.returns
unfolding added ascii
returns c = c.put_byte.ensures ∙ rw c.put_byte-to.ensures
