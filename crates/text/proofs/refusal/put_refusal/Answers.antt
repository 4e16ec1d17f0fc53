-- `text::refusal::put_refusal` meets its contract. Assumes nothing.
use borrow.Author.Rules.{rules}
use Rattle.text.specs.RefusalTextLaws.{refusal_length}
use Rattle.text.specs.RefusalTextLaws.{refusal_parts}
use Rattle.text.specs.Lines.{ascii}
use Rattle.text.specs.RefusalText.{refusal_text}
use Rattle.text.specs.Page.{page, added}
use mathlib.Core.Path.{◌≡◌, ◌∙◌}
use Rattle.text.proofs.refusal.put_refusal.Goals as goal

pub returns : goal.returns
unfolding ascii added
returns c =
    let r = c.args.refusal in
    let o = c.args.text.now in
    let e : page _ _ ≡ added (refusal_text r) (page 0 o) =
    c.put_byte.ensures
    ∙ rw (
      c.put_field-e.ensures,
      c.put-d.ensures,
      c.put_field-c.ensures,
      c.from.ensures,
      c.put_list-b.ensures,
      c.put-a.ensures,
      c.number-number.ensures,
    ) (refusal_parts r (page 0 o)) in
    record { text_after = e; refusal_len_bound = refusal_length r (search rules) (search rules) }
