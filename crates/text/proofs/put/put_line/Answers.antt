-- `text::put::put_line` meets its contract. Assumes nothing.
use Rattle.std.proofs.Common.{rules, refl, ap, ℕ, ◌++◌, get_or, ◌≡◌, ◌∙◌, length, arith, add-one}
use Rattle.text.proofs.Rest.{rest_read}
use Rattle.text.specs.Decimal.{decimal}
use lib.Seq.{drop-length}
use Rattle.text.specs.LineLaws.{figure_parts, fields_next}
use Rattle.text.specs.Lines.{ascii, line_end}
use Rattle.text.specs.Page.{page, added}
use Rattle.text.proofs.put.put_line.Goals as goal

pub loop-n-init : goal.loop-n-init
loop-n-init c = (search rules, refl)

pub loop-n-preserved : goal.loop-n-preserved
loop-n-preserved c =
    let l = c.loop-n in
    let ns = c.args.numbers.now in
    let field : _ ≡ added (ascii " " ++ decimal (get_or ns l.n-index 0)) (page l.to l.text) =
    c.put_field-to.ensures ∙ ap (λ (n : ℕ). added (ascii " " ++ decimal n) (page l.to l.text)) (grind (arith, rest_read)) in (
      search rules,
      rw (add-one l.n-index, field) (fields_next ns l.n-index (page l.to l.text) (omega arith) ∙ l.invariant.1),
    )

pub returns : goal.returns
unfolding added ascii line_end
returns c =
    let l = c.loop-n in
    let a = c.args in
    let e : l.n-index ≡ length a.numbers.now = omega arith in
    c.put_byte.ensures
    ∙ rw (e, drop-length a.numbers.now) at l.invariant.1
    ∙ rw c.put-to.ensures (figure_parts a.word.now a.numbers.now (page a.at a.text.now))
