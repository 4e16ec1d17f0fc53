-- `text::put::put` meets its contract. Assumes nothing.
use Rattle.std.proofs.Common.{rules, refl, ap, ℕ, ◌+◌, get_or, take, ◌≡◌, ◌∙◌, length, arith, add-one}
use Rattle.text.proofs.Rest.{rest_read}
use lib.Seq.{take-length}
use Rattle.text.specs.Page.{page, added, add_byte}
use Rattle.text.specs.PageLaws.{added_next}
use Rattle.text.proofs.put.put.Goals as goal

pub loop-b-init : goal.loop-b-init
unfolding added
loop-b-init c = (search rules, refl)

pub loop-b-preserved : goal.loop-b-preserved
loop-b-preserved c =
    let l = c.loop-b in
    let a = c.args in
    let next : add_byte (get_or a.from.now l.b-index 0) (page l.to l.text) ≡ added (take (l.b-index + 1) a.from.now) (page a.at a.text.now) =
    rw (l.invariant.1, add-one l.b-index) (added_next a.from.now l.b-index (page a.at a.text.now) (omega arith)) in (
      search rules,
      c.put_byte-to.ensures
          ∙ ap (λ (b : ℕ). add_byte b (page l.to l.text)) (grind (arith, rest_read))
          ∙ next,
    )

pub returns : goal.returns
returns c =
    let l = c.loop-b in
    let from = c.args.from.now in
    let e : l.b-index ≡ length from = omega arith in
    rw (e, take-length from) at l.invariant.1
