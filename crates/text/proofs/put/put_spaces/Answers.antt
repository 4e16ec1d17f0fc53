-- `text::put::put_spaces` meets its contract. Assumes nothing.
use Rattle.std.proofs.Common.{refl, sym, ◌≡◌, ◌∙◌, arith, add-one}
use Rattle.text.specs.Page.{page, added}
use Rattle.text.specs.PageLaws.{added_again}
use Rattle.text.proofs.put.put_spaces.Goals as goal

pub loop-init : goal.loop-init
unfolding added
loop-init c = refl

pub loop-preserved : goal.loop-preserved
loop-preserved c =
    let l = c.loop in
    let a = c.args in
    c.put_byte-to.ensures ∙ rw (l.invariant, add-one l.counter) (sym (added_again 32 l.counter (page a.at a.text.now)))

pub returns : goal.returns
returns c =
    let l = c.loop in
    let e : l.counter ≡ c.args.count = omega arith in
    rw e at l.invariant
