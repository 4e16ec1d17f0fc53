-- `base::sets::cut` meets its contract: xor with a shifted 1 cuts a member, which is below 64. Assumes nothing.
use mathlib.Core.Path.{◌≡◌, sym, ◌∙◌}
use mathlib.Core.Bool.{true}
use Rattle.base.specs.Sets.{has}
use Rattle.base.specs.SetLaws.{has_under, cut_none}
use Rattle.base.specs.WordLaws.{xor_cut}
use Rattle.base.proofs.sets.cut.Goals as goal

pub overflow_shl-result : goal.overflow_shl-result
overflow_shl-result c =
    has_under 64 c.args.w c.args.k c.ranges.w.fits (sym c.has.ensures ∙ c.if-has.true)

pub returns-then-has : goal.returns-then-has
returns-then-has c =
    let w = c.args.w in
    let k = c.args.k in
    let h : has w k ≡ true = sym c.has.ensures ∙ c.if-has.true in
    xor_cut 64 w k (has_under 64 w k c.ranges.w.fits h) h

pub returns : goal.returns
returns c =
    let a = c.args in
    sym (cut_none a.w a.k (sym c.has.ensures ∙ c.if-has.false))
