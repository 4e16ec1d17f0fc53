-- `week::lines::put_figures` meets its contract. Assumes nothing.
use Rattle.std.proofs.Common.{rules, sym, ◌≡◌, ◌∙◌, take, arith, add-one}
use lib.Seq.{take_all}
use Rattle.text.specs.Lines.{ascii}
use Rattle.text.specs.Page.{page, added}
use Rattle.week.specs.LineLaws.{cells_next, sum_next, line_parts}
use Rattle.week.proofs.lines.put_figures.Goals as goal

pub loop-figure-preserved : goal.loop-figure-preserved
loop-figure-preserved c =
    let l = c.loop-figure in
    let i = l.figure-index in
    let a = c.args in
    rw (add-one i) (
      omega arith,
      c.put_aligned-to.ensures ∙ rw (l.invariant.1, c.from-n.ensures) (cells_next a.figures i (page a.at a.text.now) (search rules)),
      rw (l.invariant.2, c.from-n.ensures) (sym (sum_next a.figures i (search rules))),
      omega (arith, c.from-n.ensures, l.invariant.3),
    )

pub returns : goal.returns
unfolding ascii added
returns c =
    let l = c.loop-figure in
    let a = c.args in
    let e : l.figure-index ≡ 7 = omega arith in
    let t : take l.figure-index a.figures ≡ a.figures = rw e (take_all 7 a.figures (search rules)) in
    c.put_byte.ensures ∙ rw (c.put_aligned-end.ensures, l.invariant.1, l.invariant.2, t) (line_parts a.figures (page a.at a.text.now))
