-- `season::lines::put_counts` meets its contract. Assumes nothing.
use Rattle.std.proofs.Common.{◌≡◌, ◌+◌, arith, suc, refl, ◌∙◌}
use Rattle.text.specs.Page.{page, added}
use Rattle.season.specs.ReportLaws.{lines_next}
use Rattle.season.specs.ReportText.{refused_lines}
use Rattle.season.specs.Tallies.{numbers}
use Rattle.season.proofs.lines.put_counts.Goals as goal

pub loop-k-init : goal.loop-k-init
unfolding added refused_lines
loop-k-init c = (refl, refl)

pub loop-k-preserved : goal.loop-k-preserved
loop-k-preserved c =
    let l = c.loop-k in
    let a = c.args in
    let e : l.k + 1 ≡ suc l.k = omega arith in (
      c.put_refused-to.auto.text ∙ l.invariant.0,
      c.put_refused-to.ensures ∙ rw (l.invariant.1, e) (lines_next a.refused.now l.k (page a.at a.text.now)),
    )

pub returns : goal.returns
returns c =
    let e : c.loop-k.k ≡ numbers = omega arith in
    rw e at c.loop-k.invariant.1
