-- `checker::copies::fed` meets its contract. Assumes nothing.
use mathlib.Core.Path.{sym, ◌∙◌}
use Rattle.base.specs.Choice.{not_both}
use Rattle.checker.specs.Quick.{fed}
use Rattle.checker.specs.CopySteps.{fed_read}
use Rattle.checker.proofs.copies.fed.Goals as goal
use Rattle.checker.proofs.copies.fed.Goals.{then-begins, else-begins}

pub returns-then-aimed : goal.returns-then-aimed
unfolding fed
returns-then-aimed c =
    let a = c.args in
    elim c.if-begins.branch [
      | then-begins w ↦ rw (c.if-aimed.true, ← c.begins.ensures, w.if-begins.true)
      | else-begins w ↦ rw (
        c.if-aimed.true,
        fed_read a.s.now.home a.s.now.rows.ns.now a.t a.x _ _ _ _ w.from_second.ensures w.after_second.ensures c.begins.ensures w.aimed.ensures,
        w.if-begins.false,
        sym w.value-is ∙ c.if-aimed.true,
      )
    ]

pub returns-else-aimed : goal.returns-else-aimed
returns-else-aimed c =
    let a = c.args in
    elim c.if-begins.branch [
      | then-begins w ↦ absurd (not_both (w.value-is ∙ w.if-begins.true) c.if-aimed.false)
      | else-begins w ↦ rw (
        fed_read a.s.now.home a.s.now.rows.ns.now a.t a.x _ _ _ _ w.from_second.ensures w.after_second.ensures c.begins.ensures w.aimed.ensures,
        w.if-begins.false,
        sym w.value-is ∙ c.if-aimed.false,
      ) c.loaded.ensures
    ]
