-- `text::give::give` meets its contract. Assumes nothing.
use Rattle.std.proofs.Common.{rules, sym, ◌∙◌}
use Rattle.base.specs.Lent.{lent}
use Rattle.text.specs.AnswerLaws.{given_front, room_fits}
use Rattle.text.specs.Answers.{room_verdict, printed}
use Rattle.text.proofs.give.give.Goals as goal

pub returns-in_err-refuse_if-clause-value : goal.returns-in_err-refuse_if-clause-value
unfolding printed room_verdict
returns-in_err-refuse_if-clause-value c = rw (sym c.refuse_if.ensures, c.in_err-refuse_if.was) (search rules)

pub returns-in_err-refuse_if-clause-text_after : goal.returns-in_err-refuse_if-clause-text_after
unfolding lent room_verdict
returns-in_err-refuse_if-clause-text_after c = rw (sym c.refuse_if.ensures, c.in_err-refuse_if.was)

pub returns-clause-value : goal.returns-clause-value
unfolding printed room_verdict
returns-clause-value c = rw (sym c.refuse_if.ensures, c.in_ok-refuse_if.was)

pub returns-clause-text_after : goal.returns-clause-text_after
unfolding lent room_verdict
returns-clause-text_after c =
    let a = c.args in
    rw (sym c.refuse_if.ensures, c.in_ok-refuse_if.was)
    (c.clear.ensures ∙ rw c.copy.ensures (given_front a.from.now a.text.now (room_fits a.from.now _ (sym c.refuse_if.ensures ∙ c.in_ok-refuse_if.was))))
