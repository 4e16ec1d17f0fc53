-- `text::refusal::put_list` meets its contract. Assumes nothing.
use Rattle.text.specs.RefusalTextLaws.{below_state, in_state, above_state}
use Rattle.text.proofs.refusal.put_list.Goals.{in_default-via-then-number-lt1, in_default-via-else-number-lt1+else-number-lt19+then-number-lt31, in_default-via-else-number-lt1+else-number-lt19+else-number-lt31+else-number-lt36}
use Rattle.text.specs.Lines.{ascii}
use Rattle.text.specs.RefusalText.{list_word}
use native.Mathlib.Omega.{arith}
use mathlib.Core.Path.{◌≡◌}
use Rattle.text.proofs.refusal.put_list.Goals as goal

pub returns-in-1-to-18 : goal.returns-in-1-to-18
unfolding ascii
returns-in-1-to-18 c = rw (below_state c.args.number (omega arith)) c.put.ensures

pub returns-in-31-to-35 : goal.returns-in-31-to-35
unfolding ascii
returns-in-31-to-35 c = rw (in_state c.args.number (omega arith) (omega arith)) c.put-in-31-to-35.ensures

pub returns-in_default : goal.returns-in_default
unfolding ascii
returns-in_default c =
    let n = c.args.number in
    let e : list_word n ≡ ascii "input" =
    elim c.in_default.branch [
      | in_default-via-then-number-lt1 w ↦ below_state n (omega arith)
      | in_default-via-else-number-lt1+else-number-lt19+then-number-lt31 w ↦ below_state n (omega arith)
      | in_default-via-else-number-lt1+else-number-lt19+else-number-lt31+else-number-lt36 w ↦ above_state n (omega arith)
    ] in
    rw e c.put-in_default.ensures
