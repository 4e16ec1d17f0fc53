-- The last digit alone behind spaces, or behind the digits before it.
use native.Mathlib.Omega.{arith}
use Rattle.text.specs.Page.{added}
use Rattle.text.specs.PageLaws.{added_append}
use Rattle.text.specs.AlignedLaws.{aligned_digit, aligned_more}
use Rattle.text.proofs.put.+put_aligned.Goals as goal

pub returns-then-number-lt10 : goal.returns-then-number-lt10
unfolding added
returns-then-number-lt10 t c =
    rw (aligned_digit c.args.width c.args.number (omega arith), added_append, ← c.digit.ensures, ← c.saturating_sub-rest.ensures, ← c.put_spaces-to.ensures)
    c.put_byte.ensures

pub returns : goal.returns
unfolding added
returns t c =
    rw (aligned_more c.args.width c.args.number (omega arith), added_append, ← c.digit-2.ensures, ← c.saturating_sub-rest.ensures, ← c.put_aligned-to.ensures)
    c.put_byte-2.ensures
