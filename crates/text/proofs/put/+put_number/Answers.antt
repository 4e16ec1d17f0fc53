-- The last digit alone, or behind the digits before it.
use native.Mathlib.Omega.{arith}
use Rattle.text.specs.Page.{added}
use Rattle.text.specs.PageLaws.{added_append}
use Rattle.text.specs.DecimalLaws.{decimal_digit, decimal_more}
use Rattle.text.proofs.put.+put_number.Goals as goal

pub returns-then-n-lt10 : goal.returns-then-n-lt10
unfolding added
returns-then-n-lt10 t c = rw (decimal_digit c.args.n (omega arith), ← c.digit.ensures) c.put_byte.ensures

pub returns : goal.returns
unfolding added
returns t c =
    rw (decimal_more c.args.n (omega arith), added_append, ← c.digit-2.ensures, ← c.put_number-to.ensures)
    c.put_byte-2.ensures
