-- `text::put::put_byte` meets its contract. Assumes nothing.
use borrow.Author.Tests.{lt-ltb, le-ltb}
use native.Mathlib.Numerals.{add-one}
use Rattle.text.specs.Page.{add_byte}
use Rattle.text.proofs.put.put_byte.Goals as goal

pub returns-then-text-at : goal.returns-then-text-at
unfolding add_byte
returns-then-text-at c = rw (le-ltb _ _ c.if-text-at.true)

pub returns : goal.returns
unfolding add_byte
returns c = rw (lt-ltb _ _ c.if-text-at.false, add-one c.args.at)
