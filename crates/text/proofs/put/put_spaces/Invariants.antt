-- `text::put::put_spaces` meets its contract. Assumes nothing.
use Rattle.std.proofs.Common.{◌≡◌, replicate}
use Rattle.text.specs.Page.{page, added}
use Rattle.text.proofs.put.put_spaces.Given as goal

abbrev pub invariant-loop : goal.invariant-loop
invariant-loop l = page l.to l.text ≡ added (replicate l.counter 32) (page l.at l.initial.text)
