-- `text::put::put` meets its contract. Assumes nothing.
use Rattle.std.proofs.Common.{◌≡◌, ◌≤◌, length, take}
use Rattle.text.specs.Page.{page, added}
use Rattle.text.proofs.put.put.Given as goal

abbrev pub invariant-loop-b : goal.invariant-loop-b
invariant-loop-b l = (l.b-index ≤ length l.from) × (page l.to l.text ≡ added (take l.b-index l.from) (page l.at l.initial.text))
