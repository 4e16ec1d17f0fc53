-- `text::put::put_line` meets its contract. Assumes nothing.
use Rattle.std.proofs.Common.{◌≡◌, ◌≤◌, map, length, drop}
use Rattle.text.specs.Decimal.{decimal}
use Rattle.text.specs.Lines.{line_end}
use Rattle.text.specs.Page.{page, added}
use Rattle.text.proofs.put.put_line.Given as goal

abbrev pub invariant-loop-n : goal.invariant-loop-n
invariant-loop-n l =
    (l.n-index ≤ length l.numbers)
    × (added (line_end (map decimal (drop l.n-index l.numbers))) (page l.to l.text) ≡ added (line_end (map decimal l.numbers)) (page l.initial.to l.initial.text))
