-- `week::lines::put_figures` meets its contract. Assumes nothing.
use Rattle.std.proofs.Common.{◌≡◌, ◌*◌, ◌≤◌, take}
use Rattle.text.specs.Page.{page, added}
use Rattle.week.specs.Days.{line_sum}
use Rattle.week.specs.PageText.{cells}
use Rattle.week.proofs.lines.put_figures.Given as goal

abbrev pub invariant-loop-figure : goal.invariant-loop-figure
invariant-loop-figure l =
    (l.figure-index ≤ 7)
    × (page l.to l.text ≡ added (cells (take l.figure-index l.figure-items)) (page l.at l.initial.text))
    × (l.sum ≡ line_sum (take l.figure-index l.figure-items))
    × (l.sum ≤ 4294967296 * l.figure-index)
