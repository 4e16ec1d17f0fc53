-- `report::lines::put_entries` meets its contract. Assumes nothing.
use Rattle.report.specs.Columns.{columns_in}
use Rattle.report.specs.Text.{entry_lines, entry_of}
use Rattle.text.specs.Page.{page, added}
use lib.ListN.{length}
use Prim.Native.Nat.{◌*◌, ◌≤◌}
use mathlib.Core.Path.{◌≡◌}
use Rattle.report.proofs.lines.put_entries.Given as goal

abbrev pub invariant-loop-i : goal.invariant-loop-i
invariant-loop-i l =
    (length l.text ≡ length l.initial.text)
    × (page l.to l.text ≡ added (entry_lines (entry_of (columns_in l.columns)) l.i) (page l.at l.initial.text))
    × (length (entry_lines (entry_of (columns_in l.columns)) l.i) ≤ 109 * l.i)
