-- `season::lines::put_counts` meets its contract. Assumes nothing.
use Rattle.std.proofs.Common.{◌≡◌, length}
use Rattle.text.specs.Page.{page, added}
use Rattle.season.specs.ReportText.{refused_lines}
use Rattle.season.proofs.lines.put_counts.Given as goal

abbrev pub invariant-loop-k : goal.invariant-loop-k
invariant-loop-k l =
    (length l.text ≡ length l.initial.text) × (page l.to l.text ≡ added (refused_lines l.refused l.k) (page l.at l.initial.text))
