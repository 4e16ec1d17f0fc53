-- The report of a tally, byte for byte (02's Req 12). Assumes nothing.
use Rattle.std.specs.Prelude.{List, [], ◌∷◌, ◌++◌, ℕ, zero, suc, ◌+◌, ◌*◌, eqb, get_or}
use Rattle.base.specs.Choice.{pick}
use Rattle.text.specs.Lines.{ascii, figure_line}
use Rattle.season.specs.declared.Worst.{Worst}
use Rattle.season.specs.declared.Tally.{Tally}
use Rattle.season.specs.Tallies.{numbers}

-- the line of a number that refused so many logs; none if it refused no log
unfoldable pub refused_line : ℕ → ℕ → List ℕ
refused_line n count = pick (eqb count 0) [] (figure_line (ascii "refused") (n ∷ count ∷ []))

-- those of all numbers below k, by rising number
unfoldable pub refused_lines : List ℕ → ℕ → List ℕ
refused_lines counts zero = []
refused_lines counts (suc k) = refused_lines counts k ++ refused_line k (get_or counts k 0)

-- the worst log's place, running and least cost; no line if there is none
unfoldable pub worst_line : Worst → List ℕ
worst_line w = pick (eqb w.place 0) [] (figure_line (ascii "worst") (w.place ∷ w.running ∷ w.least ∷ []))

-- all lines
unfoldable pub report_text : Tally → List ℕ
report_text tally =
    figure_line (ascii "accepted") (tally.accepted ∷ [])
    ++ (refused_lines tally.refused numbers
    ++ (figure_line (ascii "least") (tally.least ∷ [])
    ++ (figure_line (ascii "running") (tally.running ∷ []) ++ worst_line tally.worst)))

-- room for any report: a line for each number, and four others
abbrev pub report_room : ℕ
report_room = 30 + 32 * numbers + 27 + 29 + 49
