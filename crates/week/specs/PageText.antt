-- The week page, byte for byte (02's Req 01). Assumes nothing.
use Rattle.std.specs.Prelude.{List, [], ◌∷◌, ◌++◌, ℕ, zero, suc}
use Rattle.model.specs.Schedule.{Row}
use Rattle.text.specs.Lines.{ascii, aligned}
use Rattle.week.specs.Days.{server_days, day_sums, line_sum}

-- figures, each in 8 columns
unfoldable pub cells : List ℕ → List ℕ
cells [] = []
cells (n ∷ ns) = aligned 8 n ++ cells ns

-- a line: its head, its figures, their sum in 9 columns, a newline
unfoldable pub week_line : List ℕ → List ℕ → List ℕ
week_line head figures = head ++ (cells figures ++ (aligned 9 (line_sum figures) ++ ascii "\n"))

-- the lines of the servers below a count, each headed by its number in 2 columns
unfoldable pub server_lines : (ℕ → List ℕ) → ℕ → List ℕ
server_lines days zero = []
server_lines days (suc y) = server_lines days y ++ week_line (aligned 2 y) (days y)

-- these lines, and one headed by two spaces with the sums of each day
unfoldable pub page_lines : (ℕ → List ℕ) → List ℕ → ℕ → List ℕ
page_lines days sums count = server_lines days count ++ week_line (ascii "  ") sums

-- the page of a schedule, over the servers below a count
unfoldable pub page_text : List Row → ℕ → List ℕ
page_text rows count = page_lines (server_days rows) (day_sums rows count) count
