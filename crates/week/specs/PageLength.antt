-- How long a page is: no figure passes its column's width, so every line has 68 bytes.
use Rattle.std.specs.Prelude.{List, [], ◌∷◌, ◌≡◌, refl, ℕ, zero, suc, pred, ◌*◌, ◌^◌, ◌≤◌, ◌<◌, length}
use Rattle.std.proofs.Common.{ap, ◌∙◌, arith, length-append}
use Rattle.base.specs.Lists.{build}
use Rattle.model.specs.Schedule.{Row}
use Rattle.model.specs.Sums.{sum}
use Rattle.text.specs.AlignedLaws.{aligned_length}
use Rattle.text.specs.Lines.{ascii, aligned}
use Rattle.week.specs.Days.{week_days, cell, server_days, day_sums, line_sum}
use Rattle.week.specs.DayLaws.{cell_most}
use Rattle.week.specs.LineLaws.{cells_append}
use Rattle.week.specs.PageText.{cells, week_line, server_lines, page_lines, page_text}
use Rattle.week.specs.WeekSums.{server_sum_most, day_most, corner_most}

-- the bytes of a line, and room for any page: a line for each of 64 servers, and one for the sums
abbrev pub line_room : ℕ
line_room = 68

abbrev pub page_room : ℕ
page_room = line_room * 65

-- figures that fit their columns
cells_length : (n : ℕ) (f : ℕ → ℕ) → ((i : ℕ) → f i < 10 ^ 8) → length (cells (build n f)) ≡ 8 * n
unfolding cells build
cells_length zero f h = refl
cells_length (suc n) f h =
    ap length (cells_append (build n f) (f n ∷ []))
    ∙ simp length-append (omega (arith, cells_length n f h, aligned_length 7 (f n) (h n)))

-- a line of such figures
line_length : (head : List ℕ) (f : ℕ → ℕ) → length head ≡ 2 → ((i : ℕ) → f i < 10 ^ 8) → line_sum (build week_days f) < 10 ^ 9
    → length (week_line head (build week_days f)) ≡ line_room
unfolding week_line ascii
line_length head f e h k =
    simp length-append (omega (arith, cells_length week_days f h, aligned_length 8 (line_sum (build week_days f)) k))

-- a server's line
server_line_length : (rows : List Row) (y : ℕ) → y < 100 → length (week_line (aligned 2 y) (server_days rows y)) ≡ line_room
unfolding server_days
server_line_length rows y h =
    line_length (aligned 2 y) (cell rows y) (aligned_length 1 y (omega arith)) (λ d. omega (arith, cell_most rows y d)) (omega (arith, server_sum_most rows y))

-- the servers' lines
lines_length : (rows : List Row) (count : ℕ) → count ≤ 64 → length (server_lines (server_days rows) count) ≡ line_room * count
unfolding server_lines
lines_length rows zero h = refl
lines_length rows (suc y) h = simp length-append (omega (arith, lines_length rows y (omega arith), server_line_length rows y (omega arith)))

-- the last line
sums_line_length : (rows : List Row) (count : ℕ) → count ≤ 64 → length (week_line (ascii "  ") (day_sums rows count)) ≡ line_room
unfolding day_sums ascii
sums_line_length rows count h =
    line_length (32 ∷ 32 ∷ []) (λ d. sum count (λ i. cell rows (pred i) d)) refl (λ d. omega (arith, day_most rows count d)) (omega (arith, corner_most rows count))

-- the page
pub page_length : (rows : List Row) (count : ℕ) → count ≤ 64 → length (page_text rows count) ≡ line_room * suc count
unfolding page_text page_lines
page_length rows count h = simp length-append (omega (arith, lines_length rows count h, sums_line_length rows count h))
