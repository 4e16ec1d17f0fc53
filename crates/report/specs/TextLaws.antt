-- The lines of the sheet as they are written, part by part, and how long they are.
use Rattle.std.specs.Prelude.{◌≡◌, [], ◌∷◌, ℕ, suc, ◌*◌, ◌^◌, ◌≤◌, ◌<◌, length}
use Rattle.std.proofs.Common.{sym, arith, length-append}
use Rattle.request_log.specs.Sizes.{most_requests}
use Rattle.text.specs.DecimalLaws.{decimal_length}
use Rattle.text.specs.LineLaws.{figure_length}
use Rattle.text.specs.Lines.{ascii, line, line_end, figure_line}
use Rattle.text.specs.Page.{Page, added}
use Rattle.text.specs.PageLaws.{added_append}
use Rattle.report.specs.declared.Entry.{Entry}
use Rattle.report.specs.Sizes.{entry_room, sheet_room}
use Rattle.report.specs.Text.{entry_line, entry_lines, heading, sheet_text}

-- a request's line fits its room
pub entry_length : (e : Entry) → e.number < 2 ^ 64 → e.second < 2 ^ 64 → e.server < 2 ^ 64 → e.least < 2 ^ 64 → e.cost < 2 ^ 64
    → length (entry_line e) ≤ entry_room
unfolding entry_line line line_end ascii
entry_length e a b c d f =
    simp length-append
    (omega (
      arith,
      decimal_length 19 e.number (omega arith),
      decimal_length 19 e.second (omega arith),
      decimal_length 19 e.server (omega arith),
      decimal_length 19 e.least (omega arith),
      decimal_length 19 e.cost (omega arith),
    ))

-- one more line
pub lines_next : (e : ℕ → Entry) (k : ℕ) (p : Page) → added (entry_line (e k)) (added (entry_lines e k) p) ≡ added (entry_lines e (suc k)) p
unfolding entry_lines
lines_next e k p = sym (added_append (entry_lines e k) (entry_line (e k)) p)

pub lines_longer : (e : ℕ → Entry) (k : ℕ) → length (entry_lines e k) ≤ entry_room * k → length (entry_line (e k)) ≤ entry_room
    → length (entry_lines e (suc k)) ≤ entry_room * suc k
unfolding entry_lines
lines_longer e k h l = simp length-append (omega arith)

-- the sheet of any log's requests fits its room
pub sheet_length : (e : ℕ → Entry) (n rows closing : ℕ) → n ≤ most_requests → rows < 2 ^ 64 → closing < 2 ^ 64
    → length (entry_lines e n) ≤ entry_room * n → length (sheet_text e n rows closing) ≤ sheet_room
unfolding sheet_text heading ascii
sheet_length e n rows closing h l c k =
    simp length-append (omega (arith, figure_length (ascii "rows") (rows ∷ []) (l, tt), figure_length (ascii "close") (closing ∷ []) (c, tt)))

-- its parts
pub sheet_parts : (e : ℕ → Entry) (n rows closing : ℕ) (p : Page)
    → added (figure_line (ascii "close") (closing ∷ [])) (added (figure_line (ascii "rows") (rows ∷ [])) (added (entry_lines e n) (added heading p)))
    ≡ added (sheet_text e n rows closing) p
unfolding sheet_text
sheet_parts e n rows closing p = simp added_append
