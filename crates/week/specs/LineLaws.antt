-- The lines of the page as they are written, part by part.
use Rattle.std.specs.Prelude.{List, [], ◌∷◌, ◌++◌, ◌≡◌, refl, ℕ, zero, suc, ◌+◌, ◌<◌, get_or, length, take}
use Rattle.std.proofs.Common.{append_assoc, sym, ap, ◌∙◌, arith, take-suc}
use Rattle.model.specs.Sums.{total}
use Rattle.model.proofs.SumLaws.{total_append}
use Rattle.text.specs.Lines.{ascii, aligned}
use Rattle.text.specs.Page.{Page, added}
use Rattle.text.specs.PageLaws.{added_append}
use Rattle.week.specs.Days.{line_sum}
use Rattle.week.specs.PageText.{cells, week_line, server_lines, page_lines}

-- figures and then others
pub cells_append : (xs ys : List ℕ) → cells (xs ++ ys) ≡ cells xs ++ cells ys
unfolding cells
cells_append [] ys = refl
cells_append (x ∷ xs) ys = ap (λ (l : List ℕ). aligned 8 x ++ l) (cells_append xs ys) ∙ sym (append_assoc (aligned 8 x) (cells xs) (cells ys))

-- one figure more
pub cells_next : (ns : List ℕ) (d : ℕ) (p : Page) → d < length ns → added (aligned 8 (get_or ns d 0)) (added (cells (take d ns)) p) ≡ added (cells (take (suc d) ns)) p
unfolding cells added
cells_next ns d p h =
    rw (take-suc ns d 0 h, cells_append (take d ns) (get_or ns d 0 ∷ [])) (simp added_append)

-- and its sum
pub sum_next : (ns : List ℕ) (d : ℕ) → d < length ns → line_sum (take (suc d) ns) ≡ line_sum (take d ns) + get_or ns d 0
unfolding line_sum total
sum_next ns d h = rw (take-suc ns d 0 h) (total_append (λ n. n) (take d ns) (get_or ns d 0 ∷ []) ∙ omega arith)

-- a line without its head
pub line_parts : (ns : List ℕ) (p : Page) → added (ascii "\n") (added (aligned 9 (line_sum ns)) (added (cells ns) p)) ≡ added (week_line [] ns) p
unfolding week_line added
line_parts ns p = simp added_append

-- the head before it
headed : (head ns : List ℕ) (p : Page) → added (week_line [] ns) (added head p) ≡ added (week_line head ns) p
unfolding week_line added
headed head ns p = simp added_append

-- one server more
pub lines_next : (days : ℕ → List ℕ) (y : ℕ) (p : Page)
    → added (week_line [] (days y)) (added (aligned 2 y) (added (server_lines days y) p)) ≡ added (server_lines days (suc y)) p
unfolding server_lines
lines_next days y p = headed (aligned 2 y) (days y) (added (server_lines days y) p) ∙ sym (added_append (server_lines days y) (week_line (aligned 2 y) (days y)) p)

-- the last line
pub page_parts : (days : ℕ → List ℕ) (sums : List ℕ) (count : ℕ) (p : Page)
    → added (week_line [] sums) (added (ascii "  ") (added (server_lines days count) p)) ≡ added (page_lines days sums count) p
unfolding page_lines
page_parts days sums count p =
    headed (ascii "  ") sums (added (server_lines days count) p) ∙ sym (added_append (server_lines days count) (week_line (ascii "  ") sums) p)

-- lines of the same figures are the same
pub lines_same : (f g : ℕ → List ℕ) (count : ℕ) → ((y : ℕ) → y < count → f y ≡ g y) → server_lines f count ≡ server_lines g count
unfolding server_lines
lines_same f g zero h = refl
lines_same f g (suc y) h = rw (lines_same f g y (λ k l. h k (omega arith)), h y (omega arith))
