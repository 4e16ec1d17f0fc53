-- A line with a word and numbers as it is written, field by field, and how long it is.
use Rattle.std.specs.Prelude.{List, [], ◌∷◌, ◌++◌, map, ◌≡◌, ℕ, suc, ◌+◌, ◌*◌, ◌^◌, ◌≤◌, ◌<◌, length, get_or, drop}
use Rattle.std.proofs.Common.{sym, arith, length-append, drop-cons}
use Rattle.text.specs.Decimal.{decimal}
use Rattle.text.specs.DecimalLaws.{decimal_length}
use Rattle.text.specs.Lines.{ascii, line, line_end, figure_line}
use Rattle.text.specs.Page.{Page, added}
use Rattle.text.specs.PageLaws.{added_append}

-- the word, and then the fields after it
pub figure_parts : (word ns : List ℕ) (p : Page) → added (line_end (map decimal ns)) (added word p) ≡ added (figure_line word ns) p
unfolding figure_line line
figure_parts word ns p = sym (added_append word (line_end (map decimal ns)) p)

-- the next number, and then those after it
pub fields_next : (ns : List ℕ) (i : ℕ) (p : Page) → i < length ns
    → added (line_end (map decimal (drop (suc i) ns))) (added (ascii " " ++ decimal (get_or ns i 0)) p) ≡ added (line_end (map decimal (drop i ns))) p
unfolding line_end
fields_next ns i p h = rw (drop-cons ns i 0 h) (simp added_append)

-- a word by itself has its newline
pub bare_length : (word : List ℕ) → length (figure_line word []) ≡ length word + 1
unfolding figure_line line line_end ascii
bare_length word = length-append word _

-- a number of at most k + 1 digits has these and its space
pub number_length : (word ns : List ℕ) (n k : ℕ) → n < 10 ^ suc k → length (figure_line word (n ∷ ns)) ≤ length (figure_line word ns) + (k + 2)
unfolding figure_line line line_end ascii
number_length word ns n k h = simp length-append (omega (arith, decimal_length k n h))

-- numbers of 64 bits
abbrev pub Wide : List ℕ → Type 0
Wide [] = Unit {0}
Wide (n ∷ ns) = (n < 2 ^ 64) × Wide ns

-- each has at most 20 digits
pub figure_length : (word ns : List ℕ) → Wide ns → length (figure_line word ns) ≤ length word + 21 * length ns + 1
figure_length word [] w = omega (arith, bare_length word)
figure_length word (n ∷ ns) (h, w) = omega (arith, number_length word ns n 19 (omega arith), figure_length word ns w)
