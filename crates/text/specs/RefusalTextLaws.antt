-- The line of a refusal as it is written, part by part, and how long it is.
use Rattle.std.specs.Prelude.{◌++◌, ◌≡◌, ℕ, ◌^◌, ◌≤◌, ◌<◌, length}
use Rattle.std.proofs.Common.{inl, inr, ap, arith, length-append, le-leb}
use Rattle.std.proofs.lemmas.Bool.{lt-leb}
use Rattle.base.specs.Choice.{le_or_lt}
use Rattle.base.specs.declared.Refusal.{Refusal}
use Rattle.text.specs.Decimal.{decimal}
use Rattle.text.specs.DecimalLaws.{decimal_length}
use Rattle.text.specs.Lines.{ascii, line, line_end}
use Rattle.text.specs.Page.{Page, added}
use Rattle.text.specs.PageLaws.{added_append}
use Rattle.text.specs.RefusalText.{list_word, refusal_text, refusal_room}
use Rattle.base.specs.Reasons.{number}

-- its parts
pub refusal_parts : (r : Refusal) (p : Page)
    → added (ascii "\n")
    (added (ascii " " ++ decimal r.place)
    (added (ascii " place")
    (added (ascii " " ++ decimal (number r.reason)) (added (list_word (number r.reason)) (added (ascii "refused ") p)))))
    ≡ added (refusal_text r) p
unfolding refusal_text line line_end ascii added
refusal_parts r p = simp added_append

-- which list a number is in
pub below_state : (n : ℕ) → n < 31 → list_word n ≡ ascii "input"
unfolding list_word
below_state n h = rw (lt-leb _ _ h)

pub in_state : (n : ℕ) → 31 ≤ n → n ≤ 35 → list_word n ≡ ascii "state"
unfolding list_word
in_state n h l = rw (le-leb _ _ h, le-leb _ _ l)

pub above_state : (n : ℕ) → 35 < n → list_word n ≡ ascii "input"
unfolding list_word
above_state n h = rw (le-leb 31 n (omega arith), lt-leb _ _ h)

-- a list's name has five letters
list_length : (n : ℕ) → length (list_word n) ≡ 5
unfolding ascii
list_length n =
    elim (le_or_lt 31 n) [
      | inl h ↦ elim (le_or_lt n 35) [ inl l ↦ ap length (in_state n h l) | inr l ↦ ap length (above_state n l) ]
      | inr h ↦ ap length (below_state n h)
    ]

-- the line fits its room
pub refusal_length : (r : Refusal) → number r.reason < 2 ^ 64 → r.place < 2 ^ 64 → length (refusal_text r) ≤ refusal_room
unfolding refusal_text line line_end ascii
refusal_length r h l =
    simp length-append (omega (arith, list_length (number r.reason), decimal_length 19 (number r.reason) (omega arith), decimal_length 19 r.place (omega arith)))
