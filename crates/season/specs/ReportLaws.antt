-- The report as it is written, line by line, and how long it is.
use Rattle.std.specs.Prelude.{List, [], ◌∷◌, ◌≢◌, ℕ, zero, suc, ◌*◌, ◌^◌, ◌≤◌, ◌<◌, length, get_or, take, Ok, Err}
use Rattle.std.proofs.Common.{inl, inr, sym, length-append, eq-eqb, ne_eqb}
use Rattle.std.proofs.Math.Path.{◌≡◌}
use native.Mathlib.Omega.{arith}
use Rattle.base.specs.Choice.{same_or_not}
use Rattle.base.specs.declared.Refusal.{Refusal}
use Rattle.text.specs.Answers.{room_verdict, printed, text_left}
use Rattle.text.specs.AnswerLaws.{room_passed}
use Rattle.text.specs.LineLaws.{bare_length, number_length, figure_length}
use Rattle.text.specs.Lines.{ascii, figure_line}
use Rattle.text.specs.Page.{Page, added}
use Rattle.text.specs.PageLaws.{added_append}
use Rattle.text.specs.PrintedLaws.{printed_shown}
use Rattle.text.specs.RefusalText.{shown}
use Rattle.season.specs.declared.Tally.{Tally}
use Rattle.season.specs.declared.Worst.{Worst}
use Rattle.season.specs.ReportText.{refused_line, refused_lines, worst_line, report_text, report_room}
use Rattle.season.specs.Tallies.{numbers}

-- ---- its lines

-- a number that refused none has no line, any other has one
pub refused_none : (n count : ℕ) → count ≡ 0 → refused_line n count ≡ []
unfolding refused_line
refused_none n count e = rw (eq-eqb _ _ e)

pub refused_some : (n count : ℕ) → count ≢ 0 → refused_line n count ≡ figure_line (ascii "refused") (n ∷ count ∷ [])
unfolding refused_line
refused_some n count h = rw (ne_eqb _ _ h)

-- a worst log at place 0 has no line, any other has one
pub worst_none : (w : Worst) → w.place ≡ 0 → worst_line w ≡ []
unfolding worst_line
worst_none w e = rw (eq-eqb _ _ e)

pub worst_some : (w : Worst) → w.place ≢ 0 → worst_line w ≡ figure_line (ascii "worst") (w.place ∷ w.running ∷ w.least ∷ [])
unfolding worst_line
worst_some w h = rw (ne_eqb _ _ h)

-- the line of one more number
pub lines_next : (counts : List ℕ) (k : ℕ) (p : Page)
    → added (refused_line k (get_or counts k 0)) (added (refused_lines counts k) p) ≡ added (refused_lines counts (suc k)) p
unfolding refused_lines
lines_next counts k p = sym (added_append (refused_lines counts k) (refused_line k (get_or counts k 0)) p)

-- all lines
pub report_parts : (tally : Tally) (p : Page)
    → added (worst_line tally.worst)
    (added (figure_line (ascii "running") (tally.running ∷ []))
    (added (figure_line (ascii "least") (tally.least ∷ []))
    (added (refused_lines tally.refused numbers)
    (added (figure_line (ascii "accepted") (tally.accepted ∷ [])) p))))
    ≡ added (report_text tally) p
unfolding report_text
report_parts tally p = simp added_append

-- ---- its length

-- a number below 100 has at most 2 digits, a count at most 20
refused_length : (n count : ℕ) → n < 100 → count < 2 ^ 64 → length (refused_line n count) ≤ 32
unfolding ascii
refused_length n count h k =
    elim (same_or_not count 0) [
      | inl e ↦ rw (refused_none n count e) (omega arith)
      | inr e ↦
          rw (refused_some n count e)
          (omega (
            arith,
            number_length (ascii "refused") (count ∷ []) n 1 (omega arith),
            figure_length (ascii "refused") (count ∷ []) (k, tt),
          ))
    ]

-- the lines of the numbers below k
lines_length : (counts : List ℕ) (k : ℕ) → k ≤ 100 → ((n : ℕ) → n < k → get_or counts n 0 < 2 ^ 64)
    → length (refused_lines counts k) ≤ 32 * k
unfolding refused_lines
lines_length counts zero h w = omega arith
lines_length counts (suc k) h w =
    simp length-append
    (omega (
      arith,
      lines_length counts k (omega arith) (λ n l. w n (omega arith)),
      refused_length k (get_or counts k 0) (omega arith) (w k (omega arith)),
    ))

-- a place has at most 20 digits, a cost at most 10
worst_length : (w : Worst) → w.place < 2 ^ 64 → w.running < 2 ^ 32 → w.least < 2 ^ 32 → length (worst_line w) ≤ 49
unfolding ascii
worst_length w p r l =
    elim (same_or_not w.place 0) [
      | inl e ↦ rw (worst_none w e) (omega arith)
      | inr e ↦
          rw (worst_some w e)
          (omega (
            arith,
            number_length (ascii "worst") (w.running ∷ w.least ∷ []) w.place 19 (omega arith),
            number_length (ascii "worst") (w.least ∷ []) w.running 9 (omega arith),
            number_length (ascii "worst") [] w.least 9 (omega arith),
            bare_length (ascii "worst"),
          ))
    ]

-- the report of any tally fits its room
pub report_length : (tally : Tally) → tally.accepted < 2 ^ 64 → ((n : ℕ) → n < numbers → get_or tally.refused n 0 < 2 ^ 64)
    → tally.least < 2 ^ 64 → tally.running < 2 ^ 64
    → tally.worst.place < 2 ^ 64 → tally.worst.running < 2 ^ 32 → tally.worst.least < 2 ^ 32
    → length (report_text tally) ≤ report_room
unfolding report_text ascii
report_length tally a c l r p x y =
    simp length-append
    (omega (
      arith,
      figure_length (ascii "accepted") (tally.accepted ∷ []) (a, tt),
      lines_length tally.refused numbers (omega arith) c,
      figure_length (ascii "least") (tally.least ∷ []) (l, tt),
      figure_length (ascii "running") (tally.running ∷ []) (r, tt),
      worst_length tally.worst p x y,
    ))

-- ---- a report in a text that has room for any

module _ (tally : Tally) (text : List ℕ) (fits : length (report_text tally) ≤ report_room) (room : report_room ≤ length text) where
  passes : room_verdict (report_text tally) (length text) ≡ Ok tt
  passes = room_passed (report_text tally) (length text) (omega arith)

  -- it stands at the front
  pub report_stands : (n : ℕ) (text' : List ℕ) → printed (room_verdict (report_text tally) (length text)) (report_text tally) ≡ Ok n
      → text' ≡ text_left (report_text tally) text → (n ≤ length text') × (take n text' ≡ report_text tally)
  unfolding shown
  report_stands n text' e f = printed_shown (Ok tt) (report_text tally) text (λ z. omega arith) n text' e f

  -- and is not refused
  pub report_prints : (r : Refusal) → printed (room_verdict (report_text tally) (length text)) (report_text tally) ≡ Err r → ⊥
  unfolding printed
  report_prints r e = let z : Ok (length (report_text tally)) ≡ Err r = rw passes at e in let z : ◌≡◌ {A = ℕ} 0 1 = cc in omega arith
