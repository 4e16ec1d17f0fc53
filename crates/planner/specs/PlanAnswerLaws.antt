-- What the planner writes for marks that letters spell is what it answers.
use mathlib.Core.List.{List, [], ◌∷◌, ◌++◌}
use Rattle.base.specs.declared.Refusal.{Refusal}
use Rattle.std.specs.Prelude.{◌≡◌, refl, get_or, take, drop, Ok, Err}
use Rattle.std.proofs.Math.Path.{ap}
use Rattle.std.proofs.Common.{◌∙◌, arith, length-take-le, ltb-false}
use Prim.Native.Nat.{ℕ, ◌+◌, ◌*◌, ◌≤◌, min}
use Rattle.std.proofs.Math.ListN.{length}
use Rattle.base.specs.Refusals.{first, short}
use Rattle.base.specs.RefusalLaws.{first_after_ok, first_after_err, first_passed}
use Rattle.base.specs.Lists.{build, build_at, splice, splice_fits, cleared}
use Rattle.base.specs.Lent.{lent}
use Rattle.base.specs.LentLaws.{lent_front}
use Rattle.request_log.specs.Sizes.{most_requests}
use Rattle.model.specs.Requests.{Within}
use Rattle.model.specs.Schedule.{Row}
use Rattle.model.specs.RowForm.{flat}
use Rattle.model.proofs.FlatLaws.{flat_length}
use Rattle.model.proofs.TableLists.{at}
use Rattle.planner.specs.Sizes.{places}
use Rattle.planner.specs.HolderWords.{gap_word, marking}
use Rattle.planner.specs.Asked.{asks}
use Rattle.planner.specs.WordRows.{word_rows}
use Rattle.planner.specs.WordRowLaws.{Right, gap_words_right, word_rows_right}
use Rattle.planner.specs.RowCount.{row_count}
use Rattle.planner.specs.RowCountLaws.{row_count_right}
use Rattle.planner.specs.RowWriting.{put_rows, put_rows_front}
use Rattle.planner.specs.PlanAnswer.{Marked, Answered, marked_rows, lengths_verdict, answer_of}
use Rattle.planner.specs.Outcome.{Outcome}

-- the words as the code fills them in
abbrev filled : ℕ → List ℕ → List ℕ → List ℕ
filled n servers letters = build places (gap_word (at servers) (marking letters) (min n most_requests))

module _ (n count : ℕ) (seconds servers letters : List ℕ) (d : Marked n count seconds servers letters) where
  -- they are right
  right : Right (asks seconds servers) (marking letters) n (filled n servers letters)
  unfolding Within
  right =
      let e : min n most_requests ≡ n = omega (arith, d.few_requests) in
      rw e
      (gap_words_right d.at_rates (asks seconds servers) (marking letters) (marking letters) n places d.legal_marks (λ i h. omega (arith, d.within i h, d.few_servers)) (λ i a b. refl) (omega (arith, d.few_requests)))

  -- no word has place 0
  none_first : get_or (filled n servers letters) 0 0 ≡ 0
  unfolding gap_word
  none_first = build_at places (gap_word (at servers) (marking letters) (min n most_requests)) 0 0 (omega arith)

  -- the rows by these words, and their number
  module _ (words : List ℕ) (e : words ≡ filled n servers letters) where
    pub filled_rows : word_rows (asks seconds servers) words count (marking letters) n ≡ marked_rows n count seconds servers letters
    unfolding marked_rows
    filled_rows = rw e (word_rows_right (asks seconds servers) (marking letters) n (filled n servers letters) right (marking letters) count (λ i a b. refl) d.within d.few_servers)

    pub filled_count : row_count words (marking letters) n ≡ length (marked_rows n count seconds servers letters)
    unfolding marked_rows
    filled_count = rw e (row_count_right (asks seconds servers) (marking letters) n count (filled n servers letters) right d.within d.few_servers (marking letters) (λ i a b. refl) none_first)

-- the marks, copied and zeroed beyond
pub marks_lent : (n : ℕ) (letters o : List ℕ) → n ≤ length letters → n ≤ length o → cleared n (splice 0 (take n letters) o) ≡ lent (Ok tt) (take n letters) o
marks_lent n letters o a b =
    let l : length (take n letters) ≡ n = length-take-le n letters a in
    let e : splice 0 (take n letters) o ≡ take n letters ++ drop n o =
    splice_fits 0 (take n letters) o (omega arith) ∙ ap (λ (i : ℕ). take n letters ++ drop i o) (let z : 0 + length (take n letters) ≡ n = omega arith in z) in
    ap (cleared n) e ∙ lent_front (take n letters) o n l b

-- what 31 does not refuse has room
pub room : (n m : ℕ) → first (short n m ∷ []) ≡ Ok tt → n ≤ m
room n m e = ltb-false m n ((first_passed (short n m ∷ [])).0 e 0)

-- the rows, put in and zeroed beyond
pub rows_lent : (found : List Row) (o : List ℕ) → 4 * length found ≤ length o → cleared (4 * length found) (put_rows 0 found o) ≡ lent (Ok tt) (flat found) o
rows_lent found o h = ap (cleared (4 * length found)) (put_rows_front found o h) ∙ lent_front (flat found) o (4 * length found) (flat_length found) h

-- the answer by the lengths: the marks are looked at before the rows
module _ (found : List Row) (n cost : ℕ) (letters marks rows : List ℕ) where
  -- what comes of a refusal
  refused : (e : Refusal) (r : Outcome) → lengths_verdict found n marks rows ≡ Err e → r ≡ Err e → Answered found n cost letters marks rows r marks rows
  unfolding answer_of lent
  refused e r v f = record { answers = rw v f; marks_left = rw v; rows_left = rw v }

  pub marks_short : (e : Refusal) (r : Outcome) → first (short n (length marks) ∷ []) ≡ Err e → r ≡ Err e → Answered found n cost letters marks rows r marks rows
  unfolding lengths_verdict
  marks_short e r v f = refused e r (first_after_err (short n (length marks)) (short (length (flat found)) (length rows) ∷ []) v) f

  -- the verdict once the marks fit
  marks_fit : first (short n (length marks) ∷ []) ≡ Ok tt → lengths_verdict found n marks rows ≡ first (short (4 * length found) (length rows) ∷ [])
  unfolding lengths_verdict
  marks_fit h =
      first_after_ok (short n (length marks)) (short (length (flat found)) (length rows) ∷ []) h
      ∙ ap (λ (k : ℕ). first (short k (length rows) ∷ [])) (flat_length found)

  pub rows_short : (e : Refusal) (r : Outcome) → first (short n (length marks) ∷ []) ≡ Ok tt → first (short (4 * length found) (length rows) ∷ []) ≡ Err e → r ≡ Err e
      → Answered found n cost letters marks rows r marks rows
  rows_short e r a b f = refused e r (marks_fit a ∙ b) f

  pub both_fit : (r : Outcome) → length letters ≡ n → first (short n (length marks) ∷ []) ≡ Ok tt → first (short (4 * length found) (length rows) ∷ []) ≡ Ok tt
      → r ≡ answer_of (Ok tt) cost (length found)
      → Answered found n cost letters marks rows r (cleared n (letters ++ drop n marks)) (cleared (4 * length found) (put_rows 0 found rows))
  both_fit r l a b e =
      let v : lengths_verdict found n marks rows ≡ Ok tt = marks_fit a ∙ b in
      record {
        answers = rw v e;
        marks_left = rw v (lent_front letters marks n l (room n (length marks) a));
        rows_left = rw v (rows_lent found rows (room (4 * length found) (length rows) b));
      }
