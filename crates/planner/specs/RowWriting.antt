-- Rows put into a list of numbers, one after the other; a row that does not fit is left out. Assumes nothing.
use Rattle.std.specs.Prelude.{Bool, true, false, List, [], ◌∷◌, ◌++◌, ◌≡◌, refl, ℕ, suc, ◌+◌, ◌*◌, ◌≤◌, length, take, drop, set, Option, None, Some}
use Rattle.std.proofs.Common.{append_assoc, sym, ap, ap₂, ◌∙◌, arith, length-append, length-take, take-append-drop, take_at, drop_at, drop-drop}
use Rattle.std.proofs.lemmas.List.Edits.{sets-eq}
use Rattle.base.specs.Choice.{pick}
use Rattle.base.specs.Lists.{splice, splice_fits, splice_length}
use Rattle.model.specs.Schedule.{Row, hold, move, transfer, upload}
use Rattle.model.specs.RowForm.{numbers, flat}

-- the rows put in from row k on
unfoldable pub put_rows : ℕ → List Row → List ℕ → List ℕ
put_rows k [] o = o
put_rows k (r ∷ rows) o = put_rows (suc k) rows (splice (4 * k) (numbers r) o)

-- a row is four numbers
numbers_length : (r : Row) → length (numbers r) ≡ 4
unfolding numbers
numbers_length (hold x a b) = refl
numbers_length (move (transfer y x τ)) = refl
numbers_length (move (upload x τ)) = refl

-- the length stays
pub put_rows_length : (k : ℕ) (rows : List Row) (o : List ℕ) → length (put_rows k rows o) ≡ length o
unfolding put_rows
put_rows_length k [] o = refl
put_rows_length k (r ∷ rows) o = put_rows_length (suc k) rows (splice (4 * k) (numbers r) o) ∙ splice_length (4 * k) (numbers r) o

-- two lists of rows, one after the other
pub put_rows_append : (k : ℕ) (xs ys : List Row) (o : List ℕ) → put_rows k (xs ++ ys) o ≡ put_rows (k + length xs) ys (put_rows k xs o)
unfolding put_rows
put_rows_append k [] ys o = ap (λ (j : ℕ). put_rows j ys o) (let e : k ≡ k + 0 = omega arith in e)
put_rows_append k (x ∷ xs) ys o =
    put_rows_append (suc k) xs ys (splice (4 * k) (numbers x) o)
    ∙ ap (λ (j : ℕ). put_rows j ys (put_rows (suc k) xs (splice (4 * k) (numbers x) o))) (let e : suc k + length xs ≡ k + suc (length xs) = omega arith in e)

-- where all rows fit, their numbers stand from row k on
put_rows_fit : (rows : List Row) (k : ℕ) (o : List ℕ) → 4 * (k + length rows) ≤ length o
    → put_rows k rows o ≡ take (4 * k) o ++ (flat rows ++ drop (4 * (k + length rows)) o)
unfolding put_rows flat
put_rows_fit [] k o h = let e : 4 * (k + 0) ≡ 4 * k = omega arith in rw e (sym (take-append-drop (4 * k) o))
put_rows_fit (r ∷ rows) k o h = go (put_rows_fit rows (suc k) (splice (4 * k) (numbers r) o))
  where
    front : List ℕ
    front = take (4 * k) o ++ numbers r

    back : List ℕ
    back = drop (4 * k + length (numbers r)) o

    whole : List ℕ
    whole = splice (4 * k) (numbers r) o

    parts : whole ≡ front ++ back
    parts = splice_fits (4 * k) (numbers r) o (omega (arith, numbers_length r)) ∙ sym (append_assoc (take (4 * k) o) (numbers r) back)

    front_length : length front ≡ 4 * suc k
    front_length = simp (length-append, length-take) (omega (arith, numbers_length r))

    before : take (4 * suc k) whole ≡ front
    before = ap (take (4 * suc k)) parts ∙ take_at front back (4 * suc k) front_length

    after : drop (4 * (suc k + length rows)) whole ≡ drop (4 * (k + suc (length rows))) o
    after =
        ap (λ (j : ℕ). drop j whole) (let e : 4 * (suc k + length rows) ≡ 4 * suc k + 4 * length rows = omega arith in e)
        ∙ sym (drop-drop (4 * length rows) (4 * suc k) whole)
        ∙ ap (drop (4 * length rows)) (ap (drop (4 * suc k)) parts ∙ drop_at front back (4 * suc k) front_length)
        ∙ drop-drop (4 * length rows) (4 * k + length (numbers r)) o
        ∙ ap (λ (j : ℕ). drop j o) (let e : 4 * k + length (numbers r) + 4 * length rows ≡ 4 * (k + suc (length rows)) = omega (arith, numbers_length r) in e)

    go : (4 * (suc k + length rows) ≤ length whole → put_rows (suc k) rows whole ≡ take (4 * suc k) whole ++ (flat rows ++ drop (4 * (suc k + length rows)) whole))
        → put_rows (suc k) rows whole ≡ take (4 * k) o ++ ((numbers r ++ flat rows) ++ drop (4 * (k + suc (length rows))) o)
    go ih =
        ih (omega (arith, splice_length (4 * k) (numbers r) o))
        ∙ ap₂ (λ (x y : List ℕ). x ++ (flat rows ++ y)) before after
        ∙ simp append_assoc

-- the numbers of rows that fit stand at the front of a list
pub put_rows_front : (rows : List Row) (o : List ℕ) → 4 * length rows ≤ length o → put_rows 0 rows o ≡ flat rows ++ drop (4 * length rows) o
put_rows_front rows o h =
    let e : 0 + length rows ≡ length rows = omega arith in
    rw e at (put_rows_fit rows 0 o (omega arith))

-- what a list holds, and the number of the next row, after rows put in from row k on
abbrev pub Put : ℕ → List Row → List ℕ → ℕ → List ℕ → Type 0
Put k rows o next p = (next ≡ k + length rows) × (p ≡ put_rows k rows o)

-- after none
pub put_none : (k : ℕ) (o : List ℕ) → Put k [] o k o
unfolding put_rows
put_none k o = (omega arith, refl)

-- after more
pub put_next : (k : ℕ) (xs ys : List Row) (o : List ℕ) (b c : ℕ) (p r : List ℕ) → Put k xs o b p → c ≡ b + length ys → r ≡ put_rows b ys p → Put k (xs ++ ys) o c r
put_next k xs ys o b c p r h e f =
    (omega (arith, length-append xs ys), f ∙ ap₂ (λ (j : ℕ) (l : List ℕ). put_rows j ys l) h.0 h.1 ∙ sym (put_rows_append k xs ys o))

-- a list of rows that is empty, and one of one row
pub put_empty : (k : ℕ) (rows : List Row) (o : List ℕ) → rows ≡ [] → Put k rows o k o
put_empty k rows o e = rw e (put_none k o)

pub put_single : (k : ℕ) (rows : List Row) (r : Row) (o p : List ℕ) → rows ≡ r ∷ [] → p ≡ splice (4 * k) (numbers r) o → Put k rows o (k + 1) p
unfolding put_rows
put_single k rows r o p e h = rw e (omega arith, h)

-- four numbers set one after the other
pub set_four : (o : List ℕ) (i a b c d : ℕ) → i + 4 ≤ length o
    → set (set (set (set o i a) (i + 1) b) (i + 2) c) (i + 3) d ≡ splice i (a ∷ b ∷ c ∷ d ∷ []) o
set_four o i a b c d h =
    let row : List ℕ = a ∷ b ∷ c ∷ d ∷ [] in
    let e₁ : i + 1 ≡ suc i = omega arith in
    let e₂ : i + 2 ≡ suc (suc i) = omega arith in
    let e₃ : i + 3 ≡ suc (suc (suc i)) = omega arith in
    rw (e₁, e₂, e₃)
    (sets-eq row o i h ∙ append_assoc (take i o) row (drop (i + length row) o) ∙ sym (splice_fits i row o h))

-- the numbers of the row that there is, of none or one
abbrev pub row_given : List Row → Option (List ℕ)
row_given [] = None
row_given (r ∷ rows) = Some (numbers r)

-- how many rows there are
abbrev pub rows_in : Option (List ℕ) → ℕ
rows_in None = 0
rows_in (Some row) = 1

-- the row put in as row k, if there is one
abbrev pub put_given : ℕ → Option (List ℕ) → List ℕ → List ℕ
put_given k None o = o
put_given k (Some row) o = splice (4 * k) row o

-- after one row more, if there is one
pub put_more : (k : ℕ) (xs : List Row) (b : Bool) (r : Row) (o : List ℕ) (next : ℕ) (p : List ℕ) → Put k xs o next p
    → Put k (xs ++ pick b (r ∷ []) []) o (next + rows_in (row_given (pick b (r ∷ []) []))) (put_given next (row_given (pick b (r ∷ []) [])) p)
unfolding put_rows
put_more k xs true r o next p h = put_next k xs (r ∷ []) o next (next + 1) p (splice (4 * next) (numbers r) p) h refl refl
put_more k xs false r o next p h = put_next k xs [] o next (next + 0) p p h refl refl
