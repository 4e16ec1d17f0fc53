-- The checker's conditions all fail if and only if the numbers are rows of four, well formed and feasible.
use Rattle.std.specs.Prelude.{Bool, ◌↔◌, ◌≡◌, refl, ℕ, zero, suc, ◌%◌, ◌≤◌, ◌<◌, eqb, length, Ok}
use Rattle.base.specs.declared.reasons.Reason.TheVariants as reason
use Rattle.std.proofs.Math.Bool.{true, false, not}
use mathlib.Core.List.{List, [], ◌∷◌, ◌++◌, Memᴰ}
use Rattle.std.proofs.Math.Path.{sym}
use Rattle.std.proofs.Common.{ap, ◌∙◌, arith}
use borrow.Author.Tests.{eqb-true, eqb-false, lt-ltb, ne_eqb, not-false}
use Rattle.base.specs.declared.reasons.Reason.{Reason}
use Rattle.base.specs.Choice.{either, not_both}
use Rattle.base.specs.Refusals.{Condition, refuse, first, each, nth}
use Rattle.base.specs.RefusalLaws.{first_failed, append_passed, each_passed, first_passed}
use Rattle.model.specs.Rates.{Rates}
use Rattle.base.specs.ChoiceLaws.{either_false}
use Rattle.model.specs.Requests.{Requests}
use Rattle.model.specs.Schedule.{Row, hold, move, transfer, upload, Stands, Backed, Feasible, cost_of}
use Rattle.model.specs.Standing.{stands}
use Rattle.model.proofs.StandingLaws.{stands_sound, stands_complete}
use Rattle.model.specs.RowForm.{flat, row_at, rows_of, fits, follows, well_formed}
use Rattle.model.proofs.RowLaws.{fits_move, row_member, member_row, Formed, formed, well_formed_of, ordered_follows, follows_ordered}
use Rattle.model.proofs.FlatLaws.{rows_of_flat, flat_length, flat_kinds, row_offers}
use Rattle.model.specs.Checking.{row_count, kind_of, misfits, misplaced, row_conditions, backed, copy_condition, serve_condition, form_conditions, schedule_conditions, check_cost, Scheduled}

-- ---- what each condition's failing says

-- the kind of row i fits, there is a request, and the row fits
pub record Fitting (p : Rates) (count : ℕ) (q : Requests) (n : ℕ) (ns : List ℕ) (i : ℕ) : Type 0 where
  pub kind : kind_of p ns i ≡ true
  pub asked : 0 < n
  pub fit : fits count (q.time n) (row_at ns i) ≡ true

module _ (p : Rates) (count : ℕ) (q : Requests) (n : ℕ) (ns : List ℕ) (i : ℕ) where
  fitting : misfits p count q n ns i ≡ false → Fitting p count q n ns i
  unfolding misfits
  fitting e =
      let fit = fits count (q.time n) (row_at ns i) in
      let (a, f) = either_false (not (kind_of p ns i)) (either (eqb n 0) (not fit)) e in
      let (b, c) = either_false (eqb n 0) (not fit) f in
      let some : n ≡ 0 → ⊥ = eqb-false n 0 b in
      record { kind = not-false (kind_of p ns i) a; asked = omega arith; fit = not-false fit c }

  fitting_not : Fitting p count q n ns i → misfits p count q n ns i ≡ false
  unfolding misfits
  fitting_not h = rw (h.kind, ne_eqb n 0 (omega arith), h.fit)

-- row i may follow the row before it, if there is one
placed : (ns : List ℕ) (i : ℕ) → misplaced ns (suc i) ≡ false → follows (row_at ns i) (row_at ns (suc i)) ≡ true
unfolding misplaced
placed ns i e = not-false (follows (row_at ns i) (row_at ns (suc i))) (rw (lt-ltb 0 (suc i) (omega arith)) at e)

placed_not : (ns : List ℕ) (i : ℕ) → ((j : ℕ) → i ≡ suc j → follows (row_at ns j) (row_at ns (suc j)) ≡ true) → misplaced ns i ≡ false
unfolding misplaced
placed_not ns zero h = refl
placed_not ns (suc j) h = rw (lt-ltb 0 (suc j) (omega arith), h j refl)

-- a condition alone
alone_passed : (r : Reason) (place : ℕ) (b : Bool) → b ≡ false → first (refuse r place b ∷ []) ≡ Ok tt
unfolding first
alone_passed r place b e = rw e

-- ---- all conditions fail

-- what all of them say
record Clear (p : Rates) (count : ℕ) (q : Requests) (n : ℕ) (ns : List ℕ) : Type 0 where
  whole : length ns % 4 ≡ 0
  fitting_at : (i : ℕ) → i < row_count ns → Fitting p count q n ns i
  placed_at : (i : ℕ) → suc i < row_count ns → follows (row_at ns i) (row_at ns (suc i)) ≡ true
  backed_at : (i : ℕ) → i < row_count ns → backed count (q.server 0) (rows_of ns) (row_at ns i) ≡ true
  served_at : (i : ℕ) → i < n → stands count (q.server 0) (rows_of ns) (q.server (suc i)) (q.time (suc i)) ≡ true

module _ (p : Rates) (count : ℕ) (q : Requests) (n : ℕ) (ns : List ℕ) where
  -- the conditions of the rows, of their copies, and of the requests
  abbrev of_rows : List Condition
  of_rows = each (row_conditions p count q n ns) (row_count ns)

  abbrev of_copies : List Condition
  of_copies = each (copy_condition count q ns) (row_count ns)

  abbrev of_requests : List Condition
  of_requests = each (serve_condition count q ns) n

  -- they all fail if and only if that holds
  clear : first (schedule_conditions p count q n ns) ≡ Ok tt → Clear p count q n ns
  unfolding schedule_conditions row_conditions copy_condition serve_condition
  clear e =
      record {
        whole = eqb-true (length ns % 4) 0 (not-false (eqb (length ns % 4) 0) four);
        fitting_at = λ i l. fitting p count q n ns i (row i l 0);
        placed_at = λ i l. placed ns i (row (suc i) l 1);
        backed_at = λ i l. not-false _ ((first_passed _).0 ((each_passed _ _).0 rest.0 i l) 0);
        served_at = λ i l. not-false _ ((first_passed _).0 ((each_passed _ _).0 rest.1 i l) 0);
      }
    where
      four : not (eqb (length ns % 4) 0) ≡ false
      four = (first_passed (schedule_conditions p count q n ns)).0 e 0

      rows : (first of_rows ≡ Ok tt) × (first (of_copies ++ of_requests) ≡ Ok tt)
      rows = (append_passed of_rows (of_copies ++ of_requests)).0 (sym (first_failed _ _ four) ∙ e)

      rest : (first of_copies ≡ Ok tt) × (first of_requests ≡ Ok tt)
      rest = (append_passed of_copies of_requests).0 rows.1

      row : (i : ℕ) → i < row_count ns → (j : ℕ) → (nth (row_conditions p count q n ns i) j).holds ≡ false
      row i l = (first_passed (row_conditions p count q n ns i)).0 ((each_passed (row_conditions p count q n ns) (row_count ns)).0 rows.0 i l)

  clear_passed : Clear p count q n ns → first (schedule_conditions p count q n ns) ≡ Ok tt
  unfolding schedule_conditions row_conditions copy_condition serve_condition
  clear_passed c =
      first_failed (refuse reason.PartialRow 0 (not (eqb (length ns % 4) 0))) _ (rw c.whole)
      ∙ (append_passed of_rows (of_copies ++ of_requests)).1 (
        (each_passed (row_conditions p count q n ns) (row_count ns)).1 row,
        (append_passed of_copies of_requests).1 (
          (each_passed _ _).1 (λ i l. alone_passed reason.NoCopy (suc i) _ (ap not (c.backed_at i l))),
          (each_passed _ _).1 (λ i l. alone_passed reason.Unserved (suc i) _ (ap not (c.served_at i l))),
        ),
      )
    where
      row : (i : ℕ) → i < row_count ns → first (row_conditions p count q n ns i) ≡ Ok tt
      row i l =
          first_failed (refuse reason.RowForm (suc i) (misfits p count q n ns i)) _ (fitting_not p count q n ns i (c.fitting_at i l))
          ∙ alone_passed reason.RowOrder (suc i) (misplaced ns i) (placed_not ns i (λ j e. c.placed_at j (omega arith)))

-- ---- what the conditions say of the rows

-- the targets of well-formed rows are below the count
pub targets : (count n last : ℕ) (rows : List Row) → Formed count n last rows
    → (y x τ : ℕ) → Memᴰ (move (transfer y x τ)) rows → x < count
targets count n last rows f y x τ m = (fits_move count last y x τ (f.fit (move (transfer y x τ)) m)).1

module _ (p : Rates) (count : ℕ) (q : Requests) (n : ℕ) (ns : List ℕ) where
  -- rows that fit, each after the one before it, are well formed
  shaped : ((i : ℕ) → i < row_count ns → Fitting p count q n ns i)
      → ((i : ℕ) → suc i < row_count ns → follows (row_at ns i) (row_at ns (suc i)) ≡ true) → Formed count n (q.time n) (rows_of ns)
  unfolding rows_of row_count
  shaped fitting_at placed_at =
      record { asked = λ r m. (row r m).0; fit = λ r m. (row r m).1; order = follows_ordered ns (row_count ns) placed_at }
    where
      row : (r : Row) → Memᴰ r (rows_of ns) → (0 < n) × (fits count (q.time n) r ≡ true)
      row r m = let (i, l, e) = member_row ns (row_count ns) m in let f = fitting_at i l in (f.asked, rw e f.fit)

  -- that is what all conditions say
  accepted : Clear p count q n ns → Scheduled p count q n ns
  unfolding rows_of row_count backed
  accepted c =
      record {
        whole = c.whole;
        kinds = λ i l. (c.fitting_at i l).kind;
        shaped = well_formed_of count n (q.time n) (rows_of ns) (shaped c.fitting_at c.placed_at);
        feasible = record {
          begins = λ x a b m. there x a (back (hold x a b) m);
          leaves = λ y x τ m. there y τ (back (move (transfer y x τ)) m);
          serves = serves;
          offered = λ x τ m. (let (i, l, e) = member_row ns (row_count ns) m in row_offers p ns i x τ e (c.fitting_at i l).kind);
        };
      }
    where
      there : (x τ : ℕ) → stands count (q.server 0) (rows_of ns) x τ ≡ true → Stands (q.server 0) (rows_of ns) x τ
      there = stands_sound count (q.server 0) (rows_of ns)

      back : (r : Row) → Memᴰ r (rows_of ns) → backed count (q.server 0) (rows_of ns) r ≡ true
      back r m = let (i, l, e) = member_row ns (row_count ns) m in rw e (c.backed_at i l)

      serves : (i : ℕ) → 1 ≤ i → i ≤ n → Stands (q.server 0) (rows_of ns) (q.server i) (q.time i)
      serves zero l h = absurd (omega arith)
      serves (suc i) l h = there (q.server (suc i)) (q.time (suc i)) (c.served_at i h)

  scheduled_clear : Scheduled p count q n ns → Clear p count q n ns
  unfolding rows_of row_count backed
  scheduled_clear c =
      record {
        whole = c.whole;
        fitting_at = λ i l. record { kind = c.kinds i l; asked = shape.asked (row_at ns i) (row i l); fit = shape.fit (row_at ns i) (row i l) };
        placed_at = ordered_follows ns (row_count ns) shape.order;
        backed_at = λ i l. back (row_at ns i) (row i l);
        served_at = λ i l. there (c.feasible.serves (suc i) (omega arith) l);
      }
    where
      row : (i : ℕ) → i < row_count ns → Memᴰ (row_at ns i) (rows_of ns)
      row = row_member ns (row_count ns)

      shape : Formed count n (q.time n) (rows_of ns)
      shape = formed count n (q.time n) (rows_of ns) c.shaped

      there : {x τ : ℕ} → Stands (q.server 0) (rows_of ns) x τ → stands count (q.server 0) (rows_of ns) x τ ≡ true
      there s = stands_complete count (q.server 0) (rows_of ns) (targets count n (q.time n) (rows_of ns) shape) s

      back : (r : Row) → Memᴰ r (rows_of ns) → backed count (q.server 0) (rows_of ns) r ≡ true
      back (hold x a b) m = there (c.feasible.begins x a b m)
      back (move (transfer y x τ)) m = there (c.feasible.leaves y x τ m)
      back (move (upload x τ)) m = refl

  -- the conditions all fail if and only if the rows are accepted
  pub accepts_iff : (first (schedule_conditions p count q n ns) ≡ Ok tt) ↔ Scheduled p count q n ns
  accepts_iff = (λ e. accepted (clear p count q n ns e), λ a. clear_passed p count q n ns (scheduled_clear a))

-- ---- 17 and 18 by where copies stand

-- a test of a fact fails exactly if there is no such fact
fails_iff : (b : Bool) {A : Type 0} → (b ≡ true → A) → (A → b ≡ true) → (not b ≡ true) ↔ (A → ⊥)
fails_iff true f g = (λ e. absurd (not_both e refl), λ h. absurd (h (f refl)))
fails_iff false f g = (λ e a. not_both (g a) refl, λ h. refl)

-- where none of 14 to 16 holds
module _ (p : Rates) (count : ℕ) (q : Requests) (n : ℕ) (ns : List ℕ) (e : first (form_conditions p count q n ns) ≡ Ok tt) where
  shape : Formed count n (q.time n) (rows_of ns)
  unfolding row_conditions
  shape = shaped p count q n ns (λ i l. fitting p count q n ns i (row i l 0)) (λ i l. placed ns i (row (suc i) l 1))
    where
      rows : first (of_rows p count q n ns) ≡ Ok tt
      rows = sym (first_failed _ _ ((first_passed (form_conditions p count q n ns)).0 e 0)) ∙ e

      row : (i : ℕ) → i < row_count ns → (j : ℕ) → (nth (row_conditions p count q n ns i) j).holds ≡ false
      row i l = (first_passed (row_conditions p count q n ns i)).0 ((each_passed (row_conditions p count q n ns) (row_count ns)).0 rows i l)

  there : (x τ : ℕ) → stands count (q.server 0) (rows_of ns) x τ ≡ true → Stands (q.server 0) (rows_of ns) x τ
  there = stands_sound count (q.server 0) (rows_of ns)

  found : (x τ : ℕ) → Stands (q.server 0) (rows_of ns) x τ → stands count (q.server 0) (rows_of ns) x τ ≡ true
  found x τ s = stands_complete count (q.server 0) (rows_of ns) (targets count n (q.time n) (rows_of ns) shape) s

  -- 17 holds of a row exactly if no copy stands where it begins
  pub unbacked : (i : ℕ) → ((nth (copy_condition count q ns i) 0).holds ≡ true) ↔ (Backed (q.server 0) (rows_of ns) (row_at ns i) → ⊥)
  unfolding copy_condition backed Backed
  unbacked i = go (row_at ns i)
    where
      go : (r : Row) → (not (backed count (q.server 0) (rows_of ns) r) ≡ true) ↔ (Backed (q.server 0) (rows_of ns) r → ⊥)
      go (hold x a b) = fails_iff _ (there x a) (found x a)
      go (move (transfer y x τ)) = fails_iff _ (there y τ) (found y τ)
      go (move (upload x τ)) = fails_iff true (λ e. tt) (λ e. refl)

  -- 18 holds of a request exactly if none stands at its server and second
  pub unserved : (i : ℕ)
      → ((nth (serve_condition count q ns i) 0).holds ≡ true) ↔ (Stands (q.server 0) (rows_of ns) (q.server (suc i)) (q.time (suc i)) → ⊥)
  unfolding serve_condition
  unserved i = fails_iff _ (there (q.server (suc i)) (q.time (suc i))) (found (q.server (suc i)) (q.time (suc i)))

-- well-formed and feasible rows, given as numbers, are a schedule
pub flat_scheduled : (p : Rates) (count : ℕ) (q : Requests) (n : ℕ) (rows : List Row) → well_formed count n (q.time n) rows ≡ true → Feasible p q n rows
    → Scheduled p count q n (flat rows)
unfolding row_count
flat_scheduled p count q n rows w f = record {
  whole = omega (arith, flat_length rows);
  kinds = λ i l. flat_kinds p rows f.offered i (omega (arith, flat_length rows));
  shaped = rw (rows_of_flat rows) w;
  feasible = rw (rows_of_flat rows) f;
}

-- with their cost
pub flat_cost : (p : Rates) (rows : List Row) → check_cost p (flat rows) ≡ cost_of p rows
unfolding check_cost
flat_cost p rows = ap (cost_of p) (rows_of_flat rows)
