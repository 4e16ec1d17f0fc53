-- Laws of lists of rows: well formed, said of the rows; and the rows of a list of numbers by their index.
use Rattle.std.specs.Prelude.{true, not, ◌⊎◌, ◌≡◌, refl, ℕ, zero, suc, ◌≤◌, ◌<◌, leb, ltb, eqb}
use mathlib.Core.List.Memᴰ
use mathlib.Core.List.{List, [], ◌∷◌, ◌++◌, append_assoc, Memᴰ}
use Rattle.std.proofs.Common.{inl, inr, sym, ap, ◌∙◌, arith, ltb-true, leb-true, lt-ltb}
use Rattle.base.specs.Choice.{both, le_or_lt}
use Rattle.model.specs.Schedule.{Row, hold, move, transfer, upload}
use Rattle.model.specs.RowForm.{row_at, rows_upto, fits, follows, ordered, all_fit, well_formed}
use Rattle.base.specs.ChoiceLaws.{both_true, both_of, both_end, both_assoc}

-- what a hold that fits says, a transfer, and an upload
pub fits_hold : (count last x a b : ℕ) → fits count last (hold x a b) ≡ true → (x < count) × (a < b) × (b ≤ last)
unfolding fits
fits_hold count last x a b e =
    let (f, g) = both_true (ltb x count) (both (ltb a b) (leb b last)) e in
    let (h, k) = both_true (ltb a b) (leb b last) g in
    (ltb-true x count f, ltb-true a b h, leb-true b last k)

pub fits_move : (count last y x τ : ℕ) → fits count last (move (transfer y x τ)) ≡ true → (y < count) × (x < count) × (τ ≤ last)
unfolding fits
fits_move count last y x τ e =
    let (f, g) = both_true (ltb y count) (both (ltb x count) (both (not (eqb y x)) (leb τ last))) e in
    let (h, k) = both_true (ltb x count) (both (not (eqb y x)) (leb τ last)) g in
    (ltb-true y count f, ltb-true x count h, leb-true τ last (both_true (not (eqb y x)) (leb τ last) k).1)

pub fits_upload : (count last x τ : ℕ) → fits count last (move (upload x τ)) ≡ true → (x < count) × (τ ≤ last)
unfolding fits
fits_upload count last x τ e = let (f, g) = both_true (ltb x count) (leb τ last) e in (ltb-true x count f, leb-true τ last g)

-- all rows fit if and only if each member does
pub all_fit_member : (count last : ℕ) (rows : List Row) → all_fit count last rows ≡ true
    → (r : Row) → Memᴰ r rows → fits count last r ≡ true
unfolding all_fit
all_fit_member count last [] e r m = elim m [ ]
all_fit_member count last (s ∷ rows) e r (Memᴰ.head h) = rw h (both_true (fits count last s) (all_fit count last rows) e).0
all_fit_member count last (s ∷ rows) e r (Memᴰ.tail m) =
    all_fit_member count last rows (both_true (fits count last s) (all_fit count last rows) e).1 r m

pub member_all_fit : (count last : ℕ) (rows : List Row) → ((r : Row) → Memᴰ r rows → fits count last r ≡ true)
    → all_fit count last rows ≡ true
unfolding all_fit
member_all_fit count last [] h = refl
member_all_fit count last (r ∷ rows) h =
    both_of (h r (Memᴰ.head refl)) (member_all_fit count last rows (λ s m. h s (Memᴰ.tail m)))

-- well formed, said of the rows: there is a request if there is a row, each fits, and each may follow the one before it
pub record Formed (count n last : ℕ) (rows : List Row) : Type 0 where
  pub asked : (r : Row) → Memᴰ r rows → 0 < n
  pub fit : (r : Row) → Memᴰ r rows → fits count last r ≡ true
  pub order : ordered rows ≡ true

-- well-formed rows are so
pub formed : (count n last : ℕ) (rows : List Row) → well_formed count n last rows ≡ true → Formed count n last rows
unfolding well_formed ordered
formed count n last [] e =
    record { asked = λ r m. absurd (Memᴰ.not-nil m); fit = λ r m. absurd (Memᴰ.not-nil m); order = refl }
formed count n last (s ∷ rows) e =
    let (a, f) = both_true (ltb 0 n) (both (all_fit count last (s ∷ rows)) (ordered (s ∷ rows))) e in
    let (g, h) = both_true (all_fit count last (s ∷ rows)) (ordered (s ∷ rows)) f in
    record { asked = λ r m. ltb-true 0 n a; fit = all_fit_member count last (s ∷ rows) g; order = h }

-- and only they
pub well_formed_of : (count n last : ℕ) (rows : List Row) → Formed count n last rows → well_formed count n last rows ≡ true
unfolding well_formed
well_formed_of count n last [] f = refl
well_formed_of count n last (r ∷ rows) f =
    both_of (lt-ltb 0 n (f.asked r (Memᴰ.head refl))) (both_of (member_all_fit count last (r ∷ rows) f.fit) f.order)

-- ---- the rows of a list of numbers

-- row i is one of the first k rows where i < k, and each of them is such a row
pub row_member : (ns : List ℕ) (k i : ℕ) → i < k → Memᴰ (row_at ns i) (rows_upto ns k)
unfolding rows_upto
row_member ns zero i l = absurd (omega arith)
row_member ns (suc k) i l = go (le_or_lt k i) (row_member ns k i)
  where
    go : (k ≤ i) ⊎ (i < k) → (i < k → Memᴰ (row_at ns i) (rows_upto ns k))
        → Memᴰ (row_at ns i) (rows_upto ns k ++ (row_at ns k ∷ []))
    go (inl h) r = let e : i ≡ k = omega arith in Memᴰ.append_right (rows_upto ns k) (Memᴰ.head (ap (row_at ns) e))
    go (inr h) r = Memᴰ.append_left (row_at ns k ∷ []) (r h)

pub member_row : (ns : List ℕ) (k : ℕ) {r : Row} → Memᴰ r (rows_upto ns k) → (i : ℕ) × (i < k) × (r ≡ row_at ns i)
unfolding rows_upto
member_row ns zero m = absurd (Memᴰ.not-nil m)
member_row ns (suc k) {r} m = go (Memᴰ.append_cases (rows_upto ns k) m) (λ h. member_row ns k h)
  where
    go : Memᴰ r (rows_upto ns k) ⊎ Memᴰ r (row_at ns k ∷ [])
        → (Memᴰ r (rows_upto ns k) → (i : ℕ) × (i < k) × (r ≡ row_at ns i))
        → (i : ℕ) × (i < suc k) × (r ≡ row_at ns i)
    go (inl h) f = let (i, l, e) = f h in (i, omega arith, e)
    go (inr h) f = (k, omega arith, Memᴰ.eq_of_singleton h)

-- the order of rows with one more at the end
ordered_last : (rows : List Row) (r s : Row) → ordered (rows ++ (r ∷ s ∷ [])) ≡ both (ordered (rows ++ (r ∷ []))) (follows r s)
unfolding ordered
ordered_last [] r s = both_end (follows r s)
ordered_last (x ∷ []) r s = rw (both_end (follows r s), both_end (follows x r))
ordered_last (x ∷ y ∷ rows) r s =
    ap (both (follows x y)) (ordered_last (y ∷ rows) r s) ∙ both_assoc (follows x y) (ordered (y ∷ rows ++ (r ∷ []))) (follows r s)

-- the rows of a list of numbers are in order where each may follow the one before it
pub ordered_follows : (ns : List ℕ) (k : ℕ) → ordered (rows_upto ns k) ≡ true
    → (i : ℕ) → suc i < k → follows (row_at ns i) (row_at ns (suc i)) ≡ true
unfolding rows_upto
ordered_follows ns zero e i l = absurd (omega arith)
ordered_follows ns (suc zero) e i l = absurd (omega arith)
ordered_follows ns (suc (suc k)) e i l = go (le_or_lt k i) (λ h. ordered_follows ns (suc k) h i)
  where
    parts : (ordered (rows_upto ns k ++ (row_at ns k ∷ [])) ≡ true) × (follows (row_at ns k) (row_at ns (suc k)) ≡ true)
    parts = both_true (ordered (rows_upto ns k ++ (row_at ns k ∷ []))) (follows (row_at ns k) (row_at ns (suc k)))
        (sym (ordered_last (rows_upto ns k) (row_at ns k) (row_at ns (suc k))) ∙ (rw append_assoc at e))

    go : (k ≤ i) ⊎ (i < k)
        → (ordered (rows_upto ns k ++ (row_at ns k ∷ [])) ≡ true → suc i < suc k → follows (row_at ns i) (row_at ns (suc i)) ≡ true)
        → follows (row_at ns i) (row_at ns (suc i)) ≡ true
    go (inl h) r = let z : i ≡ k = omega arith in rw z parts.1
    go (inr h) r = r parts.0 (omega arith)

pub follows_ordered : (ns : List ℕ) (k : ℕ) → ((i : ℕ) → suc i < k → follows (row_at ns i) (row_at ns (suc i)) ≡ true)
    → ordered (rows_upto ns k) ≡ true
unfolding rows_upto ordered
follows_ordered ns zero h = refl
follows_ordered ns (suc zero) h = refl
follows_ordered ns (suc (suc k)) h =
    rw append_assoc (ordered_last (rows_upto ns k) (row_at ns k) (row_at ns (suc k))
    ∙ both_of (follows_ordered ns (suc k) (λ i l. h i (omega arith))) (h k (omega arith)))
