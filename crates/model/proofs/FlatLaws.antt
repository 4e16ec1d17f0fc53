-- The numbers of rows, read back as rows, and rows as numbers again.
use Rattle.std.proofs.Math.Bool.{true}
use mathlib.Core.List.{List, [], ◌∷◌, ◌++◌, append-nil, Memᴰ}
use Rattle.std.proofs.Math.Path.{◌≡◌, refl, sym, ap}
use Rattle.std.proofs.Common.{◌∙◌, arith}
use Prim.Native.Nat.{ℕ, zero, suc, ◌+◌, ◌*◌, ◌/◌, ◌%◌, ◌<◌}
use Rattle.std.specs.Prelude.{eqb, length}
use Rattle.std.proofs.Math.ListN.{get_or}
use borrow.Author.Tests.{lt-ltb, eqb-true}
use Rattle.base.specs.Choice.{both}
use Rattle.base.specs.ChoiceLaws.{both_true}
use Rattle.model.specs.Rates.{Rates, offers}
use Rattle.model.specs.Schedule.{Row, hold, move, transfer, upload}
use Rattle.model.specs.RowForm.{numbers, flat, row_of, row_at, rows_upto, rows_of}
use Rattle.model.specs.Checking.{kind_fits, kind_of}

-- four numbers further on, and one row
getD_shift : (a b c d : ℕ) (ns : List ℕ) (i j : ℕ) → i ≡ suc (suc (suc (suc j))) → get_or (a ∷ b ∷ c ∷ d ∷ ns) i 0 ≡ get_or ns j 0
getD_shift a b c d ns i j e = rw e

row_shift : (a b c d : ℕ) (ns : List ℕ) (i : ℕ) → row_at (a ∷ b ∷ c ∷ d ∷ ns) (suc i) ≡ row_at ns i
unfolding row_at
row_shift a b c d ns i =
    rw (
      getD_shift a b c d ns (4 * suc i) (4 * i) (omega arith),
      getD_shift a b c d ns (4 * suc i + 1) (4 * i + 1) (omega arith),
      getD_shift a b c d ns (4 * suc i + 2) (4 * i + 2) (omega arith),
      getD_shift a b c d ns (4 * suc i + 3) (4 * i + 3) (omega arith),
    )

rows_shift : (a b c d : ℕ) (ns : List ℕ) (k : ℕ) → rows_upto (a ∷ b ∷ c ∷ d ∷ ns) (suc k) ≡ row_of a b c d ∷ rows_upto ns k
unfolding rows_upto row_at
rows_shift a b c d ns zero = refl
rows_shift a b c d ns (suc k) = rw (rows_shift a b c d ns k, row_shift a b c d ns k)

-- the first four numbers are the first row
rows_of_shift : (a b c d : ℕ) (ns : List ℕ) → rows_of (a ∷ b ∷ c ∷ d ∷ ns) ≡ row_of a b c d ∷ rows_of ns
unfolding rows_of
rows_of_shift a b c d ns =
    let e : suc (suc (suc (suc (length ns)))) / 4 ≡ suc (length ns / 4) = omega arith in
    rw e (rows_shift a b c d ns (length ns / 4))

-- there are four for each row
pub flat_length : (rows : List Row) → length (flat rows) ≡ 4 * length rows
unfolding flat numbers
flat_length [] = refl
flat_length (hold x a b ∷ rows) = omega (arith, flat_length rows)
flat_length (move (transfer y x τ) ∷ rows) = omega (arith, flat_length rows)
flat_length (move (upload x τ) ∷ rows) = omega (arith, flat_length rows)

-- the rows of the numbers of rows, whatever comes after them, are those rows
pub upto_flat : (rows : List Row) (zs : List ℕ) → rows_upto (flat rows ++ zs) (length rows) ≡ rows
unfolding flat numbers rows_upto row_of
upto_flat [] zs = refl
upto_flat (hold x a b ∷ rows) zs = rows_shift 0 x a b (flat rows ++ zs) (length rows) ∙ ap (λ (rs : List Row). hold x a b ∷ rs) (upto_flat rows zs)
upto_flat (move (transfer y x τ) ∷ rows) zs =
    rows_shift 1 y x τ (flat rows ++ zs) (length rows) ∙ ap (λ (rs : List Row). move (transfer y x τ) ∷ rs) (upto_flat rows zs)
upto_flat (move (upload x τ) ∷ rows) zs =
    rows_shift 2 x τ 0 (flat rows ++ zs) (length rows) ∙ ap (λ (rs : List Row). move (upload x τ) ∷ rs) (upto_flat rows zs)

pub rows_of_flat : (rows : List Row) → rows_of (flat rows) ≡ rows
unfolding rows_of
rows_of_flat rows =
    let e : length (flat rows) / 4 ≡ length rows = omega (arith, flat_length rows) in
    rw e (ap (λ (ns : List ℕ). rows_upto ns (length rows)) (sym (append-nil (flat rows))) ∙ upto_flat rows [])

-- ---- kinds that fit

module _ (p : Rates) where
  -- one row further on
  kind_shift : (a b c d : ℕ) (ns : List ℕ) (i : ℕ) → kind_of p (a ∷ b ∷ c ∷ d ∷ ns) (suc i) ≡ kind_of p ns i
  kind_shift a b c d ns i =
      rw (
        getD_shift a b c d ns (4 * suc i) (4 * i) (omega arith),
        getD_shift a b c d ns (4 * suc i + 3) (4 * i + 3) (omega arith),
      )

  -- what a kind above 1 that fits says
  kind_upload : (kind last : ℕ) → 1 < kind → kind_fits p kind last ≡ true → (kind ≡ 2) × (last ≡ 0) × (offers p ≡ true)
  unfolding kind_fits
  kind_upload kind last h e =
      let (a, f) = both_true (eqb kind 2) (both (eqb last 0) (offers p)) (rw (lt-ltb 1 kind h) at e) in
      let (b, c) = both_true (eqb last 0) (offers p) f in
      (eqb-true kind 2 a, eqb-true last 0 b, c)

  -- a row whose kind fits has its four numbers
  numbers_of : (kind a b c : ℕ) → kind_fits p kind c ≡ true → numbers (row_of kind a b c) ≡ kind ∷ a ∷ b ∷ c ∷ []
  unfolding numbers row_of
  numbers_of zero a b c e = refl
  numbers_of (suc zero) a b c e = refl
  numbers_of (suc (suc k)) a b c e =
      let (u, v, w) = kind_upload (suc (suc k)) c (omega arith) e in
      rw (u, v)

  -- and is an upload only where an upload price is given
  pub row_offers : (ns : List ℕ) (i x τ : ℕ) → move (upload x τ) ≡ row_at ns i → kind_of p ns i ≡ true → offers p ≡ true
  unfolding row_at row_of
  row_offers ns i x τ e f = go (get_or ns (4 * i) 0) refl
    where
      go : (kind : ℕ) → get_or ns (4 * i) 0 ≡ kind → offers p ≡ true
      go zero z = absurd (let g = rw z at e in let w : ◌≡◌ {A = ℕ} 0 1 = cc in omega arith)
      go (suc zero) z = absurd (let g = rw z at e in let w : ◌≡◌ {A = ℕ} 0 1 = cc in omega arith)
      go (suc (suc k)) z = (kind_upload (suc (suc k)) (get_or ns (4 * i + 3) 0) (omega arith) (rw z at f)).2

  -- the kinds in the numbers of rows fit, where an upload price is given if there is an upload
  pub flat_kinds : (rows : List Row) → ((x τ : ℕ) → Memᴰ (move (upload x τ)) rows → offers p ≡ true)
      → (i : ℕ) → i < length rows → kind_of p (flat rows) i ≡ true
  unfolding flat numbers kind_fits
  flat_kinds [] offered i h = absurd (omega arith)
  flat_kinds (hold x a b ∷ rows) offered zero h = refl
  flat_kinds (move (transfer y x τ) ∷ rows) offered zero h = refl
  flat_kinds (move (upload x τ) ∷ rows) offered zero h = offered x τ (Memᴰ.head refl)
  flat_kinds (hold x a b ∷ rows) offered (suc i) h =
      kind_shift 0 x a b (flat rows) i ∙ flat_kinds rows (λ z σ m. offered z σ (Memᴰ.tail m)) i (omega arith)
  flat_kinds (move (transfer y x τ) ∷ rows) offered (suc i) h =
      kind_shift 1 y x τ (flat rows) i ∙ flat_kinds rows (λ z σ m. offered z σ (Memᴰ.tail m)) i (omega arith)
  flat_kinds (move (upload x τ) ∷ rows) offered (suc i) h =
      kind_shift 2 x τ 0 (flat rows) i ∙ flat_kinds rows (λ z σ m. offered z σ (Memᴰ.tail m)) i (omega arith)

  -- numbers, four for each row, whose kinds fit are those of their rows
  pub flat_rows_of : (ns : List ℕ) → length ns % 4 ≡ 0 → ((i : ℕ) → i < length ns / 4 → kind_of p ns i ≡ true) → flat (rows_of ns) ≡ ns
  unfolding flat rows_of rows_upto
  flat_rows_of [] h k = refl
  flat_rows_of (a ∷ []) h k = absurd (omega arith)
  flat_rows_of (a ∷ b ∷ []) h k = absurd (omega arith)
  flat_rows_of (a ∷ b ∷ c ∷ []) h k = absurd (omega arith)
  flat_rows_of (a ∷ b ∷ c ∷ d ∷ ns) h k =
      ap flat (rows_of_shift a b c d ns)
      ∙ (ap (λ (xs : List ℕ). xs ++ flat (rows_of ns)) (numbers_of a b c d (k 0 (omega arith)))
      ∙ ap (λ (xs : List ℕ). a ∷ b ∷ c ∷ d ∷ xs)
      (flat_rows_of ns (omega arith) (λ i l. sym (kind_shift a b c d ns i) ∙ k (suc i) (omega arith))))
