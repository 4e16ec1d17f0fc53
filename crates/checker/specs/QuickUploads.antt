-- For well-formed rows the uploads of a second stand together, and a search finds each of them.
use Rattle.std.specs.Prelude.{true, List, ◌≡◌, ltb, eqb}
use Rattle.std.proofs.Math.Logic.{inl, inr}
use Rattle.std.proofs.Math.Path.{refl, ap}
use Rattle.std.proofs.Common.{◌∙◌}
use native.Mathlib.Omega.{arith}
use Prim.Native.Nat.{ℕ, ◌+◌, ◌-◌, ◌*◌, ◌≤◌, ◌<◌}
use borrow.Author.Tests.{ltb-true, eqb-true, lt-ltb, eq-eqb}
use Rattle.base.specs.Choice.{either, le_or_lt, not_both}
use Rattle.base.specs.Sets.{has}
use Rattle.base.specs.ChoiceLaws.{both_true}
use Rattle.model.specs.Schedule.{Row, hold, move, transfer, upload}
use Rattle.model.specs.RowForm.{row_at, fits}
use Rattle.model.proofs.RowLaws.{fits_hold, fits_move, fits_upload}
use Rattle.model.specs.Checking.{row_count}
use Rattle.rows.specs.Reading.{server_of}
use Rattle.rows.specs.Passes.{any_below, puts}
use Rattle.rows.specs.AnyLaws.{same_test, any_is, any_of}
use Rattle.checker.specs.Search.{hold_key, second_key, upload_key, key, position}
use Rattle.checker.specs.KeyLaws.{Shaped, keys_up}
use Rattle.checker.specs.SearchLaws.{position_most, before_position, from_position, own_position}
use Rattle.checker.specs.Quick.{begun, first_upload, upload_number, uploaded_to, loaded}
use Rattle.checker.specs.QuickSets.{servers_has}

-- an upload of τ to x
pub putting : (τ x : ℕ) (r : Row) → puts τ x r ≡ true → r ≡ move (upload x τ)
unfolding puts
putting τ x (hold y a b) e = absurd (not_both e refl)
putting τ x (move (transfer y z σ)) e = absurd (not_both e refl)
putting τ x (move (upload z σ)) e =
    let (p, q) = both_true (eqb z x) (eqb σ τ) e in
    ap (λ (v : ℕ). move (upload v σ)) (eqb-true z x p) ∙ ap (λ (v : ℕ). move (upload x v)) (eqb-true σ τ q)

puts_own : (τ x : ℕ) → puts τ x (move (upload x τ)) ≡ true
unfolding puts
puts_own τ x = rw (eq-eqb x x refl, eq-eqb τ τ refl)

-- the server of a row that fits is below the count
pub server_below : (count last : ℕ) (r : Row) → fits count last r ≡ true → server_of r < count
unfolding server_of
server_below count last (hold x a b) e = (fits_hold count last x a b e).0
server_below count last (move (transfer y x τ)) e = (fits_move count last y x τ e).0
server_below count last (move (upload x τ)) e = (fits_upload count last x τ e).0

module _ (count last : ℕ) (ns : List ℕ) (s : Shaped count last ns) where
  -- a row from the place of the first upload on is one
  pub upload_row : (i : ℕ) → i < row_count ns → upload_key 0 0 ≤ key (row_at ns i) → (x : ℕ) × (σ : ℕ) × (row_at ns i ≡ move (upload x σ)) × (x < 64)
  unfolding key hold_key second_key upload_key
  upload_row i l h = go (row_at ns i) refl
    where
      go : (r : Row) → row_at ns i ≡ r → (x : ℕ) × (σ : ℕ) × (row_at ns i ≡ move (upload x σ)) × (x < 64)
      go (hold x a b) e =
          let k : key (row_at ns i) ≡ 4194304 * x + a = ap key e in
          let (p, q, t) = fits_hold count last x a b (rw e at (s.fit_at i l)) in
          absurd (omega (arith, s.few, s.early))
      go (move (transfer y x τ)) e =
          let k : key (row_at ns i) ≡ 268435456 + 4096 * τ + 64 * y + x = ap key e in
          let (p, q, t) = fits_move count last y x τ (rw e at (s.fit_at i l)) in
          absurd (omega (arith, s.few, s.early))
      go (move (upload x σ)) e = (x, σ, e, omega (arith, s.few, (fits_upload count last x σ (rw e at (s.fit_at i l))).0))

  -- those between the places of a second are uploads of it
  second_upload : (τ i : ℕ) → first_upload ns τ ≤ i → i < position ns (upload_key τ 64)
      → (i < row_count ns) × (x : ℕ) × (row_at ns i ≡ move (upload x τ))
  unfolding first_upload key upload_key
  second_upload τ i l h =
      let m : i < row_count ns = omega (arith, position_most ns (upload_key τ 64)) in
      let low = from_position ns (keys_up count last ns s) (upload_key τ 0) i l m in
      let high = before_position ns (upload_key τ 64) i h in
      let (x, σ, e, b) = upload_row i m (omega arith) in
      let k : key (row_at ns i) ≡ 34359738368 + 4097 * σ + 64 * x = ap key e in
      let same : σ ≡ τ = omega arith in
      (m, x, e ∙ ap (λ (z : ℕ). move (upload x z)) same)

  -- and each upload of it is between them
  in_uploads : (τ x i : ℕ) → i < row_count ns → row_at ns i ≡ move (upload x τ) → (first_upload ns τ ≤ i) × (i < position ns (upload_key τ 64))
  unfolding first_upload key upload_key
  in_uploads τ x i l e =
      let k : key (row_at ns i) ≡ 34359738368 + 4097 * τ + 64 * x = ap key e in
      let f = fits_upload count last x τ (rw e at (s.fit_at i l)) in
      let low : position ns (upload_key τ 0) ≤ i = elim (le_or_lt (position ns (upload_key τ 0)) i) [
        | inl d ↦ d
        | inr d ↦ absurd (omega (arith, before_position ns (upload_key τ 0) i d))
      ] in
      let high : i < position ns (upload_key τ 64) = elim (le_or_lt (position ns (upload_key τ 64)) i) [
        | inl d ↦ absurd (omega (arith, s.few, f.0, from_position ns (keys_up count last ns s) (upload_key τ 64) i d l))
        | inr d ↦ d
      ] in
      (low, high)

  -- so their servers are those of all uploads of the second
  same_uploads : (τ k : ℕ)
      → any_below (upload_number ns τ) (λ j. eqb (server_of (row_at ns (first_upload ns τ + j))) k) ≡ any_below (row_count ns) (λ i. puts τ k (row_at ns i))
  unfolding upload_number server_of
  same_uploads τ k = same_test _ _ out back
    where
      from : ℕ
      from = first_upload ns τ

      n : ℕ
      n = position ns (upload_key τ 64) - first_upload ns τ

      out : any_below n (λ j. eqb (server_of (row_at ns (from + j))) k) ≡ true → any_below (row_count ns) (λ i. puts τ k (row_at ns i)) ≡ true
      out e =
          let (j, l, h) = any_is n (λ j. eqb (server_of (row_at ns (from + j))) k) e in
          let (m, x, r) = second_upload τ (from + j) (omega arith) (omega arith) in
          let d : x ≡ k = eqb-true x k (rw r at h) in
          any_of (row_count ns) (λ i. puts τ k (row_at ns i)) (from + j) m (rw (r, d) (puts_own τ k))

      back : any_below (row_count ns) (λ i. puts τ k (row_at ns i)) ≡ true → any_below n (λ j. eqb (server_of (row_at ns (from + j))) k) ≡ true
      back e =
          let (i, l, h) = any_is (row_count ns) (λ i. puts τ k (row_at ns i)) e in
          let r = putting τ k (row_at ns i) h in
          let (a, b) = in_uploads τ k i l r in
          let d : from + (i - from) ≡ i = omega arith in
          any_of n (λ j. eqb (server_of (row_at ns (from + j))) k) (i - from) (omega arith) (rw (d, r) (eq-eqb k k refl))

  -- and so is the set of them, with the start
  pub uploaded_has : (home τ k : ℕ) → has (uploaded_to home ns τ) k ≡ either (has (begun home τ) k) (any_below (row_count ns) (λ i. puts τ k (row_at ns i)))
  unfolding uploaded_to upload_number
  uploaded_has home τ k =
      servers_has ns (first_upload ns τ) (begun home τ) (position ns (upload_key τ 64) - first_upload ns τ) k below
      ∙ ap (either (has (begun home τ) k)) (same_uploads τ k)
    where
      below : (j : ℕ) → j < position ns (upload_key τ 64) - first_upload ns τ → server_of (row_at ns (first_upload ns τ + j)) < 64
      below j l =
          let i = first_upload ns τ + j in
          let m : i < row_count ns = omega (arith, position_most ns (upload_key τ 64)) in
          omega (arith, s.few, server_below count last (row_at ns i) (s.fit_at i m))

  -- the search for an upload finds it, and finds nothing else
  pub loaded_of : (τ x i : ℕ) → i < row_count ns → row_at ns i ≡ move (upload x τ) → loaded ns τ x ≡ true
  unfolding loaded key
  loaded_of τ x i l e =
      let d : position ns (upload_key τ x) ≡ i = own_position ns (keys_up count last ns s) (upload_key τ x) i l (ap key e) in
      rw (d, lt-ltb i (row_count ns) l, e) (puts_own τ x)

  pub loaded_is : (τ x : ℕ) → loaded ns τ x ≡ true → (i : ℕ) × (i < row_count ns) × (row_at ns i ≡ move (upload x τ))
  unfolding loaded
  loaded_is τ x e =
      let p = position ns (upload_key τ x) in
      let (a, b) = both_true (ltb p (row_count ns)) (puts τ x (row_at ns p)) e in
      (p, ltb-true p (row_count ns) a, putting τ x (row_at ns p) b)
