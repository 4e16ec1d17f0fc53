-- The cost of well-formed rows has a bound: holds of one server are disjoint, and transfers and uploads rise strictly.
use Rattle.std.proofs.Math.Bool.{true}
use mathlib.Core.List.{List, [], ◌∷◌}
use Rattle.std.specs.Prelude.{◌⊎◌, ◌≡◌, refl, ltb, eqb}
use Rattle.std.proofs.Common.{inl, inr, ap, mul-le-mul, ltb-true, eqb-true}
use Rattle.std.proofs.Math.Nat.{mul-le-mul_right}
use native.Mathlib.Omega.{arith}
use Prim.Native.Nat.{ℕ, suc, ◌+◌, ◌-◌, ◌*◌, ◌^◌, ◌≤◌, ◌<◌}
use Rattle.base.specs.Choice.{both, either, not_both}
use Rattle.model.specs.Rates.{Rates, upload_fee}
use Rattle.model.specs.Sums.{total}
use Rattle.model.specs.Schedule.{Row, hold, move, transfer, upload, length_of, is_transfer, is_upload, cost_of}
use Rattle.base.specs.ChoiceLaws.{both_true, either_true}
use Rattle.model.proofs.RowLaws.{fits_hold, fits_move, fits_upload}
use Rattle.model.specs.RowForm.{fits, earlier, follows, ordered, all_fit, well_formed}

-- a number f of each row, and a place g that goes up by at least f from row to row, to no more than a top
record Climb (count last : ℕ) (f g : Row → ℕ) (top : ℕ) : Type 0 where
  end : (r : Row) → fits count last r ≡ true → f r + g r ≤ top
  step : (r s : Row) → fits count last r ≡ true → follows r s ≡ true → f r + g r ≤ g s

module _ (count last : ℕ) where
  -- then the total of f is no more than the top
  climb_from : {f g : Row → ℕ} {top : ℕ} → Climb count last f g top → (rows : List Row) (r : Row)
      → all_fit count last (r ∷ rows) ≡ true → ordered (r ∷ rows) ≡ true → total f (r ∷ rows) + g r ≤ top
  unfolding all_fit ordered total
  climb_from c [] r a o = omega (arith, c.end r (both_true (fits count last r) true a).0)
  climb_from c (s ∷ rows) r a o =
      let (b, l) = both_true (fits count last r) (all_fit count last (s ∷ rows)) a in
      let (d, e) = both_true (follows r s) (ordered (s ∷ rows)) o in
      omega (arith, climb_from c rows s l e, c.step r s b d)

  climb : {f g : Row → ℕ} {top : ℕ} → Climb count last f g top → (n : ℕ) (rows : List Row)
      → well_formed count n last rows ≡ true → total f rows ≤ top
  unfolding well_formed total
  climb c n [] w = omega arith
  climb c n (r ∷ rows) w =
      let (a, b) = both_true (ltb 0 n) (both (all_fit count last (r ∷ rows)) (ordered (r ∷ rows))) w in
      let (d, e) = both_true (all_fit count last (r ∷ rows)) (ordered (r ∷ rows)) b in
      omega (arith, climb_from c rows r d e)

  -- the place of a hold: the seconds of all servers before its own, and its start
  start : Row → ℕ
  start (hold x a b) = x * last + a
  start (move v) = count * last

  -- the total of the seconds held
  pub hold_seconds : (n : ℕ) (rows : List Row) → well_formed count n last rows ≡ true → total length_of rows ≤ count * last
  unfolding length_of start follows
  hold_seconds = climb {f = length_of} {g = start} (record { end = end; step = step })
    where
      end : (r : Row) → fits count last r ≡ true → length_of r + start r ≤ count * last
      end (hold x a b) e = let (f, g, h) = fits_hold count last x a b e in omega (arith, mul-le-mul_right last f)
      end (move v) e = omega arith

      step : (r s : Row) → fits count last r ≡ true → follows r s ≡ true → length_of r + start r ≤ start s
      step (hold x a b) (hold y c d) e o = go (fits_hold count last x a b e) (either_true (ltb x y) (both (eqb x y) (ltb b c)) o)
        where
          go : (x < count) × (a < b) × (b ≤ last) → (ltb x y ≡ true) ⊎ (both (eqb x y) (ltb b c) ≡ true) → b - a + (x * last + a) ≤ y * last + c
          go (i, j, k) (inl h) = omega (arith, mul-le-mul_right last (ltb-true x y h))
          go (i, j, k) (inr h) =
              let (e, g) = both_true (eqb x y) (ltb b c) h in
              let l : x * last ≡ y * last = ap (λ (z : ℕ). z * last) (eqb-true x y e) in
              omega (arith, ltb-true b c g)
      step (hold x a b) (move v) e o = end (hold x a b) e
      step (move u) (hold y c d) e o = absurd (not_both o refl)
      step (move u) (move v) e o = omega arith

  -- the place of a transfer among all of them, by second, source and target
  rank : Row → ℕ
  rank (hold x a b) = 0
  rank (move (transfer y x τ)) = (τ * count + y) * count + x
  rank (move (upload x τ)) = suc last * count * count

  -- it is below that of the next second, and of the next source
  rank_second : (y x τ σ : ℕ) → y < count → x < count → τ < σ → 1 + ((τ * count + y) * count + x) ≤ σ * count * count
  rank_second y x τ σ k l h =
      let a : (τ * count + y) * count + count ≤ suc τ * count * count = omega (arith, mul-le-mul_right count k) in
      omega (arith, a, mul-le-mul_right count (mul-le-mul_right count h))

  rank_source : (y x z τ : ℕ) → x < count → y < z → 1 + ((τ * count + y) * count + x) ≤ (τ * count + z) * count
  rank_source y x z τ l h = omega (arith, mul-le-mul_right count h)

  -- the number of transfers
  pub transfer_count : (n : ℕ) (rows : List Row) → well_formed count n last rows ≡ true → total is_transfer rows ≤ suc last * count * count
  unfolding is_transfer rank follows earlier
  transfer_count = climb {f = is_transfer} {g = rank} (record { end = end; step = step })
    where
      end : (r : Row) → fits count last r ≡ true → is_transfer r + rank r ≤ suc last * count * count
      end (hold x a b) e = omega arith
      end (move (upload x τ)) e = omega arith
      end (move (transfer y x τ)) e = let (f, g, h) = fits_move count last y x τ e in rank_second y x τ (suc last) f g (omega arith)

      step : (r s : Row) → fits count last r ≡ true → follows r s ≡ true → is_transfer r + rank r ≤ rank s
      step (hold x a b) s e o = omega arith
      step (move (transfer y x τ)) (hold z c d) e o = absurd (not_both o refl)
      step (move (transfer y x τ)) (move (upload u σ)) e o = end (move (transfer y x τ)) e
      step (move (upload x τ)) (hold z c d) e o = absurd (not_both o refl)
      step (move (upload x τ)) (move (transfer z u σ)) e o = absurd (not_both o refl)
      step (move (upload x τ)) (move (upload u σ)) e o = omega arith
      step (move (transfer y x τ)) (move (transfer z u σ)) e o = go (fits_move count last y x τ e) (either_true (ltb τ σ) _ o)
        where
          go : (y < count) × (x < count) × (τ ≤ last) → (ltb τ σ ≡ true) ⊎ (both (eqb τ σ) (either (ltb y z) (both (eqb y z) (ltb x u))) ≡ true)
              → 1 + ((τ * count + y) * count + x) ≤ (σ * count + z) * count + u
          go (i, j, k) (inl h) = omega (arith, rank_second y x τ σ i j (ltb-true τ σ h))
          go (i, j, k) (inr h) =
              let (p, t) = both_true (eqb τ σ) (either (ltb y z) (both (eqb y z) (ltb x u))) h in
              rw (← eqb-true τ σ p) (elim (either_true (ltb y z) (both (eqb y z) (ltb x u)) t) [
                | inl l ↦ omega (arith, rank_source y x z τ j (ltb-true y z l))
                | inr l ↦ let (v, w) = both_true (eqb y z) (ltb x u) l in rw (← eqb-true y z v) (omega (arith, ltb-true x u w))
              ])

  -- the place of an upload among all of them, by second and target
  place : Row → ℕ
  place (hold x a b) = 0
  place (move (transfer y x τ)) = 0
  place (move (upload x τ)) = τ * count + x

  -- it is below that of the next second
  place_second : (x τ σ : ℕ) → x < count → τ < σ → 1 + (τ * count + x) ≤ σ * count
  place_second x τ σ k h = omega (arith, mul-le-mul_right count h)

  -- the number of uploads
  pub upload_count : (n : ℕ) (rows : List Row) → well_formed count n last rows ≡ true → total is_upload rows ≤ suc last * count
  unfolding is_upload place follows earlier
  upload_count = climb {f = is_upload} {g = place} (record { end = end; step = step })
    where
      end : (r : Row) → fits count last r ≡ true → is_upload r + place r ≤ suc last * count
      end (hold x a b) e = omega arith
      end (move (transfer y x τ)) e = omega arith
      end (move (upload x τ)) e = let (f, g) = fits_upload count last x τ e in place_second x τ (suc last) f (omega arith)

      step : (r s : Row) → fits count last r ≡ true → follows r s ≡ true → is_upload r + place r ≤ place s
      step (hold x a b) s e o = omega arith
      step (move (transfer y x τ)) s e o = omega arith
      step (move (upload x τ)) (hold z c d) e o = absurd (not_both o refl)
      step (move (upload x τ)) (move (transfer z u σ)) e o = absurd (not_both o refl)
      step (move (upload x τ)) (move (upload u σ)) e o =
          elim (either_true (ltb τ σ) (both (eqb τ σ) (ltb x u)) o) [
            | inl h ↦ omega (arith, place_second x τ σ (fits_upload count last x τ e).0 (ltb-true τ σ h))
            | inr h ↦ let (v, w) = both_true (eqb τ σ) (ltb x u) h in rw (← eqb-true τ σ v) (omega (arith, ltb-true x u w))
          ]

-- for the largest server count, second and prices the cost is below 2 to the 64
pub cost_fits : (p : Rates) (count n last : ℕ) (rows : List Row) → well_formed count n last rows ≡ true → count ≤ 64 → last ≤ 4000000
    → p.hold ≤ 1000000 → p.transfer ≤ 1000000 → upload_fee p ≤ 1000000 → cost_of p rows < 2 ^ 64
unfolding cost_of
cost_fits p count n last rows w c l h t u =
    let a : total length_of rows ≤ 64 * 4000000 = omega (arith, hold_seconds count last n rows w, mul-le-mul c l) in
    let s : suc last ≤ 4000001 = omega arith in
    let d : total is_transfer rows ≤ 4000001 * 64 * 64 = omega (arith, transfer_count count last n rows w, mul-le-mul (mul-le-mul s c) c) in
    let f : total is_upload rows ≤ 4000001 * 64 = omega (arith, upload_count count last n rows w, mul-le-mul s c) in
    omega (arith, mul-le-mul h a, mul-le-mul t d, mul-le-mul u f)
