-- Well-formed rows are in order: their places rise.
use Rattle.std.specs.Prelude.{true, List, ◌⊎◌, ◌≡◌, refl, ℕ, zero, suc, ◌+◌, ◌*◌, ◌≤◌, ◌<◌, ltb, eqb}
use Rattle.std.proofs.Math.Logic.{inl, inr}
use native.Mathlib.Omega.{arith}
use borrow.Author.Tests.{ltb-true, eqb-true}
use Rattle.base.specs.Choice.{both, either, same_or_not, not_both}
use Rattle.base.specs.ChoiceLaws.{both_true, either_true}
use Rattle.model.specs.Schedule.{Row, hold, move, transfer, upload}
use Rattle.model.specs.RowForm.{row_at, fits, earlier, follows}
use Rattle.model.proofs.RowLaws.{fits_hold, fits_move, fits_upload}
use Rattle.model.specs.Checking.{row_count}
use Rattle.checker.specs.Search.{hold_key, second_key, upload_key, key, InOrder}

-- rows that passed 15 and 16, at most 64 servers, and seconds below 2 ^ 22
pub record Shaped (count last : ℕ) (ns : List ℕ) : Type 0 where
  pub few : count ≤ 64
  pub early : last < 4194304
  pub fit_at : (i : ℕ) → i < row_count ns → fits count last (row_at ns i) ≡ true
  pub follow_at : (i : ℕ) → suc i < row_count ns → follows (row_at ns i) (row_at ns (suc i)) ≡ true

-- the place where a row ends: a hold at its last second
unfoldable pub end_key : Row → ℕ
end_key (hold x a b) = hold_key x b
end_key (move v) = key (move v)

module _ (count last : ℕ) (few : count ≤ 64) (early : last < 4194304) where
  -- a row ends where it begins or later
  key_end : (r : Row) → fits count last r ≡ true → key r ≤ end_key r
  unfolding end_key key hold_key
  key_end (hold x a b) e = let (p, q, s) = fits_hold count last x a b e in omega arith
  key_end (move v) e = omega arith

  -- a row that may follow another comes after its end
  key_next : (r s : Row) → fits count last r ≡ true → fits count last s ≡ true → follows r s ≡ true → end_key r < key s
  unfolding end_key key hold_key second_key upload_key follows earlier
  key_next (hold x a b) (hold y c d) e f o = go (fits_hold count last x a b e) (either_true (ltb x y) (both (eqb x y) (ltb b c)) o)
    where
      go : (x < count) × (a < b) × (b ≤ last) → (ltb x y ≡ true) ⊎ (both (eqb x y) (ltb b c) ≡ true) → 4194304 * x + b < 4194304 * y + c
      go (i, j, k) (inl h) = omega (arith, ltb-true x y h)
      go (i, j, k) (inr h) = let (p, q) = both_true (eqb x y) (ltb b c) h in omega (arith, eqb-true x y p, ltb-true b c q)
  key_next (hold x a b) (move (transfer z u σ)) e f o = let (p, q, s) = fits_hold count last x a b e in omega arith
  key_next (hold x a b) (move (upload u σ)) e f o = let (p, q, s) = fits_hold count last x a b e in omega arith
  key_next (move v) (hold y c d) e f o = absurd (not_both o refl)
  key_next (move (transfer y x τ)) (move (upload u σ)) e f o = let (p, q, s) = fits_move count last y x τ e in omega arith
  key_next (move (upload x τ)) (move (transfer z u σ)) e f o = absurd (not_both o refl)
  key_next (move (upload x τ)) (move (upload u σ)) e f o = go (fits_upload count last x τ e) (either_true (ltb τ σ) (both (eqb τ σ) (ltb x u)) o)
    where
      go : (x < count) × (τ ≤ last) → (ltb τ σ ≡ true) ⊎ (both (eqb τ σ) (ltb x u) ≡ true) → 34359738368 + 4097 * τ + 64 * x < 34359738368 + 4097 * σ + 64 * u
      go (i, j) (inl h) = omega (arith, ltb-true τ σ h)
      go (i, j) (inr h) = let (p, q) = both_true (eqb τ σ) (ltb x u) h in omega (arith, eqb-true τ σ p, ltb-true x u q)
  key_next (move (transfer y x τ)) (move (transfer z u σ)) e f o = go (fits_move count last y x τ e) (either_true (ltb τ σ) _ o)
    where
      go : (y < count) × (x < count) × (τ ≤ last) → (ltb τ σ ≡ true) ⊎ (both (eqb τ σ) (either (ltb y z) (both (eqb y z) (ltb x u))) ≡ true)
          → 268435456 + 4096 * τ + 64 * y + x < 268435456 + 4096 * σ + 64 * z + u
      go (i, j, k) (inl h) = omega (arith, ltb-true τ σ h)
      go (i, j, k) (inr h) =
          let (p, q) = both_true (eqb τ σ) (either (ltb y z) (both (eqb y z) (ltb x u))) h in
          elim (either_true (ltb y z) (both (eqb y z) (ltb x u)) q) [
            | inl l ↦ omega (arith, eqb-true τ σ p, ltb-true y z l)
            | inr l ↦ let (v, w) = both_true (eqb y z) (ltb x u) l in omega (arith, eqb-true τ σ p, eqb-true y z v, ltb-true x u w)
          ]

module _ (count last : ℕ) (ns : List ℕ) (s : Shaped count last ns) where
  -- each row comes after the end of every one before it
  pub keys_rise : (i j : ℕ) → i < j → j < row_count ns → end_key (row_at ns i) < key (row_at ns j)
  keys_rise i zero l h = absurd (omega arith)
  keys_rise i (suc j) l h = go (same_or_not i j) (keys_rise i j)
    where
      next : end_key (row_at ns j) < key (row_at ns (suc j))
      next = key_next count last s.few s.early (row_at ns j) (row_at ns (suc j)) (s.fit_at j (omega arith)) (s.fit_at (suc j) h) (s.follow_at j h)

      go : (i ≡ j) ⊎ (i ≡ j → ⊥) → (i < j → j < row_count ns → end_key (row_at ns i) < key (row_at ns j)) → end_key (row_at ns i) < key (row_at ns (suc j))
      go (inl e) r = rw e next
      go (inr d) r = omega (arith, next, r (omega arith) (omega arith), key_end count last s.few s.early (row_at ns j) (s.fit_at j (omega arith)))

  -- so a row is at a higher place than every one before it
  pub keys_up : InOrder ns
  unfolding InOrder
  keys_up i j l h = omega (arith, keys_rise i j l h, key_end count last s.few s.early (row_at ns i) (s.fit_at i (omega arith)))
