-- The laws of `nearest`: it passes, none that passes is nearer, of two equally near it is the lower, and nothing else is all that. Assumes nothing.
use Rattle.std.proofs.Math.Bool.{Bool, true, false}
use Rattle.std.specs.Prelude.{not, ◌⊎◌, ◌≡◌, leb}
use Rattle.std.proofs.Math.Logic.{inl, inr}
use Rattle.std.proofs.Math.Path.{refl}
use Prim.Native.Nat.{ℕ, zero, suc, ◌-◌, ◌≤◌, ◌<◌}
use native.Mathlib.Omega.{arith}
use borrow.Author.Tests.{lt-ltb, le-ltb, le-leb, leb-true}
use Rattle.base.specs.Choice.{both, either, le_or_lt, true_or_false, not_both}
use Rattle.base.specs.ChoiceLaws.{both_true, both_of}
use Rattle.base.specs.Sets.{lowest}
use Rattle.base.specs.LowestLaws.{lowest_is, lowest_unique, lowest_passes}
use Rattle.base.specs.Nearest.{distance, none_nearer, nearest}

-- y is the number below n that passes f and is nearest to t, the lower of two equally near
pub record Nearest (n : ℕ) (f : ℕ → Bool) (t y : ℕ) : Type 0 where
  pub within : y < n
  pub passes : f y ≡ true
  pub least : (z : ℕ) → z < n → f z ≡ true → distance y t ≤ distance z t
  pub lower : (z : ℕ) → z < n → f z ≡ true → distance z t ≡ distance y t → y ≤ z

module _ (f : ℕ → Bool) (t : ℕ) where
  -- what the test that none is nearer says
  none_true : (n y : ℕ) → none_nearer n f t y ≡ true → (z : ℕ) → z < n → f z ≡ true → distance y t ≤ distance z t
  unfolding none_nearer
  none_true zero y e z l h = absurd (omega arith)
  none_true (suc n) y e z l h =
      let p = both_true (either (not (f n)) (leb (distance y t) (distance n t))) (none_nearer n f t y) e in
      go (le_or_lt n z) p.0 (λ g. none_true n y p.1 z g h)
    where
      go : (n ≤ z) ⊎ (z < n) → either (not (f n)) (leb (distance y t) (distance n t)) ≡ true → (z < n → distance y t ≤ distance z t) → distance y t ≤ distance z t
      go (inl g) p ih =
          let s : z ≡ n = omega arith in
          rw s (leb-true (distance y t) (distance n t) (rw (rw s at h) at p))
      go (inr g) p ih = ih g

  -- and the other way
  none_of : (n y : ℕ) → ((z : ℕ) → z < n → f z ≡ true → distance y t ≤ distance z t) → none_nearer n f t y ≡ true
  unfolding none_nearer
  none_of zero y h = refl
  none_of (suc n) y h = both_of (go (f n) refl) (none_of n y (λ z l. h z (omega arith)))
    where
      go : (b : Bool) → f n ≡ b → either (not b) (leb (distance y t) (distance n t)) ≡ true
      go true e = le-leb (distance y t) (distance n t) (h n (omega arith) e)
      go false e = refl

  -- nothing else is nearest
  pub nearest_unique : (n y : ℕ) → Nearest n f t y → nearest n f t ≡ y
  unfolding nearest
  nearest_unique n y N =
      let some = lowest_passes n f y N.within N.passes in
      rw (lt-ltb (lowest n f) n some.1) (lowest_unique n best y (record {
        within = omega (arith, N.within);
        none = none;
        met = λ l. both_of N.passes (none_of n y N.least);
      }))
    where
      best : ℕ → Bool
      best z = both (f z) (none_nearer n f t z)

      none : (j : ℕ) → j < y → best j ≡ false
      none j l = elim (true_or_false (best j)) [
        | inl e ↦ (
            let p = both_true (f j) (none_nearer n f t j) e in
            let j_below : j < n = omega (arith, N.within) in
            let near = none_true n j p.1 y N.within N.passes in
            absurd (omega (arith, N.lower j j_below p.0 (omega (arith, near, N.least j j_below p.0)))))
        | inr e ↦ e
      ]

  -- one number more: what is nearest of those below it stays so where it fails, or is no nearer
  stays : (n y : ℕ) → Nearest n f t y → (f n ≡ true → distance y t ≤ distance n t) → Nearest (suc n) f t y
  stays n y N h = record { within = omega (arith, N.within); passes = N.passes; least = least; lower = lower }
    where
      least : (z : ℕ) → z < suc n → f z ≡ true → distance y t ≤ distance z t
      least z l e = elim (le_or_lt n z) [ inl g ↦ (let s : z ≡ n = omega arith in rw s (h (rw s at e))) | inr g ↦ N.least z g e ]

      lower : (z : ℕ) → z < suc n → f z ≡ true → distance z t ≡ distance y t → y ≤ z
      lower z l e d = elim (le_or_lt n z) [ inl g ↦ omega (arith, N.within) | inr g ↦ N.lower z g e d ]

  -- and gives way to it where it is nearer than all that pass
  comes : (n : ℕ) → f n ≡ true → ((z : ℕ) → z < n → f z ≡ true → distance n t < distance z t) → Nearest (suc n) f t n
  comes n e h = record { within = omega arith; passes = e; least = least; lower = lower }
    where
      least : (z : ℕ) → z < suc n → f z ≡ true → distance n t ≤ distance z t
      least z l p = elim (le_or_lt n z) [ inl g ↦ (let s : z ≡ n = omega arith in rw s (omega arith)) | inr g ↦ omega (arith, h z g p) ]

      lower : (z : ℕ) → z < suc n → f z ≡ true → distance z t ≡ distance n t → n ≤ z
      lower z l p d = elim (le_or_lt n z) [ inl g ↦ g | inr g ↦ absurd (omega (arith, h z g p)) ]

  -- so where a number passes, there is a nearest
  found : (n : ℕ) → ((z : ℕ) → z < n → f z ≡ false) ⊎ ((y : ℕ) × Nearest n f t y)
  found zero = inl (λ z l. absurd (omega arith))
  found (suc n) = go (true_or_false (f n)) (found n)
    where
      go : (f n ≡ true) ⊎ (f n ≡ false) → ((z : ℕ) → z < n → f z ≡ false) ⊎ ((y : ℕ) × Nearest n f t y)
          → ((z : ℕ) → z < suc n → f z ≡ false) ⊎ ((y : ℕ) × Nearest (suc n) f t y)
      go (inl e) (inl none) = inr (n, comes n e (λ z l p. absurd (not_both p (none z l))))
      go (inl e) (inr (y, N)) = elim (le_or_lt (distance y t) (distance n t)) [
        | inl h ↦ inr (y, stays n y N (λ p. h))
        | inr h ↦ inr (n, comes n e (λ z l p. omega (arith, N.least z l p)))
      ]
      go (inr e) (inl none) =
          inl (λ z l. elim (le_or_lt n z) [ inl g ↦ (let s : z ≡ n = omega arith in rw s e) | inr g ↦ none z g ])
      go (inr e) (inr (y, N)) = inr (y, stays n y N (λ p. absurd (not_both p e)))

  -- and `nearest` is it
  pub nearest_is : (n k : ℕ) → k < n → f k ≡ true → Nearest n f t (nearest n f t)
  nearest_is n k l e = go (found n)
    where
      go : ((z : ℕ) → z < n → f z ≡ false) ⊎ ((y : ℕ) × Nearest n f t y) → Nearest n f t (nearest n f t)
      go (inl none) = absurd (not_both e (none k l))
      go (inr (y, N)) = rw (nearest_unique n y N) N

  -- where none passes it is 0
  pub nearest_none : (n : ℕ) → ((z : ℕ) → z < n → f z ≡ false) → nearest n f t ≡ 0
  unfolding nearest
  nearest_none n none = go (le_or_lt n (lowest n f))
    where
      go : (n ≤ lowest n f) ⊎ (lowest n f < n) → nearest n f t ≡ 0
      go (inl h) = rw (le-ltb (lowest n f) n h)
      go (inr h) = absurd (not_both ((lowest_is n f).met h) (none (lowest n f) h))

  module _ (n y : ℕ) (within : y < n) (passes : f y ≡ true) where
    -- one below t is it where every other that passes is below it, or as far above t at least
    pub nearest_below : y < t → ((z : ℕ) → z < n → f z ≡ true → (z ≤ y) ⊎ (t - y ≤ z - t)) → nearest n f t ≡ y
    unfolding distance
    nearest_below under others = nearest_unique n y (record { within = within; passes = passes; least = least; lower = lower })
      where
        least : (z : ℕ) → z < n → f z ≡ true → distance y t ≤ distance z t
        least z l e = elim (others z l e) [ inl h ↦ omega arith | inr h ↦ omega arith ]

        lower : (z : ℕ) → z < n → f z ≡ true → distance z t ≡ distance y t → y ≤ z
        lower z l e d = elim (others z l e) [ inl h ↦ omega arith | inr h ↦ omega arith ]

    -- one from t on is it where every other that passes is above it, or further below t
    pub nearest_from : t ≤ y → ((z : ℕ) → z < n → f z ≡ true → (y ≤ z) ⊎ (y - t < t - z)) → nearest n f t ≡ y
    unfolding distance
    nearest_from over others = nearest_unique n y (record { within = within; passes = passes; least = least; lower = lower })
      where
        least : (z : ℕ) → z < n → f z ≡ true → distance y t ≤ distance z t
        least z l e = elim (others z l e) [ inl h ↦ omega arith | inr h ↦ omega arith ]

        lower : (z : ℕ) → z < n → f z ≡ true → distance z t ≡ distance y t → y ≤ z
        lower z l e d = elim (others z l e) [ inl h ↦ h | inr h ↦ absurd (omega arith) ]
