-- The member of a word nearest to t, by counts of zeros: of those above the highest member below t, with t - 1 moved to the top of the word, and of
-- those below the lowest member from t on, with t moved to the bottom. Assumes nothing.
use Rattle.std.specs.Prelude.{true, false, ◌⊎◌, ◌≡◌, ℕ, suc, ◌+◌, ◌-◌, ◌*◌, ◌/◌, ◌%◌, ◌^◌, ◌≤◌, ◌<◌}
use Rattle.std.proofs.Common.{inl, inr, sym, ap, ◌∙◌, arith, zero-mul, mod-lt, pow_pos}
use Rattle.std.specs.Int.Count.{count_leading_zeros, leading_of_zero}
use Rattle.base.specs.Choice.{le_or_lt, not_both}
use Rattle.base.specs.Sets.{has, lowest}
use Rattle.base.specs.SetLaws.{has_none, has_under}
use Rattle.base.specs.LowestLaws.{lowest_is, lowest_passes}
use Rattle.base.specs.WordLaws.{has_shifted, has_below, raised, leading_highest, leading_raised}
use Rattle.base.specs.Nearest.{nearest}
use Rattle.base.specs.NearestLaws.{nearest_none, nearest_below, nearest_from}

-- the empty word has none
pub nearest_empty : (n t : ℕ) → nearest n (has 0) t ≡ 0
nearest_empty n t = nearest_none (has 0) t n (λ k l. has_none k)

-- to a number past the word's end the highest member is nearest
pub nearest_past : (n w t : ℕ) → 0 < w → w < 2 ^ n → n ≤ t → count_leading_zeros n w + suc (nearest n (has w) t) ≡ n
nearest_past n w t p fits past =
    let h = leading_highest n w p fits in
    let H = h.2 in
    let e : nearest n (has w) t ≡ h.0 = nearest_below (has w) t n h.0 H.within H.met (omega (arith, H.within))
    (λ z l m. elim (le_or_lt z h.0) [ inl g ↦ inl g | inr g ↦ absurd (not_both m (H.none z g)) ]) in
    rw e h.1

module _ (n t j w : ℕ) (whole : suc (t + j) ≡ n) (fits : w < 2 ^ n) where
  -- the zeros above the highest member below t, as shifts by one and by j bring t - 1 to the top
  abbrev behind : ℕ
  behind = count_leading_zeros n (w * 2 % 2 ^ n * 2 ^ j % 2 ^ n)

  -- the zeros below the lowest member from t on
  abbrev ahead : ℕ
  ahead = lowest n (has (w / 2 ^ t))

  -- ---- below t

  -- y is the highest member below t, with the zeros above it
  record Below (y : ℕ) : Type 0 where
    zeros : behind + suc y ≡ t
    member : has w y ≡ true
    last : (z : ℕ) → z < t → has w z ≡ true → z ≤ y

  -- there is one, or there is none and all are zeros
  below : ((y : ℕ) × Below y) ⊎ ((behind ≡ n) × ((z : ℕ) → z < t → has w z ≡ false))
  below = go (le_or_lt (w % 2 ^ t) 0)
    where
      go : (w % 2 ^ t ≤ 0) ⊎ (0 < w % 2 ^ t) → ((y : ℕ) × Below y) ⊎ ((behind ≡ n) × ((z : ℕ) → z < t → has w z ≡ false))
      go (inl h) =
          let e : w % 2 ^ t ≡ 0 = omega arith in
          inr (
            ap (count_leading_zeros n) (raised n t j w whole ∙ ap (λ (x : ℕ). x * 2 ^ suc j) e ∙ zero-mul (2 ^ suc j)) ∙ leading_of_zero n,
            λ z l. sym (has_below w t z l) ∙ ap (λ (x : ℕ). has x z) e ∙ has_none z,
          )
      go (inr p) =
          let h = leading_highest t (w % 2 ^ t) p (mod-lt w (pow_pos t)) in
          let H = h.2 in
          inl (
            h.0,
            record {
              zeros = rw (raised n t j w whole, leading_raised n t (suc j) (w % 2 ^ t) (omega arith) p (mod-lt w (pow_pos t))) h.1;
              member = sym (has_below w t h.0 H.within) ∙ H.met;
              last = λ z l m. elim (le_or_lt z h.0) [ inl g ↦ g | inr g ↦ absurd (not_both m (sym (has_below w t z l) ∙ H.none z g)) ];
            },
          )

  -- ---- from t on

  -- a member from t on is one of the shifted word
  shifted : (z : ℕ) → t ≤ z → has w z ≡ has (w / 2 ^ t) (z - t)
  shifted z l =
      let e : t + (z - t) ≡ z = omega arith in
      sym (has_shifted w t (z - t) ∙ ap (has w) e)

  -- none is before all those zeros
  from_last : (z : ℕ) → t ≤ z → has w z ≡ true → t + ahead ≤ z
  from_last z l m = elim (le_or_lt (t + ahead) z) [
    | inl h ↦ h
    | inr h ↦ absurd (not_both m (shifted z l ∙ (lowest_is n (has (w / 2 ^ t))).none (z - t) (omega arith)))
  ]

  -- where not all are zeros there is one after them
  from_member : ahead < n → has w (t + ahead) ≡ true
  from_member h = sym (has_shifted w t ahead) ∙ (lowest_is n (has (w / 2 ^ t))).met h

  -- ---- the nearest

  -- the one below, where there are fewer zeros above it
  pub below_nearest : behind + 1 ≤ ahead → nearest n (has w) t + (behind + 1) ≡ t
  below_nearest h = go below
    where
      go : ((y : ℕ) × Below y) ⊎ ((behind ≡ n) × ((z : ℕ) → z < t → has w z ≡ false)) → nearest n (has w) t + (behind + 1) ≡ t
      go (inl (y, B)) =
          let e : nearest n (has w) t ≡ y = nearest_below (has w) t n y (omega (arith, B.zeros)) B.member (omega (arith, B.zeros))
          (λ z l m. elim (le_or_lt t z) [ inl g ↦ inr (omega (arith, B.zeros, from_last z g m)) | inr g ↦ inl (B.last z g m) ]) in
          omega (arith, e, B.zeros)
      go (inr (e, none)) = absurd (omega (arith, (lowest_is n (has (w / 2 ^ t))).within))

  -- else the one from t on, where the word is not empty
  pub from_nearest : 0 < w → ahead < behind + 1 → nearest n (has w) t ≡ t + ahead
  from_nearest p h = go below
    where
      is_from : ahead < n → ((z : ℕ) → z < t → has w z ≡ true → ahead < t - z) → nearest n (has w) t ≡ t + ahead
      is_from l others =
          nearest_from (has w) t n (t + ahead) (has_under n w (t + ahead) fits (from_member l)) (from_member l) (omega arith)
          (λ z k m. elim (le_or_lt t z) [ inl g ↦ inl (from_last z g m) | inr g ↦ inr (omega (arith, others z g m)) ])

      go : ((y : ℕ) × Below y) ⊎ ((behind ≡ n) × ((z : ℕ) → z < t → has w z ≡ false)) → nearest n (has w) t ≡ t + ahead
      go (inl (y, B)) = is_from (omega (arith, B.zeros)) (λ z l m. omega (arith, B.zeros, B.last z l m))
      go (inr (e, none)) = is_from some (λ z l m. absurd (not_both m (none z l)))
        where
          some : ahead < n
          some =
              let h = leading_highest n w p fits in
              let H = h.2 in
              elim (le_or_lt t h.0) [
                | inl g ↦ (lowest_passes n (has (w / 2 ^ t)) (h.0 - t) (omega (arith, H.within)) (sym (shifted h.0 g) ∙ H.met)).1
                | inr g ↦ absurd (not_both H.met (none h.0 g))
              ]
