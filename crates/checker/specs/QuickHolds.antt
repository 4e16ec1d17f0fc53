-- For well-formed rows a copy stands at a hold's start if and only if one may come there and the hold is none of those that are starved.
use Rattle.std.specs.Prelude.{true, false, ◌⊎◌, ◌≢◌, ◌≡◌, eqb}
use mathlib.Core.List.{List, Memᴰ}
use Rattle.std.proofs.Math.Logic.{inl, inr}
use Rattle.std.proofs.Math.Path.{refl, ap}
use Rattle.std.proofs.Common.{◌∙◌, eqb-true}
use native.Mathlib.Omega.{arith}
use Prim.Native.Nat.{ℕ, zero, suc, ◌+◌, ◌*◌, min, ◌≤◌, ◌<◌}
use Rattle.base.specs.Choice.{le_or_lt, same_or_not, true_or_false, not_both}
use Rattle.base.specs.Sets.{has}
use Rattle.base.specs.ChoiceLaws.{both_true}
use Rattle.model.specs.Schedule.{Row, hold, move, transfer, upload, Stands}
use Rattle.model.specs.Standing.{stands}
use Rattle.model.proofs.StandingLaws.{stands_complete}
use Rattle.model.specs.RowForm.{row_at, rows_of}
use Rattle.model.proofs.RowLaws.{fits_hold, fits_move, member_row}
use Rattle.model.specs.Checking.{row_count}
use Rattle.rows.specs.Reading.{second_of, target_of}
use Rattle.rows.specs.Passes.{covers, any_below, starts}
use Rattle.rows.specs.AnyLaws.{any_is}
use Rattle.checker.specs.Search.{hold_key, second_key, upload_key, key, position}
use Rattle.checker.specs.KeyLaws.{Shaped, end_key, keys_rise, keys_up}
use Rattle.checker.specs.SearchLaws.{position_most, before_position, from_position, position_up, own_position}
use Rattle.checker.specs.Quick.{first_of, number_of, first_upload, standing_at, unfed, starved}
use Rattle.checker.specs.QuickReach.{Covering, covering}
use Rattle.checker.specs.QuickStanding.{standing_agrees}

-- ---- the lower of two numbers, and the lowest of many

lower_left : (a b : ℕ) → min a b ≤ a
lower_left a b = omega arith

lower_right : (a b : ℕ) → min a b ≤ b
lower_right a b = omega arith

pub lower_within : (a b c : ℕ) → b ≤ c → min a b ≤ c
lower_within a b c l = omega (arith, lower_right a b)

lower_one : (a b : ℕ) → (min a b ≡ a) ⊎ (min a b ≡ b)
lower_one a b = elim (le_or_lt a b) [ inl l ↦ inl (omega (arith, l)) | inr l ↦ inr (omega (arith, l)) ]

module _ (count home : ℕ) (ns : List ℕ) (from : ℕ) where
  -- what row from + j leaves without a copy
  abbrev pub unfed_by : ℕ → ℕ
  unfed_by j =
      unfed ns (standing_at count home ns (second_of (row_at ns (from + j)))) (second_of (row_at ns (from + j))) (target_of (row_at ns (from + j)))

  -- the first starved hold is no later than any of these, and is one of them where there is one
  pub starved_first : (n j : ℕ) → j < n → starved count home ns from n ≤ unfed_by j
  unfolding starved
  starved_first zero j l = absurd (omega arith)
  starved_first (suc n) j l = go (same_or_not j n) (starved_first n j)
    where
      go : (j ≡ n) ⊎ (j ≢ n) → (j < n → starved count home ns from n ≤ unfed_by j) → min (unfed_by n) (starved count home ns from n) ≤ unfed_by j
      go (inl e) r = rw e (lower_left (unfed_by n) (starved count home ns from n))
      go (inr d) r = omega (arith, r (omega arith), lower_right (unfed_by n) (starved count home ns from n))

  pub starved_one : (n : ℕ) → starved count home ns from n < row_count ns → (j : ℕ) × (j < n) × (starved count home ns from n ≡ unfed_by j)
  unfolding starved
  starved_one zero l = absurd (omega arith)
  starved_one (suc n) l = go (lower_one (unfed_by n) (starved count home ns from n)) (starved_one n)
    where
      go : (min (unfed_by n) (starved count home ns from n) ≡ unfed_by n) ⊎ (min (unfed_by n) (starved count home ns from n) ≡ starved count home ns from n)
          → (starved count home ns from n < row_count ns → (j : ℕ) × (j < n) × (starved count home ns from n ≡ unfed_by j))
          → (j : ℕ) × (j < suc n) × (min (unfed_by n) (starved count home ns from n) ≡ unfed_by j)
      go (inl e) r = (n, omega arith, e)
      go (inr e) r = let (j, h, d) = r (omega arith) in (j, omega arith, e ∙ d)

-- ---- a hold and its start

-- a row that is a hold of x from τ on
pub starting : (τ x : ℕ) (r : Row) → starts τ x r ≡ true → (b : ℕ) × (r ≡ hold x τ b)
unfolding starts
starting τ x (hold y a b) e =
    let (p, q) = both_true (eqb y x) (eqb a τ) e in
    (b, ap (λ (z : ℕ). hold z a b) (eqb-true y x p) ∙ ap (λ (z : ℕ). hold x z b) (eqb-true a τ q))
starting τ x (move v) e = absurd (not_both e refl)

module _ (count last : ℕ) (ns : List ℕ) (s : Shaped count last ns) (home : ℕ) (inside : home < count) where
  -- where a copy stands, said of the set of all rows
  pub there : {x τ : ℕ} → Stands home (rows_of ns) x τ → stands count home (rows_of ns) x τ ≡ true
  unfolding rows_of row_count
  there st = stands_complete count home (rows_of ns) below st
    where
      below : (y x σ : ℕ) → Memᴰ (move (transfer y x σ)) (rows_of ns) → x < count
      below y x σ m = let (i, l, e) = member_row ns (row_count ns) m in (fits_move count last y x σ (rw e (s.fit_at i l))).1

  -- no hold keeps the copy up to a hold's start
  pub hold_uncovered : (x a b i : ℕ) → i < row_count ns → row_at ns i ≡ hold x a b → any_below (row_count ns) (λ j. covers a x (row_at ns j)) ≡ false
  unfolding key end_key hold_key
  hold_uncovered x a b i l e = elim (true_or_false (any_below (row_count ns) (λ j. covers a x (row_at ns j)))) [
    | inl t ↦ (let (j, h, c) = any_is (row_count ns) (λ j. covers a x (row_at ns j)) t in absurd (clash j h (covering a x (row_at ns j) c)))
    | inr t ↦ t
  ]
    where
      clash : (j : ℕ) → j < row_count ns → Covering a x (row_at ns j) → ⊥
      clash j h c = go (le_or_lt i j) (same_or_not i j)
        where
          mine : (key (row_at ns i) ≡ 4194304 * x + a) × (end_key (row_at ns i) ≡ 4194304 * x + b)
          mine = (ap key e, ap end_key e)

          its : (key (row_at ns j) ≡ 4194304 * x + c.from) × (end_key (row_at ns j) ≡ 4194304 * x + c.to)
          its = (ap key c.is, ap end_key c.is)

          go : (i ≤ j) ⊎ (j < i) → (i ≡ j) ⊎ (i ≢ j) → ⊥
          go (inl d) (inl z) = omega (arith, mine, its, c.began, ap (λ (k : ℕ). key (row_at ns k)) z)
          go (inl d) (inr z) = omega (arith, mine, its, c.began, keys_rise count last ns s i j (omega arith) h, (fits_hold count last x a b (rw e at (s.fit_at i l))).1)
          go (inr d) z = omega (arith, mine, its, c.lasts, keys_rise count last ns s j i d l)

  -- so the set of its second says whether a copy stands there
  pub hold_agrees : (x a b i : ℕ) → i < row_count ns → row_at ns i ≡ hold x a b → has (standing_at count home ns a) x ≡ stands count home (rows_of ns) x a
  hold_agrees x a b i l e = standing_agrees count last ns s home inside a x (inr (hold_uncovered x a b i l e))

  -- the search for its start finds it
  pub hold_position : (x a b i : ℕ) → i < row_count ns → row_at ns i ≡ hold x a b → position ns (hold_key x a) ≡ i
  unfolding key
  hold_position x a b i l e = own_position ns (keys_up count last ns s) (hold_key x a) i l (ap key e)

  -- ---- which rows are holds, and which are transfers of a second

  pub first_within : (τ : ℕ) → first_of ns τ ≤ row_count ns
  unfolding first_of
  first_within τ = position_most ns (second_key τ)

  -- the first transfer is not after the first upload
  pub transfers_first : first_of ns 0 ≤ first_upload ns 0
  unfolding first_of first_upload second_key upload_key
  transfers_first = position_up ns (keys_up count last ns s) (second_key 0) (upload_key 0 0) (omega arith)

  pub upload_within : first_upload ns 0 ≤ row_count ns
  unfolding first_upload
  upload_within = position_most ns (upload_key 0 0)

  -- before the first transfer all rows are holds
  pub hold_row : (i : ℕ) → i < first_of ns 0 → (x : ℕ) × (a : ℕ) × (b : ℕ) × (row_at ns i ≡ hold x a b)
  unfolding first_of key second_key upload_key
  hold_row i l = go (row_at ns i) refl
    where
      go : (r : Row) → row_at ns i ≡ r → (x : ℕ) × (a : ℕ) × (b : ℕ) × (row_at ns i ≡ hold x a b)
      go (hold x a b) e = (x, a, b, e)
      go (move (transfer y x τ)) e =
          let k : key (row_at ns i) ≡ 268435456 + 4096 * τ + 64 * y + x = ap key e in
          absurd (omega (arith, before_position ns (second_key 0) i l))
      go (move (upload x τ)) e =
          let k : key (row_at ns i) ≡ 34359738368 + 4097 * τ + 64 * x = ap key e in
          absurd (omega (arith, before_position ns (second_key 0) i l))

  -- from it on, up to the first upload, all are transfers
  pub transfer_row : (i : ℕ) → first_of ns 0 ≤ i → i < first_upload ns 0 → (y : ℕ) × (x : ℕ) × (τ : ℕ) × (row_at ns i ≡ move (transfer y x τ))
  unfolding first_of first_upload key hold_key second_key upload_key
  transfer_row i l h = go (row_at ns i) refl
    where
      inside_rows : i < row_count ns
      inside_rows = omega (arith, position_most ns (upload_key 0 0))

      go : (r : Row) → row_at ns i ≡ r → (y : ℕ) × (x : ℕ) × (τ : ℕ) × (row_at ns i ≡ move (transfer y x τ))
      go (hold x a b) e =
          let k : key (row_at ns i) ≡ 4194304 * x + a = ap key e in
          let (p, q, t) = fits_hold count last x a b (rw e at (s.fit_at i inside_rows)) in
          absurd (omega (arith, s.few, s.early, from_position ns (keys_up count last ns s) (second_key 0) i l inside_rows))
      go (move (transfer y x τ)) e = (y, x, τ, e)
      go (move (upload x τ)) e =
          let k : key (row_at ns i) ≡ 34359738368 + 4097 * τ + 64 * x = ap key e in
          absurd (omega (arith, before_position ns (upload_key 0 0) i h))

  -- the transfers of a second that a log may have are transfers of it
  pub second_row : (τ j : ℕ) → τ ≤ last → j < number_of ns τ
      → (y : ℕ) × (x : ℕ) × (row_at ns (first_of ns τ + j) ≡ move (transfer y x τ)) × (first_of ns 0 ≤ first_of ns τ + j) × (first_of ns τ + j < first_upload ns 0)
  unfolding first_of number_of first_upload key second_key upload_key
  second_row τ j early l =
      let (y, x, σ, e) = transfer_row i before after in
      let k : key (row_at ns i) ≡ 268435456 + 4096 * σ + 64 * y + x = ap key e in
      let f = fits_move count last y x σ (rw e at (s.fit_at i inside_rows)) in
      let same : σ ≡ τ = omega (arith, s.few, f.0, f.1, low, high) in
      (y, x, e ∙ ap (λ (z : ℕ). move (transfer y x z)) same, before, after)
    where
      i : ℕ
      i = position ns (second_key τ) + j

      inside_rows : i < row_count ns
      inside_rows = omega (arith, position_most ns (second_key (suc τ)))

      low : second_key τ ≤ key (row_at ns i)
      low = from_position ns (keys_up count last ns s) (second_key τ) i (omega arith) inside_rows

      high : key (row_at ns i) < second_key (suc τ)
      high = before_position ns (second_key (suc τ)) i (omega arith)

      before : position ns (second_key 0) ≤ i
      before = omega (arith, position_up ns (keys_up count last ns s) (second_key 0) (second_key τ) (omega arith))

      after : i < position ns (upload_key 0 0)
      after = omega (arith, position_up ns (keys_up count last ns s) (second_key (suc τ)) (upload_key 0 0) (omega (arith, s.early)))
