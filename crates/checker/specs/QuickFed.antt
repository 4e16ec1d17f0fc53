-- For well-formed rows the first hold with no copy at its start is the first to which no copy may come or which is starved.
use Rattle.std.proofs.Math.Bool.{Bool}
use Rattle.base.specs.declared.reasons.Reason.TheVariants as reason
use Rattle.std.specs.Prelude.{true, false, not, ◌⊎◌, ◌≢◌, ◌≡◌, eqb, Err}
use mathlib.Core.List.{List, [], ◌∷◌}
use Rattle.std.proofs.Common.{inl, inr, sym, ap, ◌∙◌}
use Rattle.std.proofs.Math.Path.{refl}
use native.Mathlib.Omega.{arith}
use Prim.Native.Nat.{ℕ, suc, ◌+◌, ◌-◌, ◌≤◌, ◌<◌}
use borrow.Author.Tests.{eqb-true, eq-eqb, ne_eqb, lt-ltb, le-leb}
use Rattle.base.specs.Choice.{pick, both, either, same_or_not, true_or_false, not_both}
use Rattle.base.specs.Sets.{has}
use Rattle.base.specs.Refusals.{refuse, first}
use Rattle.base.specs.RefusalLaws.{first_met}
use Rattle.base.specs.ChoiceLaws.{both_true, either_true}
use Rattle.model.specs.Requests.{Requests}
use Rattle.model.specs.Schedule.{hold, move, transfer, Stands, at_home, held, arrived, uploaded}
use Rattle.model.specs.Standing.{stands}
use Rattle.model.proofs.StandingLaws.{stands_sound}
use Rattle.model.specs.RowForm.{row_at, rows_of}
use Rattle.model.proofs.RowLaws.{fits_hold, row_member, member_row}
use Rattle.model.specs.Checking.{row_count, backed, copy_condition}
use Rattle.rows.specs.Reading.{server_of, second_of, target_of}
use Rattle.rows.specs.Passes.{covers, any_below, aims, starts}
use Rattle.rows.specs.AnyLaws.{any_is, any_of, either_last, same_test}
use Rattle.checker.specs.Search.{hold_key, position}
use Rattle.checker.specs.KeyLaws.{Shaped}
use Rattle.checker.specs.Quick.{first_of, number_of, first_upload, standing_at, loaded, fed, unfed, starved, hold_test}
use Rattle.checker.specs.QuickStanding.{in_second}
use Rattle.checker.specs.QuickUploads.{loaded_of, loaded_is}
use Rattle.checker.specs.QuickHolds.{unfed_by, starved_first, starved_one, starting, there, hold_uncovered, hold_agrees, hold_position, first_within, hold_row, second_row}

-- ---- the hold that a set leaves without a copy

-- the search's answer where the set has not the server and the hold is there
unfed_found : (ns : List ℕ) (w τ x i : ℕ) → has w x ≡ false → position ns (hold_key x τ) ≡ i → starts τ x (row_at ns i) ≡ true → unfed ns w τ x ≡ i
unfolding unfed
unfed_found ns w τ x i e d h = rw (e, d, h)

-- and only there it is a row
unfed_row : (ns : List ℕ) (w τ x : ℕ) → unfed ns w τ x < row_count ns → (has w x ≡ false) × (starts τ x (row_at ns (unfed ns w τ x)) ≡ true)
unfolding unfed
unfed_row ns w τ x = go (has w x) (starts τ x (row_at ns (position ns (hold_key x τ)))) refl refl
  where
    go : (m b : Bool) → has w x ≡ m → starts τ x (row_at ns (position ns (hold_key x τ))) ≡ b
        → pick (has w x) (row_count ns) (pick (starts τ x (row_at ns (position ns (hold_key x τ)))) (position ns (hold_key x τ)) (row_count ns)) < row_count ns
        → (has w x ≡ false)
        × (starts τ x (row_at ns (pick (has w x) (row_count ns) (pick (starts τ x (row_at ns (position ns (hold_key x τ)))) (position ns (hold_key x τ)) (row_count ns)))) ≡ true)
    go true b p q l = absurd (let d = rw p at l in omega (arith, d))
    go false true p q l = (p, rw (p, q) q)
    go false false p q l = absurd (let d = rw (p, q) at l in omega (arith, d))

-- a hold of x from a on starts there
starts_own : (x a b : ℕ) → starts a x (hold x a b) ≡ true
unfolding starts
starts_own x a b = rw (eq-eqb x x refl, eq-eqb a a refl)

-- a hold of x that began before τ and reaches it covers it
covers_own : (τ x a b : ℕ) → a < τ → τ ≤ b → covers τ x (hold x a b) ≡ true
unfolding covers
covers_own τ x a b p q = rw (eq-eqb x x refl, lt-ltb a τ p, le-leb τ b q)

-- a transfer to x
aiming : (x : ℕ) (y z τ : ℕ) → aims x (move (transfer y z τ)) ≡ true → z ≡ x
unfolding aims
aiming x y z τ e = eqb-true z x e

aims_own : (x y τ : ℕ) → aims x (move (transfer y x τ)) ≡ true
unfolding aims
aims_own x y τ = eq-eqb x x refl

module _ (count last : ℕ) (ns : List ℕ) (s : Shaped count last ns) (home : ℕ) (inside : home < count) where
  -- the first starved hold
  abbrev pub low : ℕ
  low = starved count home ns (first_of ns 0) (first_upload ns 0 - first_of ns 0)

  -- where a copy stands at a hold's start, one may come there
  stands_fed : (x a b i : ℕ) → i < row_count ns → row_at ns i ≡ hold x a b → Stands home (rows_of ns) x a → fed home ns a x ≡ true
  unfolding fed rows_of row_count
  stands_fed x a b i l e at_home = rw (eq-eqb 0 0 refl, eq-eqb home home refl)
  stands_fed x a b i l e (held {a = c} {b = d} m p q) =
      let (j, h, r) = member_row ns (row_count ns) m in
      absurd (not_both (any_of (row_count ns) (λ j. covers a x (row_at ns j)) j h (rw (← r) (covers_own a x c d p q)))
      (hold_uncovered count last ns s home inside x a b i l e))
  stands_fed x a b i l e (arrived {y = y} m st) =
      let (j, h, d) = member_row ns (row_count ns) m in
      let (f, g) = in_second count last ns s a y x j h (sym d) in
      let k : first_of ns a + (j - first_of ns a) ≡ j = omega arith in
      either_last (both (eqb a 0) (eqb x home)) _
      (rw (any_of (number_of ns a) (λ j. aims x (row_at ns (first_of ns a + j))) (j - first_of ns a) (omega arith) (rw (k, ← d) (aims_own x y a))))
  stands_fed x a b i l e (uploaded m) =
      let (j, h, d) = member_row ns (row_count ns) m in
      either_last (both (eqb a 0) (eqb x home)) _ (either_last (any_below (number_of ns a) (λ j. aims x (row_at ns (first_of ns a + j)))) (loaded ns a x)
      (loaded_of count last ns s a x j h (sym d)))

  -- the first starved hold has no copy at its start
  low_none : (x a b i : ℕ) → i ≡ low → i < row_count ns → row_at ns i ≡ hold x a b → stands count home (rows_of ns) x a ≡ false
  low_none x a b i z l e = go (starved_one count home ns (first_of ns 0) (first_upload ns 0 - first_of ns 0) (rw z at l))
    where
      go : (j : ℕ) × (j < first_upload ns 0 - first_of ns 0) × (low ≡ unfed_by count home ns (first_of ns 0) j) → stands count home (rows_of ns) x a ≡ false
      go (j, h, d) =
          let r = row_at ns (first_of ns 0 + j) in
          let w = standing_at count home ns (second_of r) in
          let same : i ≡ unfed ns w (second_of r) (target_of r) = z ∙ d in
          let (m, t) = unfed_row ns w (second_of r) (target_of r) (rw same at l) in
          let (c, f) = starting (second_of r) (target_of r) (row_at ns i) (rw same t) in
          let k : hold x a b ≡ hold (target_of r) (second_of r) c = sym e ∙ f in
          let server : x ≡ target_of r = cc in
          let second : a ≡ second_of r = cc in
          sym (hold_agrees count last ns s home inside x a b i l e) ∙ rw (server, second) m

  -- a hold before it, to which a copy may come, has one
  fed_stands : (x a b i : ℕ) → i < row_count ns → row_at ns i ≡ hold x a b → i < low → fed home ns a x ≡ true → stands count home (rows_of ns) x a ≡ true
  unfolding fed second_of target_of rows_of row_count
  fed_stands x a b i l e h f = go (either_true (both (eqb a 0) (eqb x home)) (either (any_below (number_of ns a) aim) (loaded ns a x)) f)
    where
      aim : ℕ → Bool
      aim j = aims x (row_at ns (first_of ns a + j))

      by : (k y : ℕ) → k < first_upload ns 0 - first_of ns 0 → row_at ns (first_of ns 0 + k) ≡ move (transfer y x a)
          → (has (standing_at count home ns a) x ≡ true) ⊎ (has (standing_at count home ns a) x ≡ false) → stands count home (rows_of ns) x a ≡ true
      by k y g r (inl t) = sym (hold_agrees count last ns s home inside x a b i l e) ∙ t
      by k y g r (inr t) =
          let u : unfed ns (standing_at count home ns a) a x ≡ i =
          unfed_found ns (standing_at count home ns a) a x i t (hold_position count last ns s home inside x a b i l e) (rw e (starts_own x a b)) in
          let v : low ≤ unfed ns (standing_at count home ns a) a x =
          rw r at (starved_first count home ns (first_of ns 0) (first_upload ns 0 - first_of ns 0) k g) in
          absurd (omega (arith, u, v))

      moved : (any_below (number_of ns a) aim ≡ true) ⊎ (loaded ns a x ≡ true) → stands count home (rows_of ns) x a ≡ true
      moved (inl t) =
          let (j, m, g) = any_is (number_of ns a) aim t in
          let (u, v, w) = fits_hold count last x a b (rw e at (s.fit_at i l)) in
          let (y, c, r, p, q) = second_row count last ns s home inside a j (omega arith) m in
          let d : c ≡ x = aiming x y c a (rw r at g) in
          let k : first_of ns 0 + (first_of ns a + j - first_of ns 0) ≡ first_of ns a + j = omega arith in
          by (first_of ns a + j - first_of ns 0) y (omega arith) (ap (row_at ns) k ∙ r ∙ ap (λ (v : ℕ). move (transfer y v a)) d) (true_or_false (has (standing_at count home ns a) x))
      moved (inr t) =
          let (j, m, r) = loaded_is count last ns s a x t in
          there count last ns s home inside (uploaded (rw r at (row_member ns (row_count ns) j m)))

      go : (both (eqb a 0) (eqb x home) ≡ true) ⊎ (either (any_below (number_of ns a) aim) (loaded ns a x) ≡ true) → stands count home (rows_of ns) x a ≡ true
      go (inl t) =
          let (p, q) = both_true (eqb a 0) (eqb x home) t in
          rw (eqb-true a 0 p, eqb-true x home q) (there count last ns s home inside at_home)
      go (inr t) = moved (either_true (any_below (number_of ns a) aim) (loaded ns a x) t)

  -- 17 for the first starved hold
  pub low_refused : first (hold_test home ns low low) ≡ Err (record { reason = reason.NoCopy; place = suc low })
  unfolding hold_test
  low_refused =
      first_met (refuse reason.NoCopy (suc low) (either (eqb low low) (not (fed home ns (second_of (row_at ns low)) (server_of (row_at ns low)))))) []
      (rw (eq-eqb low low refl))

  module _ (q : Requests) (z : q.server 0 ≡ home) where
    -- 17 for a hold, up to the first starved one
    pub same_hold : (i : ℕ) → i < first_of ns 0 → i ≤ low → hold_test home ns low i ≡ copy_condition count q ns i
    unfolding hold_test copy_condition backed second_of server_of
    same_hold i l h =
        let (x, a, b, e) = hold_row count last ns s home inside i l in
        rw (z, e) (ap (λ (t : Bool). refuse reason.NoCopy (suc i) t ∷ []) (go x a b e (same_or_not i low)))
      where
        m : i < row_count ns
        m = omega (arith, first_within count last ns s home inside 0)

        go : (x a b : ℕ) → row_at ns i ≡ hold x a b → (i ≡ low) ⊎ (i ≢ low) → either (eqb i low) (not (fed home ns a x)) ≡ not (stands count home (rows_of ns) x a)
        go x a b e (inl d) = rw (eq-eqb i low d, low_none x a b i d m e)
        go x a b e (inr d) =
            rw (ne_eqb i low d)
            (ap not (same_test (fed home ns a x) (stands count home (rows_of ns) x a) (fed_stands x a b i m e (omega arith))
            (λ t. stands_fed x a b i m e (stands_sound count home (rows_of ns) x a t))))
