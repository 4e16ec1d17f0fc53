-- For well-formed rows a pass over the rows of one second is a pass over all rows, and passes until nothing is added are `rounds`.
use Rattle.std.specs.Prelude.{Bool, true, false, List, ◌≢◌, ◌≡◌, eqb}
use Rattle.std.proofs.Math.Path.{refl, sym, ap}
use Rattle.std.proofs.Common.{◌∙◌, eqb-true, lt-ltb, ne_eqb}
use native.Mathlib.Omega.{arith}
use Prim.Native.Nat.{ℕ, zero, suc, ◌+◌, ◌-◌, ◌*◌, ◌≤◌, ◌<◌}
use Rattle.base.specs.Choice.{pick}
use Rattle.model.specs.Schedule.{Row, hold, move, transfer, upload}
use Rattle.model.specs.Standing.{arrive, through, rounds}
use Rattle.model.specs.RowForm.{row_at, rows_upto, rows_of, fits}
use Rattle.model.proofs.RowLaws.{fits_move}
use Rattle.model.specs.Checking.{row_count}
use Rattle.rows.specs.Passes.{join, arrival, along, settle}
use Rattle.checker.specs.Search.{second_key, key, position}
use Rattle.checker.specs.KeyLaws.{Shaped, keys_up}
use Rattle.checker.specs.SearchLaws.{position_most, before_position, from_position, position_up}
use Rattle.checker.specs.Quick.{first_of, number_of, second_pass}
use Rattle.checker.specs.QuickSets.{through_more}

-- ---- a pass that adds nothing

-- no later one adds anything
rounds_still : (n τ : ℕ) (rows : List Row) (w : ℕ) → through (arrive τ) w rows ≡ w → rounds n τ rows w ≡ w
unfolding rounds
rounds_still zero τ rows w e = refl
rounds_still (suc n) τ rows w e = rw e (rounds_still n τ rows w e)

-- so passes may stop there
pub settle_rounds : (n τ : ℕ) (rows : List Row) (f : ℕ → ℕ) → ((w : ℕ) → f w ≡ through (arrive τ) w rows) → (w : ℕ) → settle n f w ≡ rounds n τ rows w
unfolding rounds settle
settle_rounds zero τ rows f h w = refl
settle_rounds (suc n) τ rows f h w = go (eqb (f w) w) refl (settle_rounds n τ rows f h (f w))
  where
    go : (t : Bool) → eqb (f w) w ≡ t → settle n f (f w) ≡ rounds n τ rows (f w)
        → pick (eqb (f w) w) w (settle n f (f w)) ≡ rounds n τ rows (through (arrive τ) w rows)
    go true e r =
        let same : through (arrive τ) w rows ≡ w = sym (h w) ∙ eqb-true (f w) w e in
        rw (e, same) (sym (rounds_still n τ rows w same))
    go false e r = rw (e, ← h w) r

-- ---- a pass over the rows of one second

-- a row of another second adds nothing
idle : (τ : ℕ) (r : Row) → ((y x σ : ℕ) → r ≡ move (transfer y x σ) → σ ≢ τ) → (w : ℕ) → arrive τ w r ≡ w
unfolding arrive
idle τ (hold x a b) h w = refl
idle τ (move (upload x σ)) h w = refl
idle τ (move (transfer y x σ)) h w = rw (ne_eqb σ τ (h y x σ refl))

-- the step with room in the word is the step
arrival_is : (count last τ w : ℕ) (r : Row) → count ≤ 64 → fits count last r ≡ true → arrival τ w r ≡ arrive τ w r
unfolding arrival arrive join
arrival_is count last τ w (hold x a b) l e = refl
arrival_is count last τ w (move (upload x σ)) l e = refl
arrival_is count last τ w (move (transfer y x σ)) l e = rw (lt-ltb x 64 (omega (arith, (fits_move count last y x σ e).1)))

module _ (count last : ℕ) (ns : List ℕ) (s : Shaped count last ns) (τ w : ℕ) where
  -- the first k rows, once
  abbrev upto : ℕ → ℕ
  upto k = through (arrive τ) w (rows_upto ns k)

  none_yet : w ≡ upto 0
  unfolding through rows_upto
  none_yet = refl

  -- where the rows from a on up to b are of other seconds, they add nothing
  idle_run : (a n : ℕ) → ((i : ℕ) → a ≤ i → i < a + n → (y x σ : ℕ) → row_at ns i ≡ move (transfer y x σ) → σ ≢ τ) → upto (a + n) ≡ upto a
  idle_run a zero h = let e : a + 0 ≡ a = omega arith in rw e
  idle_run a (suc n) h =
      let e : a + suc n ≡ suc (a + n) = omega arith in
      rw (e, through_more (arrive τ) w ns (a + n))
      (idle τ (row_at ns (a + n)) (h (a + n) (omega arith) (omega arith)) (upto (a + n)) ∙ idle_run a n (λ i l m. h i l (omega arith)))

  abbrev start : ℕ
  start = position ns (second_key τ)

  abbrev stop : ℕ
  stop = position ns (second_key (suc τ))

  -- the rows before those of τ, and the rows after them
  earlier_row : (i : ℕ) → i < start → (y x σ : ℕ) → row_at ns i ≡ move (transfer y x σ) → σ ≢ τ
  unfolding key second_key
  earlier_row i l y x σ e d =
      let k : key (row_at ns i) ≡ 268435456 + 4096 * σ + 64 * y + x = ap key e in
      omega (arith, before_position ns (second_key τ) i l)

  later_row : (i : ℕ) → stop ≤ i → i < row_count ns → (y x σ : ℕ) → row_at ns i ≡ move (transfer y x σ) → σ ≢ τ
  unfolding key second_key
  later_row i l h y x σ e d =
      let k : key (row_at ns i) ≡ 268435456 + 4096 * σ + 64 * y + x = ap key e in
      let f = fits_move count last y x σ (rw e at (s.fit_at i h)) in
      omega (arith, s.few, f.0, f.1, from_position ns (keys_up count last ns s) (second_key (suc τ)) i l h)

  -- the first after is not before the first
  in_order : start ≤ stop
  unfolding second_key
  in_order = position_up ns (keys_up count last ns s) (second_key τ) (second_key (suc τ)) (omega arith)

  -- the rows of τ
  run : (n : ℕ) → start + n ≤ row_count ns → along ns τ start w n ≡ upto (start + n)
  unfolding along
  run zero l =
      let e : start + 0 ≡ 0 + start = omega arith in
      rw e (none_yet ∙ sym (idle_run 0 start (λ i a b. earlier_row i (omega arith))))
  run (suc n) l =
      let e : start + suc n ≡ suc (start + n) = omega arith in
      rw (e, through_more (arrive τ) w ns (start + n), run n (omega arith))
      (arrival_is count last τ (upto (start + n)) (row_at ns (start + n)) s.few (s.fit_at (start + n) (omega arith)))

  -- all of it
  pub pass_through : second_pass ns τ w ≡ through (arrive τ) w (rows_of ns)
  unfolding second_pass first_of number_of rows_of row_count
  pass_through =
      let l = position_most ns (second_key (suc τ)) in
      let e : start + (stop - start) ≡ stop = omega (arith, in_order) in
      let d : stop + (row_count ns - stop) ≡ row_count ns = omega arith in
      run (stop - start) (omega arith)
      ∙ ap upto e
      ∙ sym (ap upto (sym d) ∙ idle_run stop (row_count ns - stop) (λ i a b. later_row i a (omega arith)))
