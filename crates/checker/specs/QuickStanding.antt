-- For well-formed rows the set of a second, by searches and by its own transfers, says of its sources, and of each server that no
-- hold keeps up to that second, whether a copy stands there.
use Rattle.std.specs.Prelude.{true, ◌⊎◌, ◌≢◌, ◌≡◌, refl}
use mathlib.Core.List.{List, [], ◌∷◌, Memᴰ}
use Rattle.std.proofs.Math.Logic.{inl, inr}
use Rattle.std.proofs.Common.{sym, ◌∙◌, eq-eqb, ne_eqb}
use Rattle.std.proofs.Math.Path.{ap}
use native.Mathlib.Omega.{arith}
use Prim.Native.Nat.{ℕ, zero, suc, ◌+◌, ◌-◌, ◌*◌, ◌≤◌, ◌<◌}
use Rattle.std.proofs.Math.Dec.{eqb}
use Rattle.base.specs.Choice.{pick, both, le_or_lt, same_or_not}
use Rattle.base.specs.Sets.{has, put}
use Rattle.model.specs.Schedule.{Row, hold, move, transfer, upload}
use Rattle.model.specs.Standing.{arrive, through, reached, rounds, standing, stands}
use Rattle.model.specs.RowForm.{row_at, rows_of}
use Rattle.model.proofs.RowLaws.{fits_move, member_row}
use Rattle.model.specs.Checking.{row_count}
use Rattle.rows.specs.Reading.{server_of}
use Rattle.rows.specs.AnyLaws.{any_of, either_last}
use Rattle.checker.specs.Search.{second_key, key, position}
use Rattle.checker.specs.KeyLaws.{Shaped, keys_up}
use Rattle.checker.specs.SearchLaws.{position_most, before_position, from_position}
use Rattle.checker.specs.Quick.{sources, first_of, number_of, before_transfers, second_pass, standing_at}
use Rattle.checker.specs.QuickSets.{put_has, servers_has}
use Rattle.checker.specs.QuickUploads.{server_below}
use Rattle.checker.specs.QuickReach.{Known, before_agrees}
use Rattle.checker.specs.QuickRounds.{settle_rounds, pass_through}

-- ---- sets that agree on some servers

module _ (Some : ℕ → Type 0) (τ : ℕ) where
  abbrev Agree : ℕ → ℕ → Type 0
  Agree u v = (k : ℕ) → Some k → has u k ≡ has v k

  -- agree after a row too, if its source is one of them
  arrive_agrees : (r : Row) → ((y x : ℕ) → r ≡ move (transfer y x τ) → Some y) → (u v : ℕ) → Agree u v → Agree (arrive τ u r) (arrive τ v r)
  unfolding arrive
  arrive_agrees (hold x a b) h u v g k s = g k s
  arrive_agrees (move (upload x σ)) h u v g k s = g k s
  arrive_agrees (move (transfer y x σ)) h u v g k s = go (same_or_not σ τ)
    where
      go : (σ ≡ τ) ⊎ (σ ≢ τ) → has (pick (both (eqb σ τ) (has u y)) (put u x) u) k ≡ has (pick (both (eqb σ τ) (has v y)) (put v x) v) k
      go (inl e) =
          let same : has u y ≡ has v y = g y (h y x (ap (λ (z : ℕ). move (transfer y x z)) e)) in
          put_has (both (eqb σ τ) (has u y)) u x k
          ∙ rw (g k s, same) (sym (put_has (both (eqb σ τ) (has v y)) v x k))
      go (inr d) = rw (ne_eqb σ τ d) (g k s)

  -- after all rows, and after all rounds
  through_agrees : (rows : List Row) → ((y x : ℕ) → Memᴰ (move (transfer y x τ)) rows → Some y) → (u v : ℕ) → Agree u v
      → Agree (through (arrive τ) u rows) (through (arrive τ) v rows)
  unfolding through
  through_agrees [] h u v g = g
  through_agrees (r ∷ rows) h u v g =
      through_agrees rows (λ y x m. h y x (Memᴰ.tail m)) (arrive τ u r) (arrive τ v r)
      (arrive_agrees r (λ y x e. h y x (Memᴰ.head (sym e))) u v g)

  rounds_agree : (n : ℕ) (rows : List Row) → ((y x : ℕ) → Memᴰ (move (transfer y x τ)) rows → Some y) → (u v : ℕ) → Agree u v
      → Agree (rounds n τ rows u) (rounds n τ rows v)
  unfolding rounds
  rounds_agree zero rows h u v g = g
  rounds_agree (suc n) rows h u v g =
      rounds_agree n rows h (through (arrive τ) u rows) (through (arrive τ) v rows) (through_agrees rows h u v g)

-- ---- the rows of a second

module _ (count last : ℕ) (ns : List ℕ) (s : Shaped count last ns) where
  -- a transfer of τ is one of them
  pub in_second : (τ y x i : ℕ) → i < row_count ns → row_at ns i ≡ move (transfer y x τ) → (first_of ns τ ≤ i) × (i < first_of ns τ + number_of ns τ)
  unfolding first_of number_of key second_key
  in_second τ y x i l e =
      let k : key (row_at ns i) ≡ 268435456 + 4096 * τ + 64 * y + x = ap key e in
      let f = fits_move count last y x τ (rw e at (s.fit_at i l)) in
      let low : position ns (second_key τ) ≤ i = elim (le_or_lt (position ns (second_key τ)) i) [
        | inl d ↦ d
        | inr d ↦ absurd (omega (arith, before_position ns (second_key τ) i d))
      ] in
      let high : i < position ns (second_key (suc τ)) = elim (le_or_lt (position ns (second_key (suc τ))) i) [
        | inl d ↦ absurd (omega (arith, s.few, f.0, f.1, from_position ns (keys_up count last ns s) (second_key (suc τ)) i d l))
        | inr d ↦ d
      ] in
      (low, omega arith)

  -- the servers of those have room in a word
  below : (τ j : ℕ) → j < number_of ns τ → server_of (row_at ns (first_of ns τ + j)) < 64
  unfolding first_of number_of
  below τ j l =
      let i = position ns (second_key τ) + j in
      let m : i < row_count ns = omega (arith, position_most ns (second_key (suc τ))) in
      omega (arith, s.few, server_below count last (row_at ns i) (s.fit_at i m))

  -- and its source one of their sources
  pub source_in : (τ y x i : ℕ) → i < row_count ns → row_at ns i ≡ move (transfer y x τ) → has (sources ns τ) y ≡ true
  unfolding sources server_of
  source_in τ y x i l e =
      let (a, b) = in_second τ y x i l e in
      let m : first_of ns τ + (i - first_of ns τ) ≡ i = omega arith in
      servers_has ns (first_of ns τ) 0 (number_of ns τ) y (below τ)
      ∙ either_last (has 0 y) _
      (any_of (number_of ns τ) (λ j. eqb (server_of (row_at ns (first_of ns τ + j))) y) (i - first_of ns τ) (omega arith) (rw (m, e) (eq-eqb y y refl)))

  module _ (home : ℕ) (inside : home < count) (τ : ℕ) where
    -- so of each such server the set says whether a copy stands there
    pub standing_agrees : (k : ℕ) → Known count last ns s τ (sources ns τ) k
        → has (standing_at count home ns τ) k ≡ stands count home (rows_of ns) k τ
    unfolding standing_at standing stands before_transfers rows_of row_count
    standing_agrees k known =
        ap (λ (w : ℕ). has w k) (settle_rounds count τ (rows_of ns) (second_pass ns τ) (pass_through count last ns s τ) (before_transfers count home ns τ))
        ∙ rounds_agree (Known count last ns s τ (sources ns τ)) τ count (rows_of ns) each_source
        (before_transfers count home ns τ) (reached home (rows_of ns) τ)
        (λ j h. before_agrees count last ns s τ home inside (sources ns τ) j h) k known
      where
        each_source : (y x : ℕ) → Memᴰ (move (transfer y x τ)) (rows_of ns) → Known count last ns s τ (sources ns τ) y
        each_source y x m = let (i, l, e) = member_row ns (row_count ns) m in inl (source_in τ y x i l (sym e))
