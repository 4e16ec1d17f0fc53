-- For well-formed rows a search finds the hold that keeps a copy at a server up to a second, if there is one.
use Rattle.std.proofs.Math.Bool.{Bool, true}
use Rattle.std.specs.Prelude.{false, not, List, ◌⊎◌, ◌≢◌, ◌≡◌, leb, ltb, eqb}
use Rattle.std.proofs.Common.{inl, inr, ◌∙◌}
use Rattle.std.proofs.Math.Path.{refl, sym, ap}
use native.Mathlib.Omega.{arith}
use Prim.Native.Nat.{ℕ, zero, suc, pred, ◌+◌, ◌*◌, ◌≤◌, ◌<◌}
use borrow.Author.Tests.{ltb-true, leb-true, eqb-true, eqb-false, ne_eqb, lt-ltb, not-true}
use Rattle.base.specs.Choice.{pick, both, either, le_or_lt, same_or_not, true_or_false, not_both}
use Rattle.base.specs.Sets.{has, put}
use Rattle.base.specs.ChoiceLaws.{both_true}
use Rattle.model.specs.Schedule.{Row, hold, move}
use Rattle.model.specs.Standing.{reached}
use Rattle.model.specs.RowForm.{row_at, rows_of}
use Rattle.model.proofs.RowLaws.{fits_hold}
use Rattle.model.specs.Checking.{row_count}
use Rattle.rows.specs.Passes.{join, covers, puts, any_below}
use Rattle.rows.specs.AnyLaws.{same_test, any_is, any_of, any_either}
use Rattle.checker.specs.Search.{hold_key, key, position}
use Rattle.checker.specs.KeyLaws.{Shaped, end_key, keys_rise, keys_up}
use Rattle.checker.specs.SearchLaws.{position_most, before_position, from_position}
use Rattle.checker.specs.Quick.{reaches, gather, begun, uploaded_to}
use Rattle.checker.specs.QuickSets.{both_none, through_has, gather_has}
use Rattle.checker.specs.QuickUploads.{uploaded_has}

-- a row that covers server x at τ is a hold there, which began before τ and ends at τ or later
pub record Covering (τ x : ℕ) (r : Row) : Type 0 where
  pub from : ℕ
  pub to : ℕ
  pub is : r ≡ hold x from to
  pub began : from < τ
  pub lasts : τ ≤ to

pub covering : (τ x : ℕ) (r : Row) → covers τ x r ≡ true → Covering τ x r
unfolding covers
covering τ x (hold y a b) e =
    let (p, q) = both_true (eqb y x) (both (ltb a τ) (leb τ b)) e in
    let (s, t) = both_true (ltb a τ) (leb τ b) q in
    record { from = a; to = b; is = ap (λ (z : ℕ). hold z a b) (eqb-true y x p); began = ltb-true a τ s; lasts = leb-true τ b t }
covering τ x (move v) e = absurd (not_both e refl)

-- two tests after a third, in the other order
either_swap : (a b c : Bool) → either (either a b) c ≡ either a (either c b)
either_swap true b c = refl
either_swap false true true = refl
either_swap false true false = refl
either_swap false false true = refl
either_swap false false false = refl

module _ (count last : ℕ) (ns : List ℕ) (s : Shaped count last ns) (τ : ℕ) where
  -- what the search finds is such a row
  found : (x : ℕ) → reaches ns τ x ≡ true → (i : ℕ) × (i < row_count ns) × (covers τ x (row_at ns i) ≡ true)
  unfolding reaches
  found x e =
      let p = position ns (hold_key x τ) in
      let (a, b) = both_true (not (eqb p 0)) (covers τ x (row_at ns (pred p))) e in
      go p refl (position_most ns (hold_key x τ)) (eqb-false p 0 (not-true (eqb p 0) a)) b
    where
      go : (p : ℕ) → position ns (hold_key x τ) ≡ p → position ns (hold_key x τ) ≤ row_count ns → (position ns (hold_key x τ) ≡ 0 → ⊥)
          → covers τ x (row_at ns (pred (position ns (hold_key x τ)))) ≡ true → (i : ℕ) × (i < row_count ns) × (covers τ x (row_at ns i) ≡ true)
      go zero d l n c = absurd (n d)
      go (suc i) d l n c = (i, omega arith, rw d at c)

  -- and it finds one where there is one: no row between it and the first after could begin before τ
  pub finds : (x i : ℕ) → i < row_count ns → covers τ x (row_at ns i) ≡ true → reaches ns τ x ≡ true
  unfolding reaches key end_key hold_key
  finds x i l e = go (covering τ x (row_at ns i) e) (le_or_lt (position ns (hold_key x τ)) i) (position ns (hold_key x τ)) refl
    where
      go : Covering τ x (row_at ns i) → (position ns (hold_key x τ) ≤ i) ⊎ (i < position ns (hold_key x τ)) → (p : ℕ) → position ns (hold_key x τ) ≡ p
          → both (not (eqb (position ns (hold_key x τ)) 0)) (covers τ x (row_at ns (pred (position ns (hold_key x τ))))) ≡ true
      go h (inl d) p q =
          let k : key (row_at ns i) ≡ 4194304 * x + h.from = ap key h.is in
          absurd (omega (arith, h.began, from_position ns (keys_up count last ns s) (hold_key x τ) i d l))
      go h (inr d) zero q = absurd (omega arith)
      go h (inr d) (suc j) q = rw (q, ne_eqb (suc j) 0 (λ z. omega arith)) (by (same_or_not i j))
        where
          by : (i ≡ j) ⊎ (i ≢ j) → covers τ x (row_at ns j) ≡ true
          by (inl z) = rw z at e
          by (inr z) =
              let k : end_key (row_at ns i) ≡ 4194304 * x + h.to = ap end_key h.is in
              absurd (omega (
                arith,
                h.lasts,
                keys_rise count last ns s i j (omega arith) (omega (arith, position_most ns (hold_key x τ))),
                before_position ns (hold_key x τ) j (omega arith),
              ))

  -- only a server below the count is covered
  pub covered_below : (x i : ℕ) → i < row_count ns → covers τ x (row_at ns i) ≡ true → x < count
  covered_below x i l e =
      let h = covering τ x (row_at ns i) e in
      (fits_hold count last x h.from h.to (rw h.is at (s.fit_at i l))).0

  -- some row covers x if and only if the search for x finds it
  same_cover : (x : ℕ) → any_below (row_count ns) (λ i. covers τ x (row_at ns i)) ≡ both (ltb x count) (reaches ns τ x)
  same_cover x = same_test _ _ out back
    where
      out : any_below (row_count ns) (λ i. covers τ x (row_at ns i)) ≡ true → both (ltb x count) (reaches ns τ x) ≡ true
      out e =
          let (i, l, h) = any_is (row_count ns) (λ i. covers τ x (row_at ns i)) e in
          rw (lt-ltb x count (covered_below x i l h)) (finds x i l h)

      back : both (ltb x count) (reaches ns τ x) ≡ true → any_below (row_count ns) (λ i. covers τ x (row_at ns i)) ≡ true
      back e =
          let (i, l, h) = found x (both_true (ltb x count) (reaches ns τ x) e).1 in
          any_of (row_count ns) (λ i. covers τ x (row_at ns i)) i l h

  -- where no row covers x the search finds none
  pub not_found : (x : ℕ) → any_below (row_count ns) (λ i. covers τ x (row_at ns i)) ≡ false → reaches ns τ x ≡ false
  not_found x e = elim (true_or_false (reaches ns τ x)) [
    | inl t ↦ let (i, l, h) = found x t in absurd (not_both (any_of (row_count ns) (λ i. covers τ x (row_at ns i)) i l h) e)
    | inr t ↦ t
  ]

  -- ---- the sets before the transfers of τ

  -- what a set says of server k is known where k is one of some, or where no hold keeps the copy there up to τ
  abbrev pub Known : ℕ → ℕ → Type 0
  Known some k = (has some k ≡ true) ⊎ (any_below (row_count ns) (λ i. covers τ k (row_at ns i)) ≡ false)

  module _ (home : ℕ) (inside : home < count) where
    begun_is : begun home τ ≡ pick (eqb τ 0) (put 0 home) 0
    unfolding begun join
    begun_is = rw (lt-ltb home 64 (omega (arith, s.few)))

    -- of those the search for some servers, with the uploads, finds what all rows give
    pub before_agrees : (some k : ℕ) → Known some k → has (gather ns τ some (uploaded_to home ns τ) count) k ≡ has (reached home (rows_of ns) τ) k
    unfolding reached rows_of row_count
    before_agrees some k known =
        gather_has ns τ some (uploaded_to home ns τ) k count s.few
        ∙ rw (uploaded_has count last ns s home τ k, go known, begun_is)
        (either_swap (has (pick (eqb τ 0) (put 0 home) 0) k) (any_below (row_count ns) uploads) (any_below (row_count ns) holds)
        ∙ sym (ap (either (has (pick (eqb τ 0) (put 0 home) 0) k)) (any_either (row_count ns) holds uploads))
        ∙ sym (through_has τ (pick (eqb τ 0) (put 0 home) 0) k ns (row_count ns)))
      where
        holds : ℕ → Bool
        holds i = covers τ k (row_at ns i)

        uploads : ℕ → Bool
        uploads i = puts τ k (row_at ns i)

        go : Known some k → both (ltb k count) (both (has some k) (reaches ns τ k)) ≡ any_below (row_count ns) (λ i. covers τ k (row_at ns i))
        go (inl m) = rw m (sym (same_cover k))
        go (inr u) = rw (not_found k u, u, both_none (has some k)) (both_none (ltb k count))
