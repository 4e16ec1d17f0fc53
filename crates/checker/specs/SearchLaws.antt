-- In rows in order each row says on which side of it the first row at a place or later is.
use Rattle.std.specs.Prelude.{false, List, ◌⊎◌, ◌≢◌, ◌≡◌, ℕ, ◌+◌, ◌*◌, ◌≤◌, ◌<◌, eqb}
use Rattle.std.proofs.Common.{inl, inr, arith}
use Rattle.std.proofs.Math.Dec.{ltb}
use borrow.Author.Tests.{leb-true, leb-false, lt-ltb, le-ltb, eq-eqb, ne_eqb}
use Rattle.base.specs.Choice.{pick, le_or_lt, same_or_not}
use Rattle.base.specs.LowestLaws.{lowest_is}
use Rattle.model.specs.RowForm.{row_of, row_at}
use Rattle.model.specs.Checking.{row_count}
use Rattle.rows.specs.declared.Quad.{Quad}
use Rattle.rows.specs.Reading.{quad_at, as_row, second_of}
use Rattle.rows.specs.ReadingLaws.{row_transfer, row_upload}
use Rattle.checker.specs.Search.{second_key, upload_key, key, from_on, position, InOrder}

-- the place of a transfer or an upload
pub move_key : (k a b c : ℕ) → k ≢ 0 → pick (eqb k 1) 268435456 34359738368 + 4096 * second_of (row_of k a b c) + 64 * a + b ≡ key (row_of k a b c)
unfolding second_of key second_key upload_key
move_key k a b c n = go (same_or_not k 1)
  where
    go : (k ≡ 1) ⊎ (k ≢ 1) → pick (eqb k 1) 268435456 34359738368 + 4096 * second_of (row_of k a b c) + 64 * a + b ≡ key (row_of k a b c)
    go (inl e) = rw (eq-eqb k 1 e, row_transfer k a b c e) (omega arith)
    go (inr m) = rw (ne_eqb k 1 m, row_upload k a b c n m) (omega arith)

-- it is not past the last row
pub position_most : (ns : List ℕ) (k : ℕ) → position ns k ≤ row_count ns
unfolding position
position_most ns k = (lowest_is (row_count ns) (from_on ns k)).within

-- no row past the last is before it
pub past_after : (ns : List ℕ) (k i : ℕ) → row_count ns ≤ i → ltb i (position ns k) ≡ false
past_after ns k i h = le-ltb i (position ns k) (omega (arith, position_most ns k))

-- the rows before it are at lower places
pub before_position : (ns : List ℕ) (k i : ℕ) → i < position ns k → key (row_at ns i) < k
unfolding position from_on
before_position ns k i l = leb-false k (key (row_at ns i)) ((lowest_is (row_count ns) (from_on ns k)).none i l)

module _ (ns : List ℕ) (up : InOrder ns) where
  keys_stay : (i j : ℕ) → i ≤ j → j < row_count ns → key (row_at ns i) ≤ key (row_at ns j)
  unfolding InOrder
  keys_stay i j l h = go (same_or_not i j)
    where
      go : (i ≡ j) ⊎ (i ≡ j → ⊥) → key (row_at ns i) ≤ key (row_at ns j)
      go (inl e) = rw e (omega arith)
      go (inr d) = omega (arith, up i j (omega arith) h)

  -- the rows from it on are not
  pub from_position : (k i : ℕ) → position ns k ≤ i → i < row_count ns → k ≤ key (row_at ns i)
  unfolding position from_on
  from_position k i l h =
      let p = position ns k in
      omega (arith, leb-true k (key (row_at ns p)) ((lowest_is (row_count ns) (from_on ns k)).met (omega arith)), keys_stay p i l h)

  -- a higher place has no earlier first row
  pub position_up : (k m : ℕ) → k ≤ m → position ns k ≤ position ns m
  position_up k m l = elim (le_or_lt (position ns k) (position ns m)) [
    | inl h ↦ h
    | inr h ↦ absurd (omega (
      arith,
      before_position ns k (position ns m) h,
      from_position m (position ns m) (omega arith) (omega (arith, position_most ns k)),
    ))
  ]

  -- the first row from a row's own place on is that row
  pub own_position : (k i : ℕ) → i < row_count ns → key (row_at ns i) ≡ k → position ns k ≡ i
  unfolding InOrder
  own_position k i l e = go (le_or_lt (position ns k) i) (same_or_not (position ns k) i)
    where
      go : (position ns k ≤ i) ⊎ (i < position ns k) → (position ns k ≡ i) ⊎ (position ns k ≡ i → ⊥) → position ns k ≡ i
      go (inl d) (inl z) = z
      go (inl d) (inr z) =
          let p = position ns k in
          absurd (omega (arith, from_position k p (omega arith) (omega arith), up p i (omega arith) l))
      go (inr d) z = absurd (omega (arith, before_position ns k i d))

  -- so its place says whether a row is before it
  pub place_tells : (k i n : ℕ) (r : Quad) → i < row_count ns → r ≡ quad_at ns i → n ≡ key (as_row r) → ltb n k ≡ ltb i (position ns k)
  unfolding quad_at row_at
  place_tells k i n r h d e = go (le_or_lt (position ns k) i) (rw d at e)
    where
      go : (position ns k ≤ i) ⊎ (i < position ns k) → n ≡ key (row_at ns i) → ltb n k ≡ ltb i (position ns k)
      go (inl g) m = rw (le-ltb i (position ns k) g) (le-ltb n k (omega (arith, from_position k i g h)))
      go (inr g) m = rw (lt-ltb i (position ns k) g) (lt-ltb n k (omega (arith, before_position ns k i g)))
