-- Laws of rows read by their four numbers.
use Rattle.std.specs.Prelude.{List, ◌⊎◌, ◌≢◌, ◌≡◌, refl, ℕ, ◌+◌, ◌*◌, ◌/◌, ◌≤◌, ◌<◌, length}
use Rattle.std.proofs.Common.{inl, inr, arith, eq-eqb, ne_eqb}
use Rattle.std.proofs.Math.ListN.{get_or-eq_default}
use Rattle.base.specs.Choice.{same_or_not}
use Rattle.model.specs.Schedule.{Row, hold, move, transfer, upload}
use Rattle.model.specs.RowForm.{row_of}
use Rattle.rows.specs.Reading.{quad_at, server_of, target_of}

-- past the end all four numbers are 0
pub quad_past : (ns : List ℕ) (i : ℕ) → length ns / 4 < i → quad_at ns i ≡ record { kind = 0; a = 0; b = 0; c = 0 }
unfolding quad_at
quad_past ns i h =
    rw (
      get_or-eq_default ns 0 {n = 4 * i} (omega arith),
      get_or-eq_default ns 0 {n = 4 * i + 1} (omega arith),
      get_or-eq_default ns 0 {n = 4 * i + 2} (omega arith),
      get_or-eq_default ns 0 {n = 4 * i + 3} (omega arith),
    )

-- the row by its kind
pub row_hold : (k a b c : ℕ) → k ≡ 0 → row_of k a b c ≡ hold a b c
unfolding row_of
row_hold k a b c e = rw (eq-eqb k 0 e)

pub row_transfer : (k a b c : ℕ) → k ≡ 1 → row_of k a b c ≡ move (transfer a b c)
unfolding row_of
row_transfer k a b c e = rw (ne_eqb k 0 (omega arith), eq-eqb k 1 e)

pub row_upload : (k a b c : ℕ) → k ≢ 0 → k ≢ 1 → row_of k a b c ≡ move (upload a b)
unfolding row_of
row_upload k a b c n m = rw (ne_eqb k 0 n, ne_eqb k 1 m)

pub row_above : (k a b c : ℕ) → 1 < k → row_of k a b c ≡ move (upload a b)
row_above k a b c l = row_upload k a b c (omega arith) (omega arith)

-- what holds of each kind holds of every row; of a row that is not of one kind, what holds of the other two
pub not_hold : (P : Row → Type 0) (k a b c : ℕ) → k ≢ 0 → P (move (transfer a b c)) → P (move (upload a b)) → P (row_of k a b c)
not_hold P k a b c n t u = go (same_or_not k 1)
  where
    go : (k ≡ 1) ⊎ (k ≢ 1) → P (row_of k a b c)
    go (inl e) = rw (row_transfer k a b c e) t
    go (inr m) = rw (row_upload k a b c n m) u

pub not_transfer : (P : Row → Type 0) (k a b c : ℕ) → k ≢ 1 → P (hold a b c) → P (move (upload a b)) → P (row_of k a b c)
not_transfer P k a b c n h u = go (same_or_not k 0)
  where
    go : (k ≡ 0) ⊎ (k ≢ 0) → P (row_of k a b c)
    go (inl e) = rw (row_hold k a b c e) h
    go (inr m) = rw (row_upload k a b c m n) u

pub not_upload : (P : Row → Type 0) (k a b c : ℕ) → k ≤ 1 → P (hold a b c) → P (move (transfer a b c)) → P (row_of k a b c)
not_upload P k a b c l h t = go (same_or_not k 0)
  where
    go : (k ≡ 0) ⊎ (k ≢ 0) → P (row_of k a b c)
    go (inl e) = rw (row_hold k a b c e) h
    go (inr m) = rw (row_transfer k a b c (omega arith)) t

pub any_row : (P : Row → Type 0) (k a b c : ℕ) → P (hold a b c) → P (move (transfer a b c)) → P (move (upload a b)) → P (row_of k a b c)
any_row P k a b c h t u = go (same_or_not k 0)
  where
    go : (k ≡ 0) ⊎ (k ≢ 0) → P (row_of k a b c)
    go (inl e) = rw (row_hold k a b c e) h
    go (inr n) = not_hold P k a b c n t u

-- the first number after the kind is the server where a row begins, leaves or arrives by an upload
pub server_read : (k a b c : ℕ) → server_of (row_of k a b c) ≡ a
unfolding server_of
server_read k a b c = any_row (λ r. server_of r ≡ a) k a b c refl refl refl

-- the second one is where a transfer arrives
pub target_read : (k a b c : ℕ) → target_of (row_of k a b c) ≡ b
unfolding target_of
target_read k a b c = any_row (λ r. target_of r ≡ b) k a b c refl refl refl
