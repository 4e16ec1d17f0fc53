-- The rows of a marking, row by row: the holds over runs of gaps, the transfers and the uploads.
use mathlib.Core.List.{◌++◌, Memᴰ}
use Rattle.std.specs.Prelude.{◌⊎◌, ◌≡◌}
use Rattle.std.proofs.Common.{inl, inr}
use native.Mathlib.Omega.{arith}
use Prim.Native.Nat.{ℕ, zero, suc, ◌≤◌, ◌<◌}
use Rattle.base.specs.Choice.{le_or_lt}
use Rattle.model.specs.Requests.{Requests}
use Rattle.model.specs.Schedule.{Row, hold}
use Rattle.model.specs.Marking.{Mark, S, U, sends, loads, holds, hold_rows, all_holds, transfers, uploads, rows_from}
use Rattle.model.proofs.RunLaws.{Run, hold_rows_run}
use Rattle.model.proofs.MoveRows.{Moved, moved_row, moved_in, sending, loading, transfers_moved, uploads_moved}

module _ (q : Requests) (m : ℕ → Mark) (n : ℕ) where
  -- a row is the hold of a server below c over one of its runs
  pub record Held (c : ℕ) (r : Row) : Type 0 where
    pub server : ℕ
    pub start : ℕ
    pub end : ℕ
    pub below : server < c
    pub run : Run (λ k. holds q m n k server) n start end
    pub is : r ≡ hold server (q.time start) (q.time end)

  -- each row of the servers' holds is one
  pub all_holds_row : {r : Row} (c : ℕ) → Memᴰ r (all_holds q m n c) → Held c r
  unfolding all_holds
  all_holds_row zero x = absurd (mathlib.Core.List.Memᴰ.not-nil x)
  all_holds_row {r} (suc c) x = go (all_holds_row c) (mathlib.Core.List.Memᴰ.append_cases (all_holds q m n c) x)
    where
      go : (Memᴰ r (all_holds q m n c) → Held c r)
          → Memᴰ r (all_holds q m n c) ⊎ Memᴰ r (hold_rows q (λ k. holds q m n k c) n c n) → Held (suc c) r
      go ih (inl z) =
          let h = ih z in
          record { server = h.server; start = h.start; end = h.end; below = omega (arith, h.below); run = h.run; is = h.is }
      go ih (inr z) =
          let h = hold_rows_run q (λ k. holds q m n k c) n c n (omega arith) z in
          record { server = c; start = h.0; end = h.1; below = omega arith; run = h.3; is = h.4 }

  -- the holds of a server below c are among them
  all_holds_in : {r : Row} (c y : ℕ) → y < c → Memᴰ r (hold_rows q (λ k. holds q m n k y) n y n) → Memᴰ r (all_holds q m n c)
  unfolding all_holds
  all_holds_in zero y h x = absurd (omega arith)
  all_holds_in {r} (suc c) y h x = go (le_or_lt c y) (λ p. all_holds_in c y p x)
    where
      go : (c ≤ y) ⊎ (y < c) → (y < c → Memᴰ r (all_holds q m n c)) → Memᴰ r (all_holds q m n (suc c))
      go (inl p) ih = mathlib.Core.List.Memᴰ.append_right (all_holds q m n c) (let s : y ≡ c = omega arith in rw s at x)
      go (inr p) ih = mathlib.Core.List.Memᴰ.append_left (hold_rows q (λ k. holds q m n k c) n c n) (ih p)

  module _ (from : ℕ → ℕ) where
    -- what a row of a marking is: a hold over a run, a transfer to a request marked S, or an upload to one marked U
    pub data Made (count : ℕ) (r : Row) : Type 0 where
      as_hold : Held count r → Made count r
      as_transfer : Moved sends (sending q from) m n r → Made count r
      as_upload : Moved loads (loading q) m n r → Made count r

    -- each is one of them
    pub rows_row : {r : Row} (count : ℕ) → Memᴰ r (rows_from q count m n from) → Made count r
    unfolding rows_from
    rows_row {r} count x = go (mathlib.Core.List.Memᴰ.append_cases (all_holds q m n count) x)
      where
        moves : Memᴰ r (transfers q m from n) ⊎ Memᴰ r (uploads q m n) → Made count r
        moves (inl z) = as_transfer (moved_row sends (sending q from) m n (rw (transfers_moved q m from n) at z))
        moves (inr z) = as_upload (moved_row loads (loading q) m n (rw (uploads_moved q m n) at z))

        go : Memᴰ r (all_holds q m n count) ⊎ Memᴰ r (transfers q m from n ++ uploads q m n) → Made count r
        go (inl z) = as_hold (all_holds_row count z)
        go (inr z) = moves (mathlib.Core.List.Memᴰ.append_cases (transfers q m from n) z)

    -- the holds of a server below the count are among them
    pub hold_in : {r : Row} (count y : ℕ) → y < count → Memᴰ r (hold_rows q (λ k. holds q m n k y) n y n) → Memᴰ r (rows_from q count m n from)
    unfolding rows_from
    hold_in count y h x = mathlib.Core.List.Memᴰ.append_left (transfers q m from n ++ uploads q m n) (all_holds_in count y h x)

    -- and the transfer to each request marked S
    pub transfer_in : (count l : ℕ) → 1 ≤ l → l ≤ n → m l ≡ S → Memᴰ (sending q from l) (rows_from q count m n from)
    unfolding rows_from sends
    transfer_in count l a b e =
        let x : Memᴰ (sending q from l) (transfers q m from n) = rw (transfers_moved q m from n) (moved_in sends (sending q from) m n l a b (rw e)) in
        mathlib.Core.List.Memᴰ.append_right (all_holds q m n count) (mathlib.Core.List.Memᴰ.append_left (uploads q m n) x)

    -- and the upload to each marked U
    pub upload_in : (count l : ℕ) → 1 ≤ l → l ≤ n → m l ≡ U → Memᴰ (loading q l) (rows_from q count m n from)
    unfolding rows_from loads
    upload_in count l a b e =
        let x : Memᴰ (loading q l) (uploads q m n) = rw (uploads_moved q m n) (moved_in loads (loading q) m n l a b (rw e)) in
        mathlib.Core.List.Memᴰ.append_right (all_holds q m n count) (mathlib.Core.List.Memᴰ.append_right (transfers q m from n) x)
