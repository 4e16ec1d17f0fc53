-- The rows of a legal marking are well formed, whichever holder is the source of each transfer.
use Rattle.std.specs.Prelude.{Bool, false, ◌⊎◌, ◌≢◌, ◌≡◌}
use Rattle.std.proofs.Math.Bool.{true}
use mathlib.Core.List.Memᴰ
use mathlib.Core.List.{[], ◌∷◌, ◌++◌, Memᴰ}
use Rattle.std.proofs.Common.{inl, inr, arith}
use Rattle.std.proofs.Math.Path.{refl}
use Prim.Native.Nat.{ℕ, zero, suc, ◌-◌, ◌≤◌, ◌<◌}
use borrow.Author.Tests.{lt-ltb, le-ltb, le-leb, eq-eqb, ne_eqb}
use Rattle.base.specs.Choice.{pick, le_or_lt, not_both}
use Rattle.model.specs.Rates.{Rates}
use Rattle.model.specs.Requests.{Requests, Rising, Within}
use Rattle.model.proofs.RequestLaws.{rises, rises_le}
use Rattle.model.specs.Schedule.{Row, hold}
use Rattle.model.specs.RowForm.{fits, earlier, follows, ordered, well_formed}
use Rattle.model.proofs.FormLaws.{ordered_append, formed}
use Rattle.model.specs.Marking.{Mark, S, sends, loads, begins_run, run_end, holds, hold_rows, all_holds, transfers, uploads, rows_from, Valid, Good}
use Rattle.model.proofs.HolderLaws.{sent_unheld}
use Rattle.model.proofs.RunLaws.{Run, begins_true, hold_rows_run}
use Rattle.model.proofs.MarkLaws.{sends_S}
use Rattle.model.proofs.MoveRows.{moved, moved_row, moved_ordered, sending, loading, transfers_moved, uploads_moved}
use Rattle.model.proofs.RowMembers.{Made, as_hold, as_transfer, as_upload, all_holds_row, rows_row}

-- the holds at one server are ordered: each begins later than the one before it ends
hold_rows_ordered : (q : Requests) (f : ℕ → Bool) (n y : ℕ) → Rising q n → (k : ℕ) → k ≤ n → ordered (hold_rows q f n y k) ≡ true
unfolding hold_rows ordered follows
hold_rows_ordered q f n y rise zero h = refl
hold_rows_ordered q f n y rise (suc k) h = go (begins_run f (suc k)) refl (hold_rows_ordered q f n y rise k (omega arith))
  where
    end : ℕ
    end = run_end f (suc k) (n - suc k)

    apart : (l e : ℕ) → l < k → Run f n l e → f k ≡ false → e < k
    apart l e a r off = elim (le_or_lt k e) [ inl p ↦ absurd (not_both (r.on k a p) off) | inr p ↦ p ]

    after : begins_run f (suc k) ≡ true → (r s : Row) → Memᴰ r (hold_rows q f n y k)
        → Memᴰ s (hold y (q.time k) (q.time end) ∷ []) → follows r s ≡ true
    after b r s x z =
        let p = hold_rows_run q f n y k (omega arith) x in
        let a = apart p.0 p.1 p.2 p.3 ((begins_true f k b).1 (omega (arith, p.2))) in
        rw (
          p.4,
          Memᴰ.eq_of_singleton z,
          le-ltb y y (omega arith),
          eq-eqb y y refl,
        ) (lt-ltb (q.time p.1) (q.time k) (rises rise p.1 k a (omega arith)))

    go : (b : Bool) → begins_run f (suc k) ≡ b → ordered (hold_rows q f n y k) ≡ true
        → ordered (hold_rows q f n y k ++ pick b (hold y (q.time k) (q.time end) ∷ []) []) ≡ true
    go true b o = ordered_append (hold_rows q f n y k) (hold y (q.time k) (q.time end) ∷ []) o refl (after b)
    go false b o = ordered_append (hold_rows q f n y k) [] o refl (λ r s x z. absurd (Memᴰ.not-nil z))

module _ (q : Requests) (m : ℕ → Mark) (n : ℕ) (rise : Rising q n) where
  -- the servers' holds are ordered by server
  all_holds_ordered : (c : ℕ) → ordered (all_holds q m n c) ≡ true
  unfolding all_holds ordered follows
  all_holds_ordered zero = refl
  all_holds_ordered (suc c) =
      ordered_append (all_holds q m n c) (hold_rows q (λ k. holds q m n k c) n c n)
      (all_holds_ordered c) (hold_rows_ordered q (λ k. holds q m n k c) n c rise n (omega arith)) after
    where
      after : (r s : Row) → Memᴰ r (all_holds q m n c) → Memᴰ s (hold_rows q (λ k. holds q m n k c) n c n) → follows r s ≡ true
      after r s x z =
          let h = all_holds_row q m n c x in
          let p = hold_rows_run q (λ k. holds q m n k c) n c n (omega arith) z in
          rw (h.is, p.4, lt-ltb h.server c h.below)

  -- moves of later requests come later
  moves_ordered : (test : Mark → Bool) (row : ℕ → Row) → ((l k : ℕ) → q.time l < q.time k → follows (row l) (row k) ≡ true)
      → ordered (moved test row m n) ≡ true
  moves_ordered test row after =
      moved_ordered test row m n (λ l k h g. after l k (rises rise l k h g)) n (omega arith)

  -- so the transfers are ordered, and the uploads
  transfers_ordered : (from : ℕ → ℕ) → ordered (transfers q m from n) ≡ true
  unfolding follows earlier
  transfers_ordered from =
      rw (transfers_moved q m from n) (moves_ordered sends (sending q from) (λ l k h. rw (lt-ltb (q.time l) (q.time k) h)))

  uploads_ordered : ordered (uploads q m n) ≡ true
  unfolding follows earlier
  uploads_ordered = rw (uploads_moved q m n) (moves_ordered loads (loading q) (λ l k h. rw (lt-ltb (q.time l) (q.time k) h)))

module _ (p : Rates) (q : Requests) (count : ℕ) (m : ℕ → Mark) (n : ℕ) (from : ℕ → ℕ)
    (rise : Rising q n) (within : Within count q n) (valid : Valid p q m n) (good : Good count q m n from) where
  -- a source is not the request's own server
  source_apart : (i : ℕ) → 1 ≤ i → i ≤ n → m i ≡ S → from i ≢ q.server i
  source_apart i a b e z = not_both (rw z at (good i a b e).1) (sent_unheld q m n p valid i a b e)

  -- each row fits
  row_fits : (r : Row) → Memᴰ r (rows_from q count m n from) → (0 < n) × (fits count (q.time n) r ≡ true)
  unfolding fits Within
  row_fits r x = go (rows_row q m n from count x)
    where
      go : Made q m n from count r → (0 < n) × (fits count (q.time n) r ≡ true)
      go (as_hold h) = (
        omega (arith, h.run.some_gap, h.run.within),
        rw (
          h.is,
          lt-ltb h.server count h.below,
          lt-ltb (q.time h.start) (q.time h.end) (rises rise h.start h.end h.run.some_gap h.run.within),
        ) (le-leb (q.time h.end) (q.time n) (rises_le rise h.end n h.run.within (omega arith))),
      )
      go (as_transfer t) =
          let i = t.request in
          let e = sends_S (m i) t.passes in (
            omega (arith, t.first, t.upto),
            rw (
              t.is,
              lt-ltb (from i) count (good i t.first t.upto e).0,
              lt-ltb (q.server i) count (within i t.upto),
              ne_eqb (from i) (q.server i) (source_apart i t.first t.upto e),
            ) (le-leb (q.time i) (q.time n) (rises_le rise i n t.upto (omega arith))),
          )
      go (as_upload t) =
          let i = t.request in (
            omega (arith, t.first, t.upto),
            rw (t.is, lt-ltb (q.server i) count (within i t.upto))
                (le-leb (q.time i) (q.time n) (rises_le rise i n t.upto (omega arith))),
          )

  -- the rows are well formed
  pub rows_formed : well_formed count n (q.time n) (rows_from q count m n from) ≡ true
  unfolding rows_from follows earlier
  rows_formed =
      formed count n (q.time n) (rows_from q count m n from) row_fits
      (ordered_append (all_holds q m n count) (transfers q m from n ++ uploads q m n) (all_holds_ordered q m n rise count)
      (ordered_append (transfers q m from n) (uploads q m n) (transfers_ordered q m n rise from) (uploads_ordered q m n rise) uploads_after)
      (λ r s x z. moves_after r s x (Memᴰ.append_cases (transfers q m from n) z)))
    where
      uploads_after : (r s : Row) → Memᴰ r (transfers q m from n) → Memᴰ s (uploads q m n) → follows r s ≡ true
      uploads_after r s x z =
          rw (
            (moved_row sends (sending q from) m n (rw (transfers_moved q m from n) at x)).is,
            (moved_row loads (loading q) m n (rw (uploads_moved q m n) at z)).is,
          )

      moves_after : (r s : Row) → Memᴰ r (all_holds q m n count) → Memᴰ s (transfers q m from n) ⊎ Memᴰ s (uploads q m n) → follows r s ≡ true
      moves_after r s x (inl z) = rw ((all_holds_row q m n count x).is, (moved_row sends (sending q from) m n (rw (transfers_moved q m from n) at z)).is)
      moves_after r s x (inr z) = rw ((all_holds_row q m n count x).is, (moved_row loads (loading q) m n (rw (uploads_moved q m n) at z)).is)
