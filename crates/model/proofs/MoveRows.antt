-- The rows that requests have by their marks: the transfers of those that are S, the uploads of those that are U. Proved once for both.
use Rattle.std.specs.Prelude.{Bool, ◌⊎◌, ◌≡◌}
use Rattle.std.proofs.Math.Bool.{true, false}
use mathlib.Core.List.Memᴰ
use mathlib.Core.List.{List, [], ◌∷◌, ◌++◌, Memᴰ}
use Rattle.std.proofs.Common.{inl, inr}
use Rattle.std.proofs.Math.Path.{refl, ap}
use native.Mathlib.Omega.{arith}
use Prim.Native.Nat.{ℕ, zero, suc, ◌≤◌, ◌<◌}
use Rattle.base.specs.Choice.{pick, le_or_lt}
use Rattle.model.specs.Sums.{sum, total}
use Rattle.model.proofs.SumLaws.{total_append}
use Rattle.model.proofs.CountLaws.{total_zero}
use Rattle.model.specs.Requests.{Requests}
use Rattle.model.specs.Schedule.{Row, move, transfer, upload}
use Rattle.model.specs.RowForm.{follows, ordered}
use Rattle.model.proofs.FormLaws.{ordered_append}
use Rattle.model.specs.Marking.{Mark, sends, loads, transfers, uploads}

-- the rows of requests 1 to i whose marks pass a test
unfoldable pub moved : (Mark → Bool) → (ℕ → Row) → (ℕ → Mark) → ℕ → List Row
moved test row m zero = []
moved test row m (suc i) = moved test row m i ++ pick (test (m (suc i))) (row (suc i) ∷ []) []

module _ (test : Mark → Bool) (row : ℕ → Row) (m : ℕ → Mark) where
  -- it is the row of one of the first i requests, whose mark passes
  pub record Moved (i : ℕ) (r : Row) : Type 0 where
    pub request : ℕ
    pub first : 1 ≤ request
    pub upto : request ≤ i
    pub passes : test (m request) ≡ true
    pub is : r ≡ row request

  -- each is
  pub moved_row : {r : Row} (i : ℕ) → Memᴰ r (moved test row m i) → Moved i r
  unfolding moved
  moved_row zero x = absurd (Memᴰ.not-nil x)
  moved_row {r} (suc i) x = go (moved_row i) (Memᴰ.append_cases (moved test row m i) x)
    where
      new : (b : Bool) → test (m (suc i)) ≡ b → Memᴰ r (pick b (row (suc i) ∷ []) []) → Moved (suc i) r
      new true e z = record { request = suc i; first = omega arith; upto = omega arith; passes = e; is = Memᴰ.eq_of_singleton z }
      new false e z = absurd (Memᴰ.not-nil z)

      go : (Memᴰ r (moved test row m i) → Moved i r)
          → Memᴰ r (moved test row m i) ⊎ Memᴰ r (pick (test (m (suc i))) (row (suc i) ∷ []) []) → Moved (suc i) r
      go ih (inl z) =
          let s = ih z in
          record { request = s.request; first = s.first; upto = omega (arith, s.upto); passes = s.passes; is = s.is }
      go ih (inr z) = new (test (m (suc i))) refl z

  -- each such request has its row
  pub moved_in : (i l : ℕ) → 1 ≤ l → l ≤ i → test (m l) ≡ true → Memᴰ (row l) (moved test row m i)
  unfolding moved
  moved_in zero l a b e = absurd (omega arith)
  moved_in (suc i) l a b e = go (le_or_lt l i) (λ k. moved_in i l a k e)
    where
      go : (l ≤ i) ⊎ (i < l) → (l ≤ i → Memᴰ (row l) (moved test row m i)) → Memᴰ (row l) (moved test row m (suc i))
      go (inl k) ih = Memᴰ.append_left (pick (test (m (suc i))) (row (suc i) ∷ []) []) (ih k)
      go (inr k) ih =
          let s : l ≡ suc i = omega arith in
          let t : test (m (suc i)) ≡ true = rw s at e in
          Memᴰ.append_right (moved test row m i) (rw t (Memᴰ.head (ap row s)))

  -- a number over them, request by request
  pub moved_total : (w : Row → ℕ) (i : ℕ) → total w (moved test row m i) ≡ sum i (λ l. pick (test (m l)) (w (row l)) 0)
  unfolding moved total sum
  moved_total w zero = refl
  moved_total w (suc i) =
      omega (arith, moved_total w i, total_append w (moved test row m i) (pick (test (m (suc i))) (row (suc i) ∷ []) []), new (test (m (suc i))))
    where
      new : (b : Bool) → total w (pick b (row (suc i) ∷ []) []) ≡ pick b (w (row (suc i))) 0
      new true = omega arith
      new false = refl

  -- a number that is 0 for each of them
  pub moved_none : (w : Row → ℕ) → ((l : ℕ) → w (row l) ≡ 0) → (i : ℕ) → total w (moved test row m i) ≡ 0
  moved_none w z i = total_zero w (moved test row m i) (λ r x. let t = moved_row i x in rw t.is (z t.request))

  -- they are in order, where each may follow those of the requests before
  pub moved_ordered : (n : ℕ) → ((l k : ℕ) → l < k → k ≤ n → follows (row l) (row k) ≡ true) → (i : ℕ) → i ≤ n → ordered (moved test row m i) ≡ true
  unfolding moved ordered
  moved_ordered n after zero h = refl
  moved_ordered n after (suc i) h = go (test (m (suc i))) (moved_ordered n after i (omega arith))
    where
      next : (r s : Row) → Memᴰ r (moved test row m i) → Memᴰ s (row (suc i) ∷ []) → follows r s ≡ true
      next r s x z = let t = moved_row i x in rw (t.is, Memᴰ.eq_of_singleton z) (after t.request (suc i) (omega (arith, t.upto)) h)

      go : (b : Bool) → ordered (moved test row m i) ≡ true → ordered (moved test row m i ++ pick b (row (suc i) ∷ []) []) ≡ true
      go true o = ordered_append (moved test row m i) (row (suc i) ∷ []) o refl next
      go false o = ordered_append (moved test row m i) [] o refl (λ r s x z. absurd (Memᴰ.not-nil z))

module _ (q : Requests) where
  -- the transfer to request i from its source
  abbrev pub sending : (ℕ → ℕ) → ℕ → Row
  sending from i = move (transfer (from i) (q.server i) (q.time i))

  -- the upload to request i
  abbrev pub loading : ℕ → Row
  loading i = move (upload (q.server i) (q.time i))

  -- the transfers of a marking are such rows
  pub transfers_moved : (m : ℕ → Mark) (from : ℕ → ℕ) (i : ℕ) → transfers q m from i ≡ moved sends (sending from) m i
  unfolding transfers moved
  transfers_moved m from zero = refl
  transfers_moved m from (suc i) = ap (λ (rs : List Row). rs ++ pick (sends (m (suc i))) (sending from (suc i) ∷ []) []) (transfers_moved m from i)

  -- and its uploads
  pub uploads_moved : (m : ℕ → Mark) (i : ℕ) → uploads q m i ≡ moved loads loading m i
  unfolding uploads moved
  uploads_moved m zero = refl
  uploads_moved m (suc i) = ap (λ (rs : List Row). rs ++ pick (loads (m (suc i))) (loading (suc i) ∷ []) []) (uploads_moved m i)
