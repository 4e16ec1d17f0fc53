-- The rows of a legal marking are feasible, whichever holder is the source of each transfer.
use Rattle.std.specs.Prelude.{true}
use mathlib.Core.List.{Memᴰ}
use Rattle.std.proofs.Math.Path.{◌≡◌, refl}
use Rattle.std.proofs.Common.{arith}
use Prim.Native.Nat.{ℕ, zero, suc, ◌≤◌, ◌<◌}
use Rattle.model.specs.Rates.{Rates, offers}
use Rattle.model.specs.Requests.{Requests, Rising, Within}
use Rattle.model.proofs.RequestLaws.{rises, rises_le}
use Rattle.model.specs.Schedule.{hold, move, transfer, upload, Stands, at_home, held, uploaded, arrived, Feasible}
use Rattle.model.specs.Marking.{Mark, K, S, U, legal, holds, rows_from, Valid, Good}
use Rattle.model.proofs.HolderLaws.{kept_held, new_holder}
use Rattle.model.proofs.RunLaws.{Run, run_over}
use Rattle.model.proofs.MarkLaws.{sends_S, loads_U}
use Rattle.model.proofs.RowMembers.{Made, as_hold, as_transfer, as_upload, rows_row, hold_in, transfer_in, upload_in}

module _ (p : Rates) (q : Requests) (count : ℕ) (m : ℕ → Mark) (n : ℕ) (from : ℕ → ℕ)
    (rise : Rising q n) (within : Within count q n) (valid : Valid p q m n) (good : Good count q m n from) where
  -- a copy stands at server y at second τ
  abbrev Copy : ℕ → ℕ → Type 0
  Copy y τ = Stands (q.server 0) (rows_from q count m n from) y τ

  -- a copy stands at a holder over gap k when the gap ends
  holder_stands : (k y : ℕ) → 1 ≤ k → k ≤ n → y < count → holds q m n k y ≡ true → Copy y (q.time k)
  holder_stands k y a b c e =
      let r = run_over q (λ g. holds q m n g y) n y k a b e in
      held
      (hold_in q m n from count y c r.5)
      (rises rise r.0 k r.2 b)
      (rises_le rise k r.1 r.3 r.4.within)

  -- and at the source of a transfer when it leaves
  source_stands : (i : ℕ) → 1 ≤ i → i ≤ n → m i ≡ S → Copy (from i) (q.time i)
  source_stands i a b e = let g = good i a b e in holder_stands i (from i) a b g.0 g.1

  -- and at each request
  request_stands : (i : ℕ) → i ≤ n → Copy (q.server i) (q.time i)
  unfolding Within
  request_stands zero h = rw rise.start at_home
  request_stands (suc i) h = go (m (suc i)) refl
    where
      go : (a : Mark) → m (suc i) ≡ a → Copy (q.server (suc i)) (q.time (suc i))
      go K e = holder_stands (suc i) (q.server (suc i)) (omega arith) h (within (suc i) h) (kept_held q m n p valid (suc i) (omega arith) h e)
      go S e = arrived (transfer_in q m n from count (suc i) (omega arith) h e) (source_stands (suc i) (omega arith) h e)
      go U e = uploaded (upload_in q m n from count (suc i) (omega arith) h e)

  -- a copy stands where a run begins
  run_begins : (y k e : ℕ) → Run (λ g. holds q m n g y) n k e → Copy y (q.time k)
  run_begins y k e r =
      rw (new_holder q m n k y (r.on (suc k) (omega arith) r.some_gap) r.off_before) (request_stands k (omega (arith, r.some_gap, r.within)))

  -- the rows are feasible
  pub rows_feasible : Feasible p q n (rows_from q count m n from)
  unfolding legal
  rows_feasible = record { begins = begins; leaves = leaves; serves = λ i a b. request_stands i b; offered = offered }
    where
      begins : (x a b : ℕ) → Memᴰ (hold x a b) (rows_from q count m n from) → Copy x a
      begins x a b z = go (rows_row q m n from count z)
        where
          go : Made q m n from count (hold x a b) → Copy x a
          go (as_hold h) =
              let e = h.is in
              let s : x ≡ h.server = cc in
              let t : a ≡ q.time h.start = cc in
              rw (s, t) (run_begins h.server h.start h.end h.run)
          go (as_transfer h) = absurd (let e = h.is in let z : ◌≡◌ {A = ℕ} 0 1 = cc in omega arith)
          go (as_upload h) = absurd (let e = h.is in let z : ◌≡◌ {A = ℕ} 0 1 = cc in omega arith)

      leaves : (y x τ : ℕ) → Memᴰ (move (transfer y x τ)) (rows_from q count m n from) → Copy y τ
      leaves y x τ z = go (rows_row q m n from count z)
        where
          go : Made q m n from count (move (transfer y x τ)) → Copy y τ
          go (as_hold h) = absurd (let e = h.is in let z : ◌≡◌ {A = ℕ} 0 1 = cc in omega arith)
          go (as_transfer h) =
              let e = h.is in
              let s : y ≡ from h.request = cc in
              let t : τ ≡ q.time h.request = cc in
              rw (s, t) (source_stands h.request h.first h.upto (sends_S (m h.request) h.passes))
          go (as_upload h) = absurd (let e = h.is in let z : ◌≡◌ {A = ℕ} 0 1 = cc in omega arith)

      offered : (x τ : ℕ) → Memᴰ (move (upload x τ)) (rows_from q count m n from) → offers p ≡ true
      offered x τ z = go (rows_row q m n from count z)
        where
          go : Made q m n from count (move (upload x τ)) → offers p ≡ true
          go (as_hold h) = absurd (let e = h.is in let z : ◌≡◌ {A = ℕ} 0 1 = cc in omega arith)
          go (as_transfer h) = absurd (let e = h.is in let z : ◌≡◌ {A = ℕ} 0 1 = cc in omega arith)
          go (as_upload h) = rw (loads_U (m h.request) h.passes) at (valid h.request h.first h.upto)
