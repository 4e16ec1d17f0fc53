-- The rows step by step, as the code finds them.
use Rattle.std.specs.Prelude.{Bool, true, false, not, ◌≡◌}
use mathlib.Core.List.{List, [], ◌∷◌, ◌++◌, append_assoc}
use Rattle.std.proofs.Math.Path.{refl, ap}
use Rattle.std.proofs.Common.{sym, ◌∙◌, lt-ltb, le-ltb}
use native.Mathlib.Omega.{arith}
use native.Mathlib.Numerals.{add-one}
use Prim.Native.Nat.{ℕ, zero, suc, pred, ◌+◌, ◌-◌, ◌≤◌, ◌<◌}
use Rattle.std.proofs.Math.ListN.{length, length-append}
use Rattle.model.specs.Requests.{Requests}
use Rattle.model.specs.Schedule.{Row, hold, move, transfer, upload}
use Rattle.model.specs.Marking.{Mark, sends, loads, begins_run, run_end, hold_rows, transfers, uploads}
use Rattle.planner.specs.Asked.{asks}
use Rattle.planner.specs.WordRows.{holder_at, new_hold, new_transfer, new_upload, word_holds, word_source, word_rows}
use Rattle.planner.specs.RowWriting.{put_rows, Put, put_next}

module _ (f : ℕ → Bool) (n : ℕ) where
  -- a run ends before a gap that fails
  pub run_stops : (e : ℕ) → f (e + 1) ≡ false → run_end f e (n - e) ≡ e
  unfolding run_end
  run_stops e h = go (n - e) (rw add-one at h)
    where
      go : (d : ℕ) → f (suc e) ≡ false → run_end f e d ≡ e
      go zero g = refl
      go (suc d) g = rw g

  -- it goes on over one that passes
  pub run_goes : (e : ℕ) → e < n → f (e + 1) ≡ true → run_end f e (n - e) ≡ run_end f (e + 1) (n - (e + 1))
  unfolding run_end
  run_goes e l h =
      let z : n - e ≡ suc (n - suc e) = omega arith in
      let g = rw (add-one e) at h in
      rw (z, add-one e, g)

  -- and ends with the last gap
  pub run_last : (e : ℕ) → n ≤ e → run_end f e (n - e) ≡ e
  unfolding run_end
  run_last e l = let z : n - e ≡ 0 = omega arith in rw z

-- no run begins with a gap that fails
pub begins_off : (f : ℕ → Bool) (k : ℕ) → f k ≡ false → begins_run f k ≡ false
unfolding begins_run
begins_off f k h = rw h

-- one begins with the first gap that there is
pub begins_first : (f : ℕ → Bool) (k : ℕ) → f k ≡ true → k ≤ 1 → begins_run f k ≡ true
unfolding begins_run
begins_first f k h l = rw (h, le-ltb 1 k l)

-- and with a later one where the gap before it fails
pub begins_later : (f : ℕ → Bool) (k : ℕ) → f k ≡ true → 1 < k → begins_run f k ≡ not (f (k - 1))
unfolding begins_run
begins_later f k h l = let e : pred k ≡ k - 1 = omega arith in rw (h, lt-ltb 1 k l, e)

-- the holds go by the times alone
hold_rows_times : (times xs ys : List ℕ) (f : ℕ → Bool) (n y k : ℕ) → hold_rows (asks times xs) f n y k ≡ hold_rows (asks times ys) f n y k
unfolding hold_rows
hold_rows_times times xs ys f n y zero = refl
hold_rows_times times xs ys f n y (suc k) = rw (hold_rows_times times xs ys f n y k)

pub word_holds_times : (times xs ys words : List ℕ) (n c : ℕ) → word_holds (asks times xs) words n c ≡ word_holds (asks times ys) words n c
unfolding word_holds
word_holds_times times xs ys words n zero = refl
word_holds_times times xs ys words n (suc c) = rw (word_holds_times times xs ys words n c, hold_rows_times times xs ys (holder_at words c) n c n)

-- the hold that begins with a gap, if one does
pub hold_none : (q : Requests) (f : ℕ → Bool) (n y k : ℕ) → begins_run f (suc k) ≡ false → new_hold q f n y k ≡ []
unfolding new_hold
hold_none q f n y k e = rw e

pub hold_one : (q : Requests) (f : ℕ → Bool) (n y k : ℕ) → begins_run f (suc k) ≡ true
    → new_hold q f n y k ≡ hold y (q.time k) (q.time (run_end f (suc k) (n - suc k))) ∷ []
unfolding new_hold
hold_one q f n y k e = rw e

-- the transfer to a request, if it is S
pub transfer_none : (q : Requests) (m : ℕ → Mark) (from : ℕ → ℕ) (i : ℕ) → sends (m (suc i)) ≡ false → new_transfer q m from i ≡ []
unfolding new_transfer
transfer_none q m from i e = rw e

pub transfer_one : (q : Requests) (m : ℕ → Mark) (from : ℕ → ℕ) (i : ℕ) → sends (m (suc i)) ≡ true
    → new_transfer q m from i ≡ move (transfer (from (suc i)) (q.server (suc i)) (q.time (suc i))) ∷ []
unfolding new_transfer
transfer_one q m from i e = rw e

-- the upload to it, if it is U
pub upload_none : (q : Requests) (m : ℕ → Mark) (i : ℕ) → loads (m (suc i)) ≡ false → new_upload q m i ≡ []
unfolding new_upload
upload_none q m i e = rw e

pub upload_one : (q : Requests) (m : ℕ → Mark) (i : ℕ) → loads (m (suc i)) ≡ true → new_upload q m i ≡ move (upload (q.server (suc i)) (q.time (suc i))) ∷ []
unfolding new_upload
upload_one q m i e = rw e

-- a list of no rows
none : (rows : List Row) → length rows ≡ 0 → rows ≡ []
none [] e = refl
none (r ∷ rows) e = absurd (omega arith)

-- the holds put in, then the transfers
module _ (q : Requests) (words : List ℕ) (m : ℕ → Mark) (n count next last : ℕ) (o p r : List ℕ)
    (a : Put 0 (word_holds q words n count) o next p) (b : Put next (transfers q m (word_source q words) n) p last r) where
  both_put : Put 0 (word_holds q words n count ++ transfers q m (word_source q words) n) o last r
  both_put = put_next 0 (word_holds q words n count) (transfers q m (word_source q words) n) o next last p r a b.0 b.1

  -- then the uploads
  pub put_parts : (s : List ℕ) → s ≡ put_rows last (uploads q m n) r → s ≡ put_rows 0 (word_rows q words count m n) o
  unfolding word_rows
  put_parts s e =
      let held = word_holds q words n count in
      let sent = transfers q m (word_source q words) n in
      (put_next 0 (held ++ sent) (uploads q m n) o last (last + length (uploads q m n)) r s both_put refl e).1
      ∙ ap (λ (rows : List Row). put_rows 0 rows o) (append_assoc held sent (uploads q m n))

  -- where those are all rows, there is no upload
  pub put_sent : last ≡ length (word_rows q words count m n) → r ≡ put_rows 0 (word_rows q words count m n) o
  unfolding word_rows put_rows
  put_sent e =
      let held = word_holds q words n count in
      let sent = transfers q m (word_source q words) n in
      let loaded = uploads q m n in
      let z : length loaded ≡ 0 =
      omega (arith, both_put.0, length-append held sent, length-append held (sent ++ loaded), length-append sent loaded) in
      put_parts r (ap (λ (rows : List Row). put_rows last rows r) (sym (none loaded z)))
