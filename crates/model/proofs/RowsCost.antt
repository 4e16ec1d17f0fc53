-- The rows of a legal marking cost what the marking costs, whatever the sources are, and there are at most two for each request.
use Rattle.std.specs.Prelude.{Bool, List, ◌++◌, ◌≡◌, eqb, length}
use Rattle.std.proofs.Math.Bool.{true, false}
use Rattle.std.proofs.Math.Path.{refl, ap}
use Rattle.std.proofs.Common.{sym, ◌∙◌, eq-eqb}
use native.Mathlib.Omega.{arith}
use Prim.Native.Nat.{ℕ, zero, suc, pred, ◌+◌, ◌*◌, ◌≤◌}
use Rattle.base.specs.Choice.{pick}
use Rattle.model.specs.Rates.{Rates, upload_fee}
use Rattle.model.specs.Sums.{sum, total}
use Rattle.model.proofs.SumLaws.{sum_le, sum_same, sum_add, sum_scale, sum_swap, total_append}
use Rattle.model.proofs.CountLaws.{one_server, sum_at_most, total_zero, length_total}
use Rattle.model.specs.Requests.{Requests, Rising, Within}
use Rattle.model.specs.Schedule.{Row, length_of, is_transfer, is_upload, cost_of}
use Rattle.model.specs.Marking.{Mark, K, S, U, keeps, sends, loads, begin, spans, covered, holds, fee, own, gap, asked, cost, begins_run, hold_rows, all_holds, transfers, uploads, rows_from, Valid}
use Rattle.model.proofs.LegalLaws.{kept_from}
use Rattle.model.proofs.HolderLaws.{new_holder}
use Rattle.model.proofs.HolderCount.{holder_count}
use Rattle.model.proofs.SpanSeconds.{seconds, span_seconds}
use Rattle.model.proofs.RunLaws.{begins_true, hold_rows_length, hold_rows_count}
use Rattle.model.proofs.MoveRows.{moved_total, moved_none, sending, loading, transfers_moved, uploads_moved}
use Rattle.model.proofs.RowMembers.{all_holds_row}

module _ (q : Requests) (m : ℕ → Mark) (n : ℕ) where
  -- the holds at server y
  abbrev holds_at : ℕ → List Row
  holds_at y = hold_rows q (λ k. holds q m n k y) n y n

  -- 1 where server y holds over gap k
  abbrev held : ℕ → ℕ → ℕ
  held y k = pick (holds q m n k y) 1 0

  -- 1 where a hold at server y begins with gap k
  abbrev begun : ℕ → ℕ → ℕ
  begun y k = pick (begins_run (λ g. holds q m n g y) k) 1 0

  -- the seconds of request i's K span
  abbrev kept : ℕ → ℕ
  kept i = seconds q (begin q m i) i

  -- 1 where request i is S
  abbrev sent : ℕ → ℕ
  sent i = pick (sends (m i)) 1 0

  -- 1 where it is U
  abbrev loaded : ℕ → ℕ
  loaded i = pick (loads (m i)) 1 0

  -- the seconds held over gap k where no K span covers it
  abbrev bare : ℕ → ℕ
  bare k = pick (covered q m n k) 0 (asked q m k)

  -- a number over the servers' holds, server by server
  all_holds_total : (w : Row → ℕ) (c : ℕ) → total w (all_holds q m n c) ≡ sum c (λ y. total w (holds_at (pred y)))
  unfolding all_holds total sum
  all_holds_total w zero = refl
  all_holds_total w (suc c) = omega (arith, total_append w (all_holds q m n c) (holds_at c), all_holds_total w c)

  -- a number over the transfers, request by request
  transfers_total : (from : ℕ → ℕ) (w : Row → ℕ) → total w (transfers q m from n) ≡ sum n (λ l. pick (sends (m l)) (w (sending q from l)) 0)
  transfers_total from w = rw (transfers_moved q m from n) (moved_total sends (sending q from) m w n)

  -- and over the uploads
  uploads_total : (w : Row → ℕ) → total w (uploads q m n) ≡ sum n (λ l. pick (loads (m l)) (w (loading q l)) 0)
  uploads_total w = rw (uploads_moved q m n) (moved_total loads (loading q) m w n)

  -- and over all rows
  rows_total : (count : ℕ) (from : ℕ → ℕ) (w : Row → ℕ)
      → total w (rows_from q count m n from) ≡ total w (all_holds q m n count) + (total w (transfers q m from n) + total w (uploads q m n))
  unfolding rows_from
  rows_total count from w =
      omega (
        arith,
        total_append w (all_holds q m n count) (transfers q m from n ++ uploads q m n),
        total_append w (transfers q m from n) (uploads q m n),
      )

  -- what a legal mark costs: its span's seconds, a transfer where it is S, an upload where it is U
  own_parts : (p : Rates) → Valid p q m n → (i : ℕ) → 1 ≤ i → i ≤ n
      → own p q (begin q m i) (m i) i ≡ p.hold * kept i + p.transfer * sent i + upload_fee p * loaded i
  unfolding own begin keeps sends loads fee seconds
  own_parts p valid i a b = go (m i) refl
    where
      go : (c : Mark) → m i ≡ c → own p q (begin q m i) (m i) i ≡ p.hold * kept i + p.transfer * sent i + upload_fee p * loaded i
      go K e = let j = kept_from p q i (rw e at (valid i a b)) in rw (e, j.1) (omega arith)
      go S e = rw e (omega arith)
      go U e = rw e (omega arith)

  -- what a legal marking costs: the seconds of its spans and of its bare gaps, its transfers and its uploads
  cost_parts : (p : Rates) → Valid p q m n
      → cost p q m n ≡ p.hold * (sum n kept + sum n bare) + p.transfer * sum n sent + upload_fee p * sum n loaded
  unfolding cost
  cost_parts p valid =
      omega (
        arith,
        sum_same n (λ i. own p q (begin q m i) (m i) i) (λ i. p.hold * kept i + p.transfer * sent i + upload_fee p * loaded i) (own_parts p valid),
        sum_add n (λ i. p.hold * kept i + p.transfer * sent i) (λ i. upload_fee p * loaded i),
        sum_add n (λ i. p.hold * kept i) (λ i. p.transfer * sent i),
        sum_scale p.hold n kept,
        sum_scale p.transfer n sent,
        sum_scale (upload_fee p) n loaded,
        sum_same n (λ k. pick (covered q m n k) 0 (p.hold * asked q m k)) (λ k. p.hold * bare k) (λ k a b. times (covered q m n k) (asked q m k)),
        sum_scale p.hold n bare,
      )
    where
      times : (b : Bool) (g : ℕ) → pick b 0 (p.hold * g) ≡ p.hold * pick b 0 g
      times true g = omega arith
      times false g = omega arith

  module _ (count : ℕ) (within : Within count q n) where
    -- the seconds held over gap k: once for each span over it, or once where it is bare
    gap_seconds : (k : ℕ) → 1 ≤ k → k ≤ n
        → sum count (λ y. gap q k * held (pred y) k) ≡ sum n (λ i. gap q k * pick (spans q m i k) 1 0) + bare k
    unfolding asked
    gap_seconds k a b =
        omega (
          arith,
          sum_scale (gap q k) count (λ y. held (pred y) k),
          ap (λ (x : ℕ). gap q k * x) (holder_count q m n count within k a b),
          sum_scale (gap q k) n (λ i. pick (spans q m i k) 1 0),
          times (covered q m n k) (loads (m k)) (gap q k),
        )
      where
        times : (b u : Bool) (g : ℕ) → g * pick b 0 (pick u 0 1) ≡ pick b 0 (pick u 0 g)
        times true u g = omega arith
        times false true g = omega arith
        times false false g = omega arith

    -- the holds' seconds are those of the spans and of the bare gaps
    held_seconds : Rising q n → total length_of (all_holds q m n count) ≡ sum n kept + sum n bare
    held_seconds rise =
        omega (
          arith,
          all_holds_total length_of count,
          sum_same count (λ y. total length_of (holds_at (pred y))) (λ y. sum n (λ k. gap q k * held (pred y) k))
              (λ y a b. hold_rows_length q (λ k. holds q m n k (pred y)) n (pred y) rise),
          sum_swap count n (λ y k. gap q k * held (pred y) k),
          sum_same n (λ k. sum count (λ y. gap q k * held (pred y) k)) (λ k. sum n (λ i. gap q k * pick (spans q m i k) 1 0) + bare k) gap_seconds,
          sum_add n (λ k. sum n (λ i. gap q k * pick (spans q m i k) 1 0)) bare,
          sum_swap n n (λ k i. gap q k * pick (spans q m i k) 1 0),
          sum_same n (λ i. sum n (λ k. gap q k * pick (spans q m i k) 1 0)) kept (λ i a b. span_seconds q m n rise i b),
        )

    -- at most one hold begins with each gap
    one_begins : (k : ℕ) → 1 ≤ k → k ≤ n → sum count (λ y. begun (pred y) k) ≤ 1
    unfolding Within
    one_begins zero a b = absurd (omega arith)
    one_begins (suc k) a b =
        omega (
          arith,
          sum_le count (λ y. begun (pred y) (suc k)) (λ y. pick (eqb (pred y) (q.server k)) 1 0) (λ y c d. new (pred y)),
          one_server count (q.server k) (within k (omega arith)),
        )
      where
        new : (y : ℕ) → begun y (suc k) ≤ pick (eqb y (q.server k)) 1 0
        new y = go (begins_run (λ g. holds q m n g y) (suc k)) refl
          where
            go : (c : Bool) → begins_run (λ g. holds q m n g y) (suc k) ≡ c → pick c 1 0 ≤ pick (eqb y (q.server k)) 1 0
            go true e =
                let t = begins_true (λ g. holds q m n g y) k e in
                rw (eq-eqb y (q.server k) (new_holder q m n k y t.0 t.1)) (omega arith)
            go false e = omega arith

    -- so there are no more holds than gaps
    few_holds : length (all_holds q m n count) ≤ n
    few_holds =
        omega (
          arith,
          length_total (all_holds q m n count),
          all_holds_total (λ r. 1) count,
          sum_same count (λ y. total (λ r. 1) (holds_at (pred y))) (λ y. sum n (begun (pred y)))
              (λ y a b. sym (length_total (holds_at (pred y))) ∙ hold_rows_count q (λ k. holds q m n k (pred y)) n (pred y) n),
          sum_swap count n (λ y k. begun (pred y) k),
          sum_at_most n (λ k. sum count (λ y. begun (pred y) k)) one_begins,
        )

module _ (q : Requests) (count : ℕ) (m : ℕ → Mark) (n : ℕ) where
  -- the rows cost what the marking costs
  pub rows_cost : (from : ℕ → ℕ) → Rising q n → Within count q n → (p : Rates) → Valid p q m n → cost_of p (rows_from q count m n from) ≡ cost p q m n
  unfolding cost_of length_of is_transfer is_upload
  rows_cost from rise within p valid = rw (all_seconds, all_transfers, all_uploads, cost_parts q m n p valid)
    where
      of_transfers : (w : Row → ℕ) → ((l : ℕ) → w (sending q from l) ≡ 0) → total w (transfers q m from n) ≡ 0
      of_transfers w z = rw (transfers_moved q m from n) (moved_none sends (sending q from) m w z n)

      of_uploads : (w : Row → ℕ) → ((l : ℕ) → w (loading q l) ≡ 0) → total w (uploads q m n) ≡ 0
      of_uploads w z = rw (uploads_moved q m n) (moved_none loads (loading q) m w z n)

      all_seconds : total length_of (rows_from q count m n from) ≡ sum n (kept q m n) + sum n (bare q m n)
      all_seconds =
          omega (
            arith,
            rows_total q m n count from length_of,
            held_seconds q m n count within rise,
            of_transfers length_of (λ l. refl),
            of_uploads length_of (λ l. refl),
          )

      all_transfers : total is_transfer (rows_from q count m n from) ≡ sum n (sent q m n)
      all_transfers =
          omega (
            arith,
            rows_total q m n count from is_transfer,
            total_zero is_transfer (all_holds q m n count) (λ r x. rw (all_holds_row q m n count x).is),
            transfers_total q m n from is_transfer,
            of_uploads is_transfer (λ l. refl),
          )

      all_uploads : total is_upload (rows_from q count m n from) ≡ sum n (loaded q m n)
      all_uploads =
          omega (
            arith,
            rows_total q m n count from is_upload,
            total_zero is_upload (all_holds q m n count) (λ r x. rw (all_holds_row q m n count x).is),
            of_transfers is_upload (λ l. refl),
            uploads_total q m n is_upload,
          )

  -- the number of rows: of holds, of S and of U
  rows_length : (from : ℕ → ℕ) → length (rows_from q count m n from) ≡ length (all_holds q m n count) + (sum n (sent q m n) + sum n (loaded q m n))
  rows_length from =
      omega (
        arith,
        length_total (rows_from q count m n from),
        rows_total q m n count from (λ r. 1),
        length_total (all_holds q m n count),
        transfers_total q m n from (λ r. 1),
        uploads_total q m n (λ r. 1),
      )

  -- as many, whatever the sources
  pub rows_as_many : (from to : ℕ → ℕ) → length (rows_from q count m n from) ≡ length (rows_from q count m n to)
  rows_as_many from to = rows_length from ∙ sym (rows_length to)

  -- at most two for each request
  pub rows_few : (from : ℕ → ℕ) → Within count q n → length (rows_from q count m n from) ≤ 2 * n
  unfolding sends loads
  rows_few from within =
      omega (
        arith,
        rows_length from,
        few_holds q m n count within,
        sum_add n (sent q m n) (loaded q m n),
        sum_at_most n (λ i. sent q m n i + loaded q m n i) (λ i a b. one (m i)),
      )
    where
      one : (a : Mark) → pick (sends a) 1 0 + pick (loads a) 1 0 ≤ 1
      one K = omega arith
      one S = omega arith
      one U = omega arith
