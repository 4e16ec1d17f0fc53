-- For a sound log the conditions 14 to 18 as the code comes by them refuse what the schedule's conditions refuse.
use Rattle.std.specs.Prelude.{Bool, true, not, ◌⊎◌, ◌≡◌, eqb, get_or, Ok, Err}
use Rattle.base.specs.declared.reasons.Reason.TheVariants as reason
use Rattle.std.proofs.Math.Bool.{false}
use mathlib.Core.List.{List, ◌++◌, Memᴰ}
use Rattle.std.proofs.Common.{inl, inr, ◌∙◌}
use Rattle.std.proofs.Math.Path.{refl, sym, ap, ap₂}
use native.Mathlib.Omega.{arith}
use Prim.Native.Nat.{ℕ, zero, suc, ◌+◌, ◌-◌, ◌*◌, ◌≤◌, ◌<◌}
use borrow.Author.Tests.{lt-ltb, not-false}
use Rattle.base.specs.Choice.{either, true_or_false}
use Rattle.base.specs.Sets.{has}
use Rattle.base.specs.Refusals.{Condition, first, each, nth, otherwise, Verdict}
use Rattle.base.specs.RefusalLaws.{first_append, first_passed, each_passed}
use Rattle.request_log.specs.Fields.{server_count_of, home_of, request_count}
use Rattle.request_log.specs.Ranges.{Sound}
use Rattle.base.specs.ChoiceLaws.{either_false}
use Rattle.model.specs.Rates.{Rates, offers}
use Rattle.model.specs.Requests.{Requests, requests}
use Rattle.model.specs.LogRequests.{requests_in}
use Rattle.model.proofs.LogRequestLaws.{home_is, time_read, server_read}
use Rattle.model.specs.Schedule.{hold, held}
use Rattle.model.specs.Standing.{stands}
use Rattle.model.specs.RowForm.{row_at, rows_of, fits}
use Rattle.model.proofs.RowLaws.{row_member}
use Rattle.model.specs.Checking.{row_count, kind_fits, misfits, misplaced, row_conditions, backed, copy_condition, serve_condition, schedule_conditions}
use Rattle.rows.specs.Reading.{server_of, second_of}
use Rattle.rows.specs.GivenLaws.{given_some}
use Rattle.rows.specs.Passes.{covers, offering, row_tests, any_below}
use Rattle.rows.specs.AnyLaws.{any_is}
use Rattle.checker.specs.Search.{upload_key, InOrder}
use Rattle.checker.specs.KeyLaws.{Shaped, keys_up}
use Rattle.checker.specs.Quick.{reaches, first_of, first_upload, standing_at, unbacked, hold_test, transfer_test, copy_tests, stands_at, served, serve_test, schedule_tests}
use Rattle.checker.specs.SearchLaws.{from_position}
use Rattle.checker.specs.EachLaws.{each_same, each_until, each_split}
use Rattle.checker.specs.QuickReach.{covering, finds, not_found}
use Rattle.checker.specs.QuickUploads.{upload_row}
use Rattle.checker.specs.QuickStanding.{source_in, standing_agrees}
use Rattle.checker.specs.QuickHolds.{there, transfer_row, transfers_first, upload_within}
use Rattle.checker.specs.QuickFed.{low, same_hold, low_refused}
use Rattle.checker.specs.QuickTransfers.{copy_test, one_by_one}
use Rattle.checker.specs.QuickParts.{whole_test, row_part, copy_part, serve_part, four_parts, schedule_parts}

-- a verdict after which nothing is refused
last_passed : (v w : Verdict) → w ≡ Ok tt → otherwise v w ≡ v
last_passed (Ok _) w e = e
last_passed (Err r) w e = refl

-- 15 asks of the rates only whether an upload price is given
offers_same : (p : Rates) (kind last : ℕ) → kind_fits (offering (offers p)) kind last ≡ kind_fits p kind last
unfolding kind_fits offering
offers_same p kind last = rw (given_some (offers p) 0)

module _ (count last : ℕ) (ns : List ℕ) (s : Shaped count last ns) (home : ℕ) (inside : home < count) where
  -- at any server a copy stands where a hold keeps it or the set has the server
  stands_is : (τ x : ℕ) → stands_at count home ns τ x ≡ stands count home (rows_of ns) x τ
  unfolding stands_at rows_of row_count
  stands_is τ x = go (true_or_false (any_below (row_count ns) (λ i. covers τ x (row_at ns i))))
    where
      go : (any_below (row_count ns) (λ i. covers τ x (row_at ns i)) ≡ true) ⊎ (any_below (row_count ns) (λ i. covers τ x (row_at ns i)) ≡ false)
          → either (reaches ns τ x) (has (standing_at count home ns τ) x) ≡ stands count home (rows_of ns) x τ
      go (inl t) =
          let (i, l, c) = any_is (row_count ns) (λ i. covers τ x (row_at ns i)) t in
          let h = covering τ x (row_at ns i) c in
          let m : Memᴰ (hold x h.from h.to) (rows_of ns) = rw h.is at (row_member ns (row_count ns) i l) in
          rw (finds count last ns s τ x i l c) (sym (there count last ns s home inside (held m h.began h.lasts)))
      go (inr t) = rw (not_found count last ns s τ x t) (standing_agrees count last ns s home inside τ x (inr t))

  module _ (q : Requests) (z : q.server 0 ≡ home) where
    -- 17 for a transfer
    same_transfer : (i : ℕ) → first_of ns 0 ≤ i → i < first_upload ns 0 → copy_test count home ns i ≡ copy_condition count q ns i
    unfolding copy_test copy_condition backed second_of server_of
    same_transfer i l h =
        let (y, x, τ, e) = transfer_row count last ns s home inside i l h in
        let m : i < row_count ns = omega (arith, upload_within count last ns s home inside) in
        rw (z, e, standing_agrees count last ns s home inside τ y (inl (source_in count last ns s τ y x i m e)))

    -- 17 for all rows up to the first upload: the holds, and then the transfers
    same_until : first (copy_tests count home ns) ≡ first (each (copy_condition count q ns) (first_upload ns 0))
    unfolding copy_tests
    same_until =
        let holds = first_of ns 0 in
        let rest = first_upload ns 0 - holds in
        let first_low = low count last ns s home inside in
        let first_late = unbacked count home ns holds rest in
        let all : holds + rest ≡ first_upload ns 0 = omega (arith, transfers_first count last ns s home inside) in
        let most : holds + rest ≤ row_count ns = omega (arith, upload_within count last ns s home inside) in
        first_append (each (hold_test home ns first_low) holds) (transfer_test ns first_late)
        ∙ ap₂ otherwise
        (each_until (hold_test home ns first_low) (copy_condition count q ns) holds first_low (same_hold count last ns s home inside q z)
        (λ l. (record { reason = reason.NoCopy; place = suc first_low }, low_refused count last ns s home inside)))
        (sym (one_by_one count home ns holds rest most)
        ∙ ap first (each_same (λ j. copy_test count home ns (holds + j)) (λ j. copy_condition count q ns (holds + j)) rest
        (λ j l. same_transfer (holds + j) (omega arith) (omega arith))))
        ∙ sym (first_append (each (copy_condition count q ns) holds) (each (λ j. copy_condition count q ns (holds + j)) rest))
        ∙ ap first (sym (each_split (copy_condition count q ns) holds rest) ∙ ap (each (copy_condition count q ns)) all)

    -- an upload asks for no copy
    upload_passed : (i : ℕ) → first_upload ns 0 ≤ i → i < row_count ns → first (copy_condition count q ns i) ≡ Ok tt
    unfolding copy_condition backed first first_upload
    upload_passed i l h =
        let (x, τ, e, b) = upload_row count last ns s i h (from_position ns (keys_up count last ns s) (upload_key 0 0) i l h) in
        rw e

    -- so these are all
    same_copies : first (copy_tests count home ns) ≡ first (each (copy_condition count q ns) (row_count ns))
    same_copies =
        let moves = first_upload ns 0 in
        let rest = row_count ns - moves in
        let all : moves + rest ≡ row_count ns = omega (arith, upload_within count last ns s home inside) in
        same_until
        ∙ sym (ap (λ (n : ℕ). first (each (copy_condition count q ns) n)) (sym all)
        ∙ ap first (each_split (copy_condition count q ns) moves rest)
        ∙ first_append (each (copy_condition count q ns) moves) (each (λ j. copy_condition count q ns (moves + j)) rest)
        ∙ last_passed (first (each (copy_condition count q ns) moves)) (first (each (λ j. copy_condition count q ns (moves + j)) rest))
        ((each_passed (λ j. copy_condition count q ns (moves + j)) rest).1 (λ j l. upload_passed (moves + j) (omega arith) (omega arith))))

module _ (log ns : List ℕ) (a : Sound log) where
  -- the log's server count, requests and their number
  abbrev count : ℕ
  count = server_count_of log

  abbrev q : Requests
  q = requests_in log

  abbrev n : ℕ
  n = request_count log

  -- no request is later than 4,000,000
  last_early : (k : ℕ) → k ≤ n → q.time k < 4194304
  unfolding requests_in requests
  last_early zero l = omega arith
  last_early (suc k) l = omega (arith, (a.in_order k l).second_most)

  -- where 15 and 16 pass the rows are well formed
  pub shaped : (given : Bool) → first (row_part given log ns) ≡ Ok tt → Shaped count (q.time n) ns
  unfolding row_tests misplaced
  shaped given e = record {
    few = a.setup.servers_most;
    early = last_early n (omega arith);
    fit_at = fit;
    follow_at = λ i l. not-false _ (rw (lt-ltb 0 (suc i) (omega arith)) at (test (suc i) l 1));
  }
    where
      test : (i : ℕ) → i < row_count ns → (j : ℕ) → (nth (row_tests given count n (q.time n) ns i) j).holds ≡ false
      test i l = (first_passed (row_tests given count n (q.time n) ns i)).0 ((each_passed (row_tests given count n (q.time n) ns) (row_count ns)).0 e i l)

      fit : (i : ℕ) → i < row_count ns → fits count (q.time n) (row_at ns i) ≡ true
      fit i l =
          let ok = fits count (q.time n) (row_at ns i) in
          let kind = kind_fits (offering given) (get_or ns (4 * i) 0) (get_or ns (4 * i + 3) 0) in
          not-false ok (either_false (eqb n 0) (not ok) (either_false (not kind) (either (eqb n 0) (not ok)) (test i l 0)).1).1

  -- and in order
  pub in_order : (given : Bool) → first (row_part given log ns) ≡ Ok tt → InOrder ns
  in_order given e = keys_up count (q.time n) ns (shaped given e)

  -- then 17 and 18 are the same
  copies_same : Shaped count (q.time n) ns → first (copy_part log ns) ≡ first (each (copy_condition count q ns) (row_count ns))
  copies_same s = same_copies count (q.time n) ns s (home_of log) a.setup.home_below q (home_is log)

  serves_same : Shaped count (q.time n) ns → serve_part log ns ≡ each (serve_condition count q ns) n
  unfolding serve_test served serve_condition
  serves_same s =
      each_same (serve_test log ns) (serve_condition count q ns) n
      (λ i l. rw (stands_is count (q.time n) ns s (home_of log) a.setup.home_below, time_read log i l, server_read log i l, home_is log))

  -- the conditions of the copies and of the requests
  abbrev copies : List Condition
  copies = each (copy_condition count q ns) (row_count ns)

  abbrev serves : List Condition
  serves = each (serve_condition count q ns) n

  -- so all of them give one verdict
  module _ (p : Rates) where
    abbrev rows : List Condition
    rows = row_part (offers p) log ns

    -- 15 and 16 of each row
    rows_same : rows ≡ each (row_conditions p count q n ns) (row_count ns)
    unfolding row_tests row_conditions misfits
    rows_same =
        each_same (row_tests (offers p) count n (q.time n) ns) (row_conditions p count q n ns) (row_count ns)
        (λ i l. rw (offers_same p (get_or ns (4 * i) 0) (get_or ns (4 * i + 3) 0)))

    pub same_verdict : first (schedule_tests (offers p) log ns) ≡ first (schedule_conditions p count q n ns)
    unfolding schedule_conditions
    same_verdict =
        schedule_parts (offers p) log ns
        ∙ go (first rows) refl
        ∙ sym (four_parts (whole_test ns) rows copies serves)
        ∙ ap (λ (cs : List Condition). first (whole_test ns ++ (cs ++ (copies ++ serves)))) rows_same
      where
        go : (v : Verdict) → first rows ≡ v
            → otherwise (first (whole_test ns)) (otherwise (first rows) (otherwise (first (copy_part log ns)) (first (serve_part log ns))))
            ≡ otherwise (first (whole_test ns)) (otherwise (first rows) (otherwise (first copies) (first serves)))
        go (Ok _) e = rw (copies_same (shaped (offers p) e), serves_same (shaped (offers p) e))
        go (Err r) e = rw e
