-- Every feasible schedule costs at least the free table's value: its rows give a marking and the copies over each second.
-- A request that is not kept has a move of its own, and a gap without an upload is held over. So where an upload costs no more than a
-- transfer, all requests that are not kept are U; else those with an upload in their gap are, and the others S.
use Rattle.std.specs.Prelude.{Bool, List, ◌⊎◌, ℕ, suc, pred, ◌+◌, ◌-◌, ◌*◌, ◌≤◌, ◌<◌, leb, ltb}
use Rattle.std.proofs.Math.Bool.{true, false}
use Rattle.std.proofs.Common.{inl, inr, ◌∙◌, mul-add, lt-ltb, ltb-true, leb-true, le-ltb}
use Rattle.std.proofs.Math.Option.{none, some}
use Rattle.std.proofs.Math.Path.{◌≡◌, refl, sym, ap}
use Rattle.std.proofs.Math.Nat.{mul-le-mul_left, mul-le-mul_right}
use native.Mathlib.Omega.{arith}
use Rattle.base.specs.Choice.{pick, both, le_or_lt, true_or_false, not_both}
use Rattle.base.specs.ChoiceLaws.{both_true}
use Rattle.model.specs.Rates.{Rates, some?, offers, upload_fee}
use Rattle.model.specs.Sums.{sum, total}
use Rattle.model.proofs.SumLaws.{
  sum_le,
  sum_zero,
  sum_add,
  sum_once,
  sum_total,
  total_le,
  total_add,
  total_member,
  inside,
  inside_in,
  inside_low,
  inside_high,
  sum_inside,
}
use Rattle.model.specs.Requests.{Requests, previous, Rising}
use Rattle.model.proofs.RequestLaws.{rises_le}
use Rattle.model.proofs.Once.{awaits_own, since_some, Claim, idle, claims, claims_met}
use Rattle.model.specs.Schedule.{Row, hold, move, Move, transfer, upload, Feasible, length_of, is_transfer, is_upload, cost_of}
use Rattle.model.proofs.RateLaws.{no_uploads}
use Rattle.model.specs.Plan.{rank}
use Rattle.model.specs.Marking.{Mark, K, S, U, keeps, sends, loads, legal, begin, sent, loaded}
use Rattle.model.specs.Table.{free, best}
use Rattle.model.proofs.Demand.{spanned, spans_over, Proper, demand}
use Rattle.model.proofs.Exchange.{best_free}
use Rattle.model.proofs.Fate.{Over, target, second, Fate, kept, got, other, Quiet, some_hold, fate}

-- 1 where a row holds over second τ
unfoldable pub over : ℕ → Row → ℕ
over τ (hold x a b) = inside a b τ
over τ (move v) = 0

-- the copies that rows hold over second τ
unfoldable pub copies : List Row → ℕ → ℕ
copies rows τ = total (over τ) rows

-- a row of length b - a holds over at most that many seconds
over_length : (end : ℕ) (r : Row) → sum end (λ τ. over τ r) ≤ length_of r
unfolding over length_of
over_length end (hold x a b) = omega (arith, sum_inside a b end)
over_length end (move v) = omega (arith, sum_zero end (λ τ. 0) (λ τ a b. refl))

-- the copies over all seconds are no more than the rows' lengths
pub copies_length : (rows : List Row) (end : ℕ) → sum end (copies rows) ≤ total length_of rows
unfolding copies
copies_length rows end =
    omega (arith, sum_total end rows (λ r τ. over τ r), total_le (λ r. sum end (λ τ. over τ r)) length_of rows (over_length end))

-- a hold over second τ is a copy
copies_some : (rows : List Row) (x τ : ℕ) → Over rows x τ → 1 ≤ copies rows τ
unfolding copies over
copies_some rows x τ o = omega (arith, total_member (over τ) o.row, inside_in o.start o.end τ o.low o.high)

-- the server where a row puts a copy
unfoldable at : Row → ℕ
at (hold x a b) = x
at (move v) = target v

-- the second at which a move does
unfoldable when : Row → ℕ
when (hold x a b) = 0
when (move v) = second v

-- 1 for a move
unfoldable is_move : Row → ℕ
is_move r = is_transfer r + is_upload r

one_move : (v : Move) → is_move (move v) ≡ 1
unfolding is_move is_transfer is_upload
one_move (transfer y x τ) = refl
one_move (upload x τ) = refl

-- a mark that is S or U is not K
one_of : (a : Mark) → pick (sends a) 1 0 + pick (loads a) 1 0 ≤ pick (keeps a) 0 1
unfolding sends loads keeps
one_of K = omega arith
one_of S = omega arith
one_of U = omega arith

-- ---- uploads in gaps

-- 1 for an upload in the gap before request i
unfoldable feed : Requests → ℕ → Row → ℕ
feed q i (hold x a b) = 0
feed q i (move (transfer y x τ)) = 0
feed q i (move (upload x τ)) = inside (q.time (pred i)) (q.time i) τ

-- the uploads there
unfoldable feeds : Requests → List Row → ℕ → ℕ
feeds q rows i = total (feed q i) rows

-- no two gaps share one
feeds_all : (q : Requests) (n : ℕ) (rows : List Row) → Rising q n → sum n (feeds q rows) ≤ total is_upload rows
unfolding feeds feed is_upload inside
feeds_all q n rows r =
    omega (arith, sum_total n rows (λ w i. feed q i w), total_le (λ w. sum n (λ i. feed q i w)) is_upload rows one)
  where
    apart : (τ i j : ℕ) → i < j → j ≤ n → both (ltb (q.time (pred i)) τ) (leb τ (q.time i)) ≡ true
        → both (ltb (q.time (pred j)) τ) (leb τ (q.time j)) ≡ true → ⊥
    apart τ i j h k a b =
        omega (
          arith,
          leb-true τ (q.time i) (both_true (ltb (q.time (pred i)) τ) (leb τ (q.time i)) a).1,
          ltb-true (q.time (pred j)) τ (both_true (ltb (q.time (pred j)) τ) (leb τ (q.time j)) b).0,
          rises_le r i (pred j) (omega arith) (omega arith),
        )

    one : (w : Row) → sum n (λ i. feed q i w) ≤ is_upload w
    one (hold x a b) = omega (arith, sum_zero n (λ i. 0) (λ i a b. refl))
    one (move (transfer y x τ)) = omega (arith, sum_zero n (λ i. 0) (λ i a b. refl))
    one (move (upload x τ)) = sum_once n (λ i. both (ltb (q.time (pred i)) τ) (leb τ (q.time i))) (apart τ)

-- s S and l U cost no more than t transfers and u uploads, if s + l ≤ t + u and l ≤ u, and an upload is no cheaper than a transfer or there is none
blend : (x y s l t u : ℕ) → s + l ≤ t + u → l ≤ u → (x ≤ y) ⊎ (u ≡ 0) → x * s + y * l ≤ x * t + y * u
blend x y s l t u h k (inr z) =
    let e : l ≡ 0 = omega arith in
    omega (arith, ap (λ (a : ℕ). y * a) e, mul-le-mul_left x (let w : s ≤ t = omega arith in w))
blend x y s l t u h k (inl z) =
    let e : u ≡ l + (u - l) = omega arith in
    omega (
      arith,
      ap (λ (a : ℕ). y * a) e,
      mul-add y l (u - l),
      mul-le-mul_left x (let w : s ≤ t + (u - l) = omega arith in w),
      mul-add x t (u - l),
      mul-le-mul_right (u - l) z,
    )

-- ---- the marking of the rows

-- what the requests that are not kept are marked: never K, U only where it is legal, S only where a copy is held over each second of the gap
record Choice (p : Rates) (q : Requests) (n : ℕ) (rows : List Row) (choice : ℕ → Mark) : Type 0 where
  away : (i : ℕ) → keeps (choice i) ≡ false
  offered : (i : ℕ) → i < n → choice (suc i) ≡ U → legal p q (suc i) U ≡ true
  covered : (l τ : ℕ) → l < n → choice (suc l) ≡ S → q.time l < τ → τ ≤ q.time (suc l) → 1 ≤ copies rows τ

-- a mark that is not K differs from it
not_K : (a : Mark) → keeps a ≡ false → K ≡ a → ⊥
unfolding keeps
not_K a e z = not_both (rw (← z)) e

module _ (p : Rates) (q : Requests) (n : ℕ) (rows : List Row) (r : Rising q n) (F : Feasible p q n rows) where
  module _ (choice : ℕ → Mark) (C : Choice p q n rows choice) where
    -- K where a request was held since its previous one, else as chosen
    mark_of : (i : ℕ) → Fate q n rows i → Mark
    mark_of i (kept j e all) = K
    mark_of i (got v m w) = choice i
    mark_of i (other h) = choice i

    -- the marking of the rows
    mark : ℕ → Mark
    mark i = mark_of i (fate p q n rows F r i)

    -- each of its marks is K, where there is a previous request, or chosen
    data Marked (i : ℕ) : Type 0 where
      as_kept : mark i ≡ K → legal p q i K ≡ true → Marked i
      as_chosen : mark i ≡ choice i → Marked i

    marked : (i : ℕ) → Marked i
    unfolding mark mark_of legal some?
    marked i = go (fate p q n rows F r i) refl
      where
        go : (x : Fate q n rows i) → mark i ≡ mark_of i x → Marked i
        go (kept j e all) k = as_kept k (rw e)
        go (got v m w) k = as_chosen k
        go (other w) k = as_chosen k

    -- so it is proper
    mark_proper : Proper p q n mark
    unfolding keeps
    mark_proper = record { kept = λ i h e. kept_legal i e (marked (suc i)); offered = λ i h e. C.offered i h (chosen i e (marked (suc i))) }
      where
        kept_legal : (i : ℕ) → mark (suc i) ≡ K → Marked (suc i) → legal p q (suc i) K ≡ true
        kept_legal i e (as_kept k l) = l
        kept_legal i e (as_chosen k) = absurd (not_K (choice (suc i)) (C.away (suc i)) (sym e ∙ k))

        chosen : (i : ℕ) → mark (suc i) ≡ U → Marked (suc i) → choice (suc i) ≡ U
        chosen i e (as_kept k l) = absurd (let z : ◌≡◌ {A = Mark} K U = sym k ∙ e in not_K U refl z)
        chosen i e (as_chosen k) = sym k ∙ e

    -- a K span over second τ claims a hold
    span_claim : (τ i : ℕ) → Claim q rows at (λ w. τ) (over τ) i (spanned q (begin q mark i) i τ)
    unfolding begin keeps mark mark_of spanned over at
    span_claim τ i = go (fate p q n rows F r i)
      where
        in_span : (j : ℕ) → previous q i ≡ some j → ((τ : ℕ) → q.time j < τ → τ ≤ q.time i → Over rows (q.server i) τ)
            → (τ ≤ q.time j) ⊎ (q.time j < τ) → (τ ≤ q.time i) ⊎ (q.time i < τ)
            → Claim q rows at (λ w. τ) (over τ) i (inside (q.time j) (q.time i) τ)
        in_span j e all (inl a) b = idle (inside_low (q.time j) (q.time i) τ a)
        in_span j e all (inr a) (inr b) = idle (inside_high (q.time j) (q.time i) τ b)
        in_span j e all (inr a) (inl b) =
            let o = all τ a b in
            claims (hold (q.server i) o.start o.end) o.row
            (omega (arith, inside_in (q.time j) (q.time i) τ a b, inside_in o.start o.end τ o.low o.high))
            (awaits_own q τ i (since_some q i j τ e a) b)

        no_span : spanned q (pick (keeps (choice i)) (previous q i) none) i τ ≡ 0
        no_span = rw (C.away i)

        go : (x : Fate q n rows i) → Claim q rows at (λ w. τ) (over τ) i (spanned q (pick (keeps (mark_of i x)) (previous q i) none) i τ)
        go (kept j e all) = rw e (in_span j e all (le_or_lt τ (q.time j)) (le_or_lt τ (q.time i)))
        go (got v m w) = idle no_span
        go (other w) = idle no_span

    -- a request that is not kept claims a move
    move_claim : (i : ℕ) → 1 ≤ i → i ≤ n → Claim q rows at when is_move i (pick (keeps (mark i)) 0 1)
    unfolding keeps mark mark_of at when
    move_claim i a b = go (fate p q n rows F r i)
      where
        go : (x : Fate q n rows i) → Claim q rows at when is_move i (pick (keeps (mark_of i x)) 0 1)
        go (kept j e all) = idle refl
        go (got v m w) = claims (move v) m (rw (C.away i) (omega (arith, one_move v))) w
        go (other w) = absurd (w a b)

    -- so there are at least as many moves as S and U
    moves_met : sent mark n + loaded mark n ≤ total is_transfer rows + total is_upload rows
    unfolding sent loaded is_move
    moves_met =
        omega (
          arith,
          sum_add n (λ i. pick (sends (mark i)) 1 0) (λ i. pick (loads (mark i)) 1 0),
          sum_le n (λ i. pick (sends (mark i)) 1 0 + pick (loads (mark i)) 1 0) (λ i. pick (keeps (mark i)) 0 1) (λ i a b. one_of (mark i)),
          claims_met q rows at when is_move n r (λ i. pick (keeps (mark i)) 0 1) move_claim,
          total_add is_transfer is_upload rows,
        )

    -- the demand lemma for that marking and the copies that the rows hold
    paid : free p q n n ≤ p.transfer * sent mark n + upload_fee p * loaded mark n + p.hold * total length_of rows
    unfolding copies spans_over keeps
    paid =
        omega (
          arith,
          demand p q n r mark mark_proper n (copies rows) (omega arith)
              (λ τ a. claims_met q rows at (λ w. τ) (over τ) n r (λ i. spanned q (begin q mark i) i τ) (λ i b c. span_claim τ i))
              (λ l τ h e a b. C.covered l τ h (chosen l e (marked (suc l))) a b),
          mul-le-mul_left p.hold (copies_length rows (q.time n)),
        )
      where
        chosen : (l : ℕ) → mark (suc l) ≡ S → Marked (suc l) → choice (suc l) ≡ S
        chosen l e (as_kept k w) = absurd (let z : ◌≡◌ {A = Mark} K S = sym k ∙ e in not_K S refl z)
        chosen l e (as_chosen k) = sym k ∙ e

    -- a count of marks that K does not add to is no more than that of the choices
    chosen_count : (f : Mark → ℕ) → f K ≡ 0 → sum n (λ i. f (mark i)) ≤ sum n (λ i. f (choice i))
    chosen_count f z = sum_le n (λ i. f (mark i)) (λ i. f (choice i)) (λ i a b. go i (marked i))
      where
        go : (i : ℕ) → Marked i → f (mark i) ≤ f (choice i)
        go i (as_kept k l) = omega (arith, ap f k)
        go i (as_chosen k) = omega (arith, ap f k)

  -- ---- uploads that cost no more than a transfer: U for all

  all_U : offers p ≡ true → Choice p q n rows (λ i. U)
  unfolding keeps legal rank
  all_U o = record { away = λ i. refl; offered = λ i h e. o; covered = λ l τ h e a b. absurd (omega (arith, ap rank e)) }

  cheap : offers p ≡ true → upload_fee p ≤ p.transfer → free p q n n ≤ cost_of p rows
  unfolding cost_of sent sends
  cheap o h =
      let m = mark (λ i. U) (all_U o) in
      let none_sent : sent m n ≡ 0 = omega (arith, chosen_count (λ i. U) (all_U o) (λ a. pick (sends a) 1 0) refl, sum_zero n (λ i. 0) (λ i a b. refl)) in
      omega (
        arith,
        paid (λ i. U) (all_U o),
        ap (λ (x : ℕ). p.transfer * x) none_sent,
        mul-le-mul_left (upload_fee p) (moves_met (λ i. U) (all_U o)),
        mul-le-mul_right (total is_transfer rows) h,
      )

  -- ---- else U where there is an upload in the gap, and S where there is none

  fed : ℕ → Mark
  fed i = pick (ltb 0 (feeds q rows i)) U S

  -- an S has no upload in its gap
  fed_S : (i : ℕ) → fed i ≡ S → feeds q rows i ≡ 0
  unfolding fed rank
  fed_S i e = go (le_or_lt (feeds q rows i) 0)
    where
      go : (feeds q rows i ≤ 0) ⊎ (0 < feeds q rows i) → feeds q rows i ≡ 0
      go (inl h) = omega arith
      go (inr h) = absurd (omega (arith, ap rank (rw (lt-ltb 0 (feeds q rows i) h) at e)))

  -- so a copy is held over it
  fed_covered : (l τ : ℕ) → l < n → fed (suc l) ≡ S → q.time l < τ → τ ≤ q.time (suc l) → 1 ≤ copies rows τ
  unfolding feeds feed
  fed_covered l τ h e a b =
      let o = some_hold p q n rows F (suc l) τ (omega arith) h (omega arith) b quiet in
      copies_some rows o.0 τ o.1
    where
      quiet : Quiet p q n rows F τ (q.time (suc l))
      quiet x ω m u w =
          omega (arith, fed_S (suc l) e, total_member (feed q (suc l)) m, inside_in (q.time l) (q.time (suc l)) ω (omega arith) w)

  fed_choice : Choice p q n rows fed
  unfolding fed feeds feed keeps legal rank
  fed_choice = record { away = λ i. away (ltb 0 (feeds q rows i)); offered = λ i h e. offered i e (true_or_false (offers p)); covered = fed_covered }
    where
      away : (b : Bool) → keeps (pick b U S) ≡ false
      away true = refl
      away false = refl

      offered : (i : ℕ) → fed (suc i) ≡ U → (offers p ≡ true) ⊎ (offers p ≡ false) → offers p ≡ true
      offered i e (inl o) = o
      offered i e (inr o) =
          absurd (omega (arith, ap rank (rw (no_uploads p q n rows F o (feed q (suc i)) (λ x a b. refl) (λ y x τ. refl)) at e)))

  -- there are no more U than uploads
  fed_few : loaded (mark fed fed_choice) n ≤ total is_upload rows
  unfolding loaded loads fed
  fed_few =
      omega (
        arith,
        chosen_count fed fed_choice (λ a. pick (loads a) 1 0) refl,
        sum_le n (λ i. pick (loads (fed i)) 1 0) (feeds q rows) (λ i a b. one (feeds q rows i) (le_or_lt (feeds q rows i) 0)),
        feeds_all q n rows r,
      )
    where
      one : (x : ℕ) → (x ≤ 0) ⊎ (0 < x) → pick (loads (pick (ltb 0 x) U S)) 1 0 ≤ x
      one x (inl h) = rw (le-ltb 0 x h) (omega arith)
      one x (inr h) = rw (lt-ltb 0 x h) (omega arith)

  dear : (p.transfer ≤ upload_fee p) ⊎ (total is_upload rows ≡ 0) → free p q n n ≤ cost_of p rows
  unfolding cost_of
  dear o =
      omega (
        arith,
        paid fed fed_choice,
        blend p.transfer (upload_fee p) (sent (mark fed fed_choice) n) (loaded (mark fed fed_choice) n) (total is_transfer rows) (total is_upload rows)
            (moves_met fed fed_choice) fed_few o,
      )

-- no feasible schedule costs less than the free table
pub lower_bound_free : (p : Rates) (q : Requests) (n : ℕ) (rows : List Row) → Rising q n → Feasible p q n rows → free p q n n ≤ cost_of p rows
unfolding is_upload
lower_bound_free p q n rows r F = go (true_or_false (offers p)) (le_or_lt (upload_fee p) p.transfer)
  where
    go : (offers p ≡ true) ⊎ (offers p ≡ false) → (upload_fee p ≤ p.transfer) ⊎ (p.transfer < upload_fee p) → free p q n n ≤ cost_of p rows
    go (inl o) (inl h) = cheap p q n rows r F o h
    go (inl o) (inr h) = dear p q n rows r F (inl (omega arith))
    go (inr o) h = dear p q n rows r F (inr (no_uploads p q n rows F o is_upload (λ x a b. refl) (λ y x τ. refl)))

-- nor less than the table of the legal markings
pub lower_bound : (p : Rates) (q : Requests) (n : ℕ) (rows : List Row) → Rising q n → Feasible p q n rows → best p q n n ≤ cost_of p rows
lower_bound p q n rows r F = omega (arith, lower_bound_free p q n rows r F, best_free p q n r)
