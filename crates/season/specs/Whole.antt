-- The bytes of an input, one after the other, give the tally of the logs that the whole input is made of.
use Rattle.std.specs.Prelude.{Bool, false, ◌⊎◌, ◌↔◌, ◌≡◌, leb, ltb, length, drop, Ok, Err}
use Rattle.base.specs.Refusals.{Verdict}
use Rattle.std.proofs.Math.Bool.{true}
use mathlib.Core.List.{List, [], ◌∷◌, ◌++◌, append_assoc, append-nil}
use Rattle.std.proofs.Common.{inl, inr, sym, ◌∙◌, take-append-drop, take_all, length-take-le}
use Rattle.std.proofs.Math.Path.{refl, ap}
use Prim.Native.Nat.{ℕ, zero, suc, ◌+◌, ◌-◌, ◌^◌, ◌≤◌, ◌<◌}
use native.Mathlib.Omega.{arith}
use Rattle.std.proofs.Math.ListN.{take, length-append}
use borrow.Author.Tests.{lt-ltb, le-ltb, lt-leb, le-leb, ne_eqb}
use Rattle.base.specs.Choice.{pick, both, le_or_lt}
use Rattle.base.specs.declared.Refusal.{Refusal}
use Rattle.prices.specs.Tariff.{Tariff}
use Rattle.request_log.specs.Fields.{total_length, length_for}
use Rattle.request_log.specs.Conditions.{Accepted, head_verdict, verdict_of}
use Rattle.request_log.specs.HeadLaws.{Headed, headed, nine, head_refused, head_number, length_refused, late_refused}
use Rattle.live.specs.Live.{running_bill}
use Rattle.season.specs.Tallies.{Met}
use Rattle.season.specs.declared.Tally.{Tally}
use Rattle.season.specs.Tallies.{accepts, ends, ended, tally_of}
use Rattle.season.specs.TallyLaws.{SmallLog, Small, small_one, small_append, fresh_is, counted_next, ended_append}
use Rattle.season.specs.Met.{most_logs, least_bill, met_as, looked_at, one_too_many, log_length, empty, met, met_in}
use Rattle.season.specs.Counting.{fresh, counted}
use Rattle.season.specs.Steps.{Gathered, gathered, full, unfinished, stepped, with_byte, with_bytes, finished}
use Rattle.season.specs.Needs.{needed, needed_more, total_front, head_front, short_of_header, short_of_total, is_unfinished, settled, together}
use Rattle.base.specs.Reasons.{number}

-- two pieces are fed as one
pub with_both : (t : Tariff) (g : Gathered) (xs ys : List ℕ) → with_bytes t g (xs ++ ys) ≡ with_bytes t (with_bytes t g xs) ys
unfolding with_bytes
with_both t g [] ys = refl
with_both t g (x ∷ xs) ys = with_both t (with_byte t g x) xs ys

-- a choice by a test whose value is known
pub pick_true : {A : Type 0} {w : Bool} (a b : A) → w ≡ true → pick w a b ≡ a
pick_true a b e = rw e

pub pick_false : {A : Type 0} {w : Bool} (a b : A) → w ≡ false → pick w a b ≡ b
pick_false a b e = rw e

-- after the end nothing changes
over_byte : (t : Tariff) (tally : Tally) (b : ℕ) → tally.over ≡ true → with_byte t (gathered tally []) b ≡ gathered tally []
unfolding with_byte full stepped
over_byte t tally b e =
    pick_true (gathered (stepped t tally []) []) _ (pick_true true (leb most_logs tally.logs) e)
    ∙ ap (λ (x : Tally). gathered x []) (pick_true tally _ e)

pub over_stays : (t : Tariff) (tally : Tally) (s : List ℕ) → tally.over ≡ true → with_bytes t (gathered tally []) s ≡ gathered tally []
unfolding with_bytes
over_stays t tally [] e = refl
over_stays t tally (b ∷ s) e = ap (λ (g : Gathered). with_bytes t g s) (over_byte t tally b e) ∙ over_stays t tally s e

-- a log that is no longer unfinished
finished_log : (t : Tariff) (s : List ℕ) → 40 ≤ length s → (head_verdict t s ≡ Ok tt → total_length s ≤ length s) → unfinished t s ≡ false
unfolding unfinished accepts
finished_log t s h f = rw (le-ltb _ _ h) (go (head_verdict t s) refl)
  where
    go : (v : Verdict) → head_verdict t s ≡ v → both (accepts (head_verdict t s)) (ltb (length s) (total_length s)) ≡ false
    go (Ok _) e = rw (e, le-ltb _ _ (f e))
    go (Err r) e = rw e

module _ (t : Tariff) (tally : Tally) (open' : full tally ≡ false) where
  -- up to a header, or up to what it says, bytes are gathered
  short_front : (s : List ℕ) → 1 ≤ length s → length s ≤ 40 → with_bytes t (gathered tally []) s ≡ settled t tally s
  unfolding needed
  short_front s h l = together t tally [] s open' h l

  pub log_front : (s : List ℕ) → 40 ≤ length s → head_verdict t s ≡ Ok tt → length s ≤ total_length s → with_bytes t (gathered tally []) s ≡ settled t tally s
  unfolding settled
  log_front s h e l = go (le_or_lt (length s) 40)
    where
      front : List ℕ
      front = take 40 s

      rest : List ℕ
      rest = drop 40 s

      parts : front ++ rest ≡ s
      parts = take-append-drop 40 s

      long : length front ≡ 40
      long = length-take-le 40 s h

      go : (length s ≤ 40) ⊎ (40 < length s) → with_bytes t (gathered tally []) s ≡ settled t tally s
      go (inl m) = short_front s (omega arith) m
      go (inr m) =
          let q : total_length front ≡ total_length s = sym (total_front front rest (omega (arith, long))) ∙ ap total_length parts in
          let p : head_verdict t front ≡ (Ok tt) = sym (head_front t front rest (omega (arith, long))) ∙ ap (head_verdict t) parts ∙ e in
          let u : unfinished t front ≡ true = is_unfinished t front (short_of_total (omega (arith, long)) p (omega (arith, long, q))) in
          let n : length front + length rest ≡ length s = sym (length-append front rest) ∙ ap length parts in
          let d : needed t front ≡ total_length front - length front = needed_more t front (omega (arith, long)) u in
          ap (with_bytes t (gathered tally [])) (sym parts)
          ∙ with_both t (gathered tally []) front rest
          ∙ ap (λ (g : Gathered). with_bytes t g rest) (short_front front (omega (arith, long)) (omega (arith, long)) ∙ ap (λ (b : Bool). pick b (gathered tally front) (gathered (stepped t tally front) [])) u)
          ∙ together t tally front rest open' (omega (arith, long, n)) (omega (arith, long, n, d, q))
          ∙ ap (settled t tally) parts

-- a log that ends the report, and one that does not
ends_by : (v : Verdict) (r : Refusal) → v ≡ Err r → number r.reason < 10 → ends v ≡ true
unfolding ends
ends_by v r e h = rw (e, lt-ltb _ _ h)

goes_on : (v : Verdict) → ((r : Refusal) → v ≡ Err r → (10 ≤ number r.reason) × (number r.reason ≤ 13)) → ends v ≡ false
unfolding ends
goes_on (Ok _) h = refl
goes_on (Err r) h = let (l, m) = h r refl in rw (le-ltb _ _ l, ne_eqb (number r.reason) 45 (λ z. omega arith))

-- what is met of a log is met by its verdict
verdict_met : (t : Tariff) (s : List ℕ) → (looked_at t s).verdict ≡ verdict_of t s
unfolding looked_at met_as
verdict_met t s = go (verdict_of t s)
  where
    go : (v : Verdict) → (met_as v t s).verdict ≡ v
    go (Ok _) = refl
    go (Err r) = refl

refused_met : (t : Tariff) (s u : List ℕ) (r : Refusal) → verdict_of t s ≡ Err r → verdict_of t u ≡ Err r → looked_at t s ≡ looked_at t u
unfolding looked_at met_as
refused_met t s u r e f = rw (e, f)

-- after the end the input gives no more
after_over : (t : Tariff) (tally : Tally) (s : List ℕ) → tally.over ≡ true → finished t (with_bytes t (gathered tally []) s) ≡ tally
unfolding finished empty
after_over t tally s e = ap (finished t) (over_stays t tally s e)

-- what is held goes on, or is counted
pub settled_waits : (t : Tariff) (tally : Tally) (s : List ℕ) → unfinished t s ≡ true → settled t tally s ≡ gathered tally s
unfolding settled
settled_waits t tally s e = rw e

pub settled_done : (t : Tariff) (tally : Tally) (s : List ℕ) → unfinished t s ≡ false → settled t tally s ≡ gathered (stepped t tally s) []
unfolding settled
settled_done t tally s e = rw e

-- a verdict is one of two
passed_refused : {r : Refusal} → ◌≡◌ {A = Verdict} (Ok tt) (Err r) → ⊥
passed_refused e = let z : ◌≡◌ {A = ℕ} 0 1 = cc in omega arith

-- the length of the log at the front
least_length : (s : List ℕ) → 40 ≤ log_length s
unfolding log_length
least_length s = go (le_or_lt 40 (total_length s))
  where
    go : (40 ≤ total_length s) ⊎ (total_length s < 40) → 40 ≤ log_length s
    go (inl h) = rw (le-ltb _ _ h) h
    go (inr h) = rw (lt-ltb _ _ h) (omega arith)

length_is : (s : List ℕ) → 40 ≤ total_length s → log_length s ≡ total_length s
unfolding log_length
length_is s h = rw (le-ltb _ _ h)

total_least : {s : List ℕ} → Headed s → 40 ≤ total_length s
unfolding length_for
total_least d = omega (arith, d.total_is)

-- a front that is long enough
take_least : (k : ℕ) (s : List ℕ) → 40 ≤ k → 40 ≤ length s → 40 ≤ length (take k s)
take_least k s h l = go (le_or_lt k (length s))
  where
    go : (k ≤ length s) ⊎ (length s < k) → 40 ≤ length (take k s)
    go (inl m) = rw (length-take-le k s m) h
    go (inr m) = rw (take_all k s (omega arith)) l

-- it has the header of all that is left
front_head : (t : Tariff) (s : List ℕ) → 40 ≤ length s → head_verdict t (take (log_length s) s) ≡ head_verdict t s
front_head t s h =
    let front = take (log_length s) s in
    let parts : front ++ drop (log_length s) s ≡ s = take-append-drop (log_length s) s in
    let long : 40 ≤ length front = take_least (log_length s) s (least_length s) h in
    sym (head_front t front (drop (log_length s) s) long) ∙ ap (head_verdict t) parts

-- where that passes, the log is refused by 9 exactly if fewer bytes are left than it says
pub cut_short : (t : Tariff) (s : List ℕ) → head_verdict t s ≡ Ok tt → (verdict_of t (take (log_length s) s) ≡ Err nine) ↔ (length s < total_length s)
cut_short t s e = (fewer (le_or_lt (total_length s) (length s)), none_left)
  where
    front : List ℕ
    front = take (log_length s) s

    is : log_length s ≡ total_length s
    is = length_is s (total_least (headed t s e))

    fewer : (total_length s ≤ length s) ⊎ (length s < total_length s) → verdict_of t front ≡ Err nine → length s < total_length s
    fewer (inr h) v = h
    fewer (inl h) v =
        let h40 = (headed t s e).long in
        let long : length front ≡ log_length s = length-take-le (log_length s) s (omega (arith, is)) in
        let parts : front ++ drop (log_length s) s ≡ s = take-append-drop (log_length s) s in
        let q : total_length front ≡ total_length s = sym (total_front front (drop (log_length s) s) (omega (arith, long, least_length s))) ∙ ap total_length parts in
        absurd (omega (arith, (late_refused t front nine (front_head t s h40 ∙ e) (omega (arith, long, is, q)) v).0))

    none_left : length s < total_length s → verdict_of t front ≡ Err nine
    none_left h = ap (verdict_of t) (take_all (log_length s) s (omega (arith, is))) ∙ length_refused t s e (λ z. omega arith)

-- the logs met: none in no bytes; where the first ends the report, and where it does not
met_nothing : (t : Tariff) (k : ℕ) → met t (suc k) [] ≡ []
unfolding met empty
met_nothing t k = refl

met_last : (t : Tariff) (k b : ℕ) (s : List ℕ) → let front = take (log_length (b ∷ s)) (b ∷ s) in
    ends (verdict_of t front) ≡ true → met t (suc k) (b ∷ s) ≡ looked_at t front ∷ []
unfolding met empty
met_last t k b s e = let front = take (log_length (b ∷ s)) (b ∷ s) in ap (λ (x : List Met). looked_at t front ∷ x) (pick_true [] _ (ap ends (verdict_met t front) ∙ e))

met_next : (t : Tariff) (k b : ℕ) (s : List ℕ) → let front = take (log_length (b ∷ s)) (b ∷ s) in
    ends (verdict_of t front) ≡ false → met t (suc k) (b ∷ s) ≡ looked_at t front ∷ met t k (drop (log_length (b ∷ s)) (b ∷ s))
unfolding met empty
met_next t k b s e = let front = take (log_length (b ∷ s)) (b ∷ s) in ap (λ (x : List Met). looked_at t front ∷ x) (pick_false [] _ (ap ends (verdict_met t front) ∙ e))

-- a tally is over where one of its logs ends the report
tally_over : (ms : List Met) {w : Bool} → ended ms ≡ w → (tally_of ms).over ≡ w
unfolding tally_of
tally_over ms e = e

tally_logs : (ms : List Met) → (tally_of ms).logs ≡ length ms
unfolding tally_of
tally_logs ms = refl

-- 45: all logs that are looked at were, and a byte is left
module _ (t : Tariff) (ms : List Met) (e : length ms ≡ most_logs) (g : ended ms ≡ false) (d : Small ms) where
  abbrev all_counted : Tally
  all_counted = tally_of (ms ++ (one_too_many ∷ []))

  met_all : leb most_logs (tally_of ms).logs ≡ true
  unfolding tally_of
  met_all = le-leb most_logs (length ms) (omega (arith, e))

  counts : stepped t (tally_of ms) [] ≡ all_counted
  unfolding stepped one_too_many
  counts =
      pick_false (tally_of ms) _ (tally_over ms g) ∙ ap (counted (tally_of ms)) (pick_true one_too_many _ met_all)
      ∙ counted_next ms one_too_many (omega (arith, e)) d (omega arith, omega arith) g

  over : all_counted.over ≡ true
  unfolding tally_of ended ends one_too_many
  over = ended_append ms (one_too_many ∷ []) ∙ rw g

  too_many : (b : ℕ) (s : List ℕ) → finished t (with_bytes t (gathered (tally_of ms) []) (b ∷ s)) ≡ all_counted
  unfolding with_bytes with_byte full
  too_many b s =
      ap (λ (x : Gathered). finished t (with_bytes t x s))
      (pick_true (gathered (stepped t (tally_of ms) []) []) _ (pick_false true _ (tally_over ms g) ∙ met_all) ∙ ap (λ (x : Tally). gathered x []) counts)
      ∙ after_over t all_counted s over

-- by a table whose prices leave every log's costs below 32 bits
module _ (t : Tariff) (judged : t.judged ≡ Ok tt) (fits : (log : List ℕ) → Accepted t log → (least_bill t log < 2 ^ 32) × (running_bill t log < 2 ^ 32)) where
  small_met : (s : List ℕ) → SmallLog (looked_at t s)
  unfolding looked_at met_as Accepted
  small_met s = go (verdict_of t s) refl
    where
      go : (v : Verdict) → verdict_of t s ≡ v → SmallLog (met_as v t s)
      go (Ok _) e = fits s e
      go (Err r) e = (omega arith, omega arith)

  -- the tally of some logs, none of which ends the report, and of one more
  pub record SoFar (ms : List Met) (k : ℕ) : Type 0 where
    pub place : length ms + k ≡ most_logs
    pub goes : ended ms ≡ false
    pub small : Small ms

  module _ (ms : List Met) (k : ℕ) (f : SoFar ms (suc k)) where
    below : leb most_logs (tally_of ms).logs ≡ false
    below = lt-leb most_logs (tally_of ms).logs (omega (arith, f.place, tally_logs ms))

    not_full : full (tally_of ms) ≡ false
    unfolding full
    not_full = pick_false true _ (tally_over ms f.goes) ∙ below

    step_is : (s : List ℕ) → stepped t (tally_of ms) s ≡ tally_of (ms ++ (looked_at t s ∷ []))
    unfolding stepped
    step_is s =
        pick_false (tally_of ms) _ (tally_over ms f.goes) ∙ ap (counted (tally_of ms)) (pick_false one_too_many (looked_at t s) below)
        ∙ counted_next ms (looked_at t s) (omega (arith, f.place)) f.small (small_met s) f.goes

    -- where it goes on
    next_far : (s : List ℕ) → ends (verdict_of t s) ≡ false → SoFar (ms ++ (looked_at t s ∷ [])) k
    unfolding ended
    next_far s e =
        record {
          place = simp length-append (omega (arith, f.place));
          goes = ended_append ms (looked_at t s ∷ []) ∙ rw (f.goes, verdict_met t s, e);
          small = small_append ms (looked_at t s ∷ []) f.small (small_one (looked_at t s) (small_met s));
        }

    -- where it ends
    last_over : (s : List ℕ) → ends (verdict_of t s) ≡ true → (tally_of (ms ++ (looked_at t s ∷ []))).over ≡ true
    unfolding ended
    last_over s e = tally_over (ms ++ (looked_at t s ∷ [])) (ended_append ms (looked_at t s ∷ []) ∙ rw (f.goes, verdict_met t s, e))

  -- what is claimed of the bytes that are left, where the logs before them were counted
  abbrev pub Counts : ℕ → List Met → List ℕ → Type 0
  Counts k ms s = finished t (with_bytes t (gathered (tally_of ms) []) s) ≡ tally_of (ms ++ met t k s)

  -- none are left
  nothing_left : (k : ℕ) (ms : List Met) → met t k [] ≡ [] → Counts k ms []
  unfolding with_bytes finished empty
  nothing_left k ms e = ap tally_of (sym (append-nil ms) ∙ ap (λ (x : List Met). ms ++ x) (sym e))

  -- all logs were met
  none_more : (ms : List Met) (s : List ℕ) → SoFar ms 0 → Counts 0 ms s
  unfolding met empty
  none_more ms [] f = nothing_left 0 ms refl
  none_more ms (b ∷ s) f = too_many t ms (omega (arith, f.place)) f.goes f.small b s

  -- one more is looked at
  one_more : (k : ℕ) → ((ms : List Met) (s : List ℕ) → SoFar ms k → Counts k ms s) → (ms : List Met) (s : List ℕ) → SoFar ms (suc k) → Counts (suc k) ms s
  unfolding finished empty
  one_more k on_from ms [] f = nothing_left (suc k) ms (met_nothing t k)
  one_more k on_from ms (b ∷ s) f = go (le_or_lt 40 (length rest)) (head_verdict t rest) refl
    where
      rest : List ℕ
      rest = b ∷ s

      size : ℕ
      size = log_length rest

      front : List ℕ
      front = take size rest

      tally : Tally
      tally = tally_of ms

      Goal : Type 0
      Goal = finished t (with_bytes t (gathered tally []) rest) ≡ tally_of (ms ++ met t (suc k) rest)

      -- the log ends the report
      ending : (m : Met) → finished t (with_bytes t (gathered tally []) rest) ≡ tally_of (ms ++ (m ∷ [])) → m ≡ looked_at t front → ends (verdict_of t front) ≡ true → Goal
      ending m w e n = w ∙ ap (λ (x : Met). tally_of (ms ++ (x ∷ []))) e ∙ ap (λ (x : List Met). tally_of (ms ++ x)) (sym (met_last t k b s n))

      -- the input ends with it
      input_ends : (r : Refusal) → with_bytes t (gathered tally []) rest ≡ gathered tally rest → front ≡ rest → verdict_of t rest ≡ Err r → number r.reason < 10 → Goal
      input_ends r w e v n =
          ending (looked_at t rest) (ap (finished t) w ∙ step_is ms k f rest) (ap (looked_at t) (sym e)) (ends_by (verdict_of t front) r (ap (verdict_of t) e ∙ v) n)

      go : (40 ≤ length rest) ⊎ (length rest < 40) → (v : Verdict) → head_verdict t rest ≡ v → Goal
      go (inr h) (Ok _) e = absurd (omega (arith, (headed t rest e).long))
      go (inr h) (Err r) e =
          input_ends r
          (short_front t tally (not_full ms k f) rest (omega arith) (omega arith) ∙ settled_waits t tally rest (is_unfinished t rest (short_of_header h)))
          (take_all size rest (omega (arith, least_length rest))) (head_refused t rest r e) (omega (arith, (head_number t rest r judged e).1))
      go (inl h) (Err r) e =
          let head = take 40 rest in
          let long : length head ≡ 40 = length-take-le 40 rest h in
          let parts : head ++ drop 40 rest ≡ rest = take-append-drop 40 rest in
          let v : head_verdict t head ≡ Err r = sym (head_front t head (drop 40 rest) (omega (arith, long))) ∙ ap (head_verdict t) parts ∙ e in
          let w : head_verdict t front ≡ Err r = front_head t rest h ∙ e in
          let small = head_number t rest r judged e in
          let over = last_over ms k f head (ends_by (verdict_of t head) r (head_refused t head r v) (omega (arith, small.1))) in
          let fed : with_bytes t (gathered tally []) head ≡ gathered (tally_of (ms ++ (looked_at t head ∷ []))) [] =
          short_front t tally (not_full ms k f) head (omega (arith, long)) (omega (arith, long))
          ∙ settled_done t tally head (finished_log t head (omega (arith, long)) (λ z. absurd (passed_refused (sym z ∙ v))))
          ∙ ap (λ (x : Tally). gathered x []) (step_is ms k f head) in
          ending (looked_at t head)
          (ap (λ (x : List ℕ). finished t (with_bytes t (gathered tally []) x)) (sym parts)
          ∙ ap (finished t) (with_both t (gathered tally []) head (drop 40 rest) ∙ ap (λ (g : Gathered). with_bytes t g (drop 40 rest)) fed)
          ∙ after_over t (tally_of (ms ++ (looked_at t head ∷ []))) (drop 40 rest) over)
          (refused_met t head front r (head_refused t head r v) (head_refused t front r w))
          (ends_by (verdict_of t front) r (head_refused t front r w) (omega (arith, small.1)))
      go (inl h) (Ok _) e = whole (headed t rest e) (le_or_lt (total_length rest) (length rest))
        where
          whole : Headed rest → (total_length rest ≤ length rest) ⊎ (length rest < total_length rest) → Goal
          whole d (inr l) =
              let is : size ≡ total_length rest = length_is rest (omega (arith, l)) in
              input_ends nine
              (log_front t tally (not_full ms k f) rest h e (omega arith) ∙ settled_waits t tally rest (is_unfinished t rest (short_of_total h e l)))
              (take_all size rest (omega (arith, is, l))) (length_refused t rest e (λ z. omega (arith, l))) (omega arith)
          whole d (inl l) =
              let least : 40 ≤ total_length rest = total_least d in
              let is : size ≡ total_length rest = length_is rest least in
              let long : length front ≡ size = length-take-le size rest (omega (arith, is)) in
              let parts : front ++ drop size rest ≡ rest = take-append-drop size rest in
              let v : head_verdict t front ≡ (Ok tt) = front_head t rest h ∙ e in
              let q : total_length front ≡ total_length rest = sym (total_front front (drop size rest) (omega (arith, long, is, least))) ∙ ap total_length parts in
              let on : ends (verdict_of t front) ≡ false = goes_on (verdict_of t front) (λ r z. late_refused t front r v (omega (arith, long, is, q)) z) in
              let fed : with_bytes t (gathered tally []) front ≡ gathered (tally_of (ms ++ (looked_at t front ∷ []))) [] =
              log_front t tally (not_full ms k f) front (omega (arith, long, is, least)) v (omega (arith, long, is, q))
              ∙ settled_done t tally front (finished_log t front (omega (arith, long, is, least)) (λ z. omega (arith, long, is, q)))
              ∙ ap (λ (x : Tally). gathered x []) (step_is ms k f front) in
              ap (λ (x : List ℕ). finished t (with_bytes t (gathered tally []) x)) (sym parts)
              ∙ ap (finished t) (with_both t (gathered tally []) front (drop size rest) ∙ ap (λ (g : Gathered). with_bytes t g (drop size rest)) fed)
              ∙ on_from (ms ++ (looked_at t front ∷ [])) (drop size rest) (next_far ms k f front on)
              ∙ ap tally_of (append_assoc ms (looked_at t front ∷ []) (met t k (drop size rest)) ∙ ap (λ (x : List Met). ms ++ x) (sym (met_next t k b s on)))

  rest_counted : (k : ℕ) (ms : List Met) (s : List ℕ) → SoFar ms k → Counts k ms s
  rest_counted zero ms s f = none_more ms s f
  rest_counted (suc k) ms s f = one_more k (rest_counted k) ms s f

  -- THE WHOLE INPUT, byte by byte
  pub whole_counted : (s : List ℕ) → finished t (with_bytes t (gathered fresh []) s) ≡ tally_of (met_in t s)
  unfolding met_in ended
  whole_counted s =
      ap (λ (x : Tally). finished t (with_bytes t (gathered x []) s)) fresh_is
      ∙ rest_counted most_logs [] s (record { place = omega arith; goes = refl; small = tt })
