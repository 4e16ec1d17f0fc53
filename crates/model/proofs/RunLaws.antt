-- Laws of the holds at one server: one for each maximal run of gaps that pass a test.
use Rattle.std.specs.Prelude.{Bool, not, ◌⊎◌, ◌≡◌, ltb}
use Rattle.std.proofs.Math.Bool.{true, false}
use Rattle.std.proofs.lemmas.Bool.{false≢true}
use mathlib.Core.List.Memᴰ
use mathlib.Core.List.{[], ◌∷◌, Memᴰ}
use Rattle.std.proofs.Common.{inl, inr, lt-ltb, le-ltb}
use Rattle.std.proofs.Math.Path.{refl, ap}
use native.Mathlib.Omega.{arith}
use Prim.Native.Nat.{ℕ, zero, suc, ◌+◌, ◌-◌, ◌*◌, ◌≤◌, ◌<◌}
use Rattle.std.proofs.Math.ListN.{length, length-append}
use Rattle.base.specs.Choice.{pick, both, le_or_lt, true_or_false, not_both}
use Rattle.model.specs.Sums.{sum, total}
use Rattle.model.proofs.SumLaws.{total_append}
use Rattle.model.specs.Requests.{Requests, Rising}
use Rattle.model.proofs.RequestLaws.{rises_le}
use Rattle.model.specs.Schedule.{Row, hold, length_of}
use Rattle.model.specs.Marking.{gap, begins_run, run_end, hold_rows}
use Rattle.base.specs.ChoiceLaws.{both_true}

-- gaps k + 1 to e are a maximal run, of n gaps, of those that pass
pub record Run (f : ℕ → Bool) (n k e : ℕ) : Type 0 where
  pub some_gap : k < e
  pub within : e ≤ n
  pub on : (g : ℕ) → k < g → g ≤ e → f g ≡ true
  pub off_before : 1 ≤ k → f k ≡ false
  pub off_after : e < n → f (suc e) ≡ false

-- a stretch of gaps that pass, with one more before it
with_first : (f : ℕ → Bool) (k e : ℕ) → f (suc k) ≡ true → ((g : ℕ) → suc k < g → g ≤ e → f g ≡ true) → (g : ℕ) → k < g → g ≤ e → f g ≡ true
with_first f k e t on g a b =
    elim (le_or_lt g (suc k)) [ inl p ↦ (let s : g ≡ suc k = omega arith in rw s t) | inr p ↦ on g p b ]

-- e is how far a run goes on beyond gap k, at most d gaps
record Reach (f : ℕ → Bool) (k d e : ℕ) : Type 0 where
  low : k ≤ e
  high : e ≤ k + d
  on : (g : ℕ) → k < g → g ≤ e → f g ≡ true
  off_after : e < k + d → f (suc e) ≡ false

-- the end of a run is that far
reach : (f : ℕ → Bool) (d k : ℕ) → Reach f k d (run_end f k d)
unfolding run_end
reach f zero k =
    record { low = omega arith; high = omega arith; on = λ g a b. absurd (omega arith); off_after = λ h. absurd (omega arith) }
reach f (suc d) k = go (f (suc k)) refl (reach f d (suc k))
  where
    go : (b : Bool) → f (suc k) ≡ b → Reach f (suc k) d (run_end f (suc k) d)
        → Reach f k (suc d) (pick b (run_end f (suc k) d) k)
    go true e r =
        record {
          low = omega (arith, r.low);
          high = omega (arith, r.high);
          on = with_first f k (run_end f (suc k) d) e r.on;
          off_after = λ h. r.off_after (omega arith);
        }
    go false e r = record { low = omega arith; high = omega arith; on = λ g a b. absurd (omega arith); off_after = λ h. e }

-- what it is that a run begins with gap k + 1
pub begins_true : (f : ℕ → Bool) (k : ℕ) → begins_run f (suc k) ≡ true → (f (suc k) ≡ true) × (1 ≤ k → f k ≡ false)
unfolding begins_run
begins_true f k e = let r = both_true (f (suc k)) (not (both (ltb 1 (suc k)) (f k))) e in (r.0, go (f k) refl r.1)
  where
    go : (b : Bool) → f k ≡ b → not (both (ltb 1 (suc k)) (f k)) ≡ true → 1 ≤ k → f k ≡ false
    go true p t h = absurd (false≢true (rw (lt-ltb 1 (suc k) (omega arith), p) at t))
    go false p t h = p

-- and the other way
begins : (f : ℕ → Bool) (k : ℕ) → f (suc k) ≡ true → (1 ≤ k → f k ≡ false) → begins_run f (suc k) ≡ true
unfolding begins_run
begins f k e h = rw e (go (le_or_lt 1 k))
  where
    go : (1 ≤ k) ⊎ (k < 1) → not (both (ltb 1 (suc k)) (f k)) ≡ true
    go (inl p) = rw (lt-ltb 1 (suc k) (omega arith), h p)
    go (inr p) = rw (le-ltb 1 (suc k) (omega arith))

-- the run that begins with gap k + 1
run_from : (f : ℕ → Bool) (n k : ℕ) → k < n → begins_run f (suc k) ≡ true → Run f n k (run_end f (suc k) (n - suc k))
run_from f n k h e =
    record {
      some_gap = r.low;
      within = omega (arith, r.high);
      on = with_first f k (run_end f (suc k) (n - suc k)) b.0 r.on;
      off_before = b.1;
      off_after = λ p. r.off_after (omega arith);
    }
  where
    b : (f (suc k) ≡ true) × (1 ≤ k → f k ≡ false)
    b = begins_true f k e

    r : Reach f (suc k) (n - suc k) (run_end f (suc k) (n - suc k))
    r = reach f (n - suc k) (suc k)

-- the run of gap g + 1 begins with gap k + 1, and passes from there on
run_start : (f : ℕ → Bool) (g : ℕ) → f (suc g) ≡ true
    → (k : ℕ) × (k ≤ g) × (begins_run f (suc k) ≡ true) × ((l : ℕ) → k < l → l ≤ suc g → f l ≡ true)
run_start f zero e = (0, omega arith, begins f 0 e (λ h. absurd (omega arith)), λ l a b. (let s : l ≡ 1 = omega arith in rw s e))
run_start f (suc g) e = go (true_or_false (f (suc g))) (run_start f g)
  where
    go : (f (suc g) ≡ true) ⊎ (f (suc g) ≡ false)
        → (f (suc g) ≡ true → (k : ℕ) × (k ≤ g) × (begins_run f (suc k) ≡ true) × ((l : ℕ) → k < l → l ≤ suc g → f l ≡ true))
        → (k : ℕ) × (k ≤ suc g) × (begins_run f (suc k) ≡ true) × ((l : ℕ) → k < l → l ≤ suc (suc g) → f l ≡ true)
    go (inl p) ih = let r = ih p in (r.0, omega (arith, r.1), r.2, all r.0 r.3)
      where
        all : (k : ℕ) → ((l : ℕ) → k < l → l ≤ suc g → f l ≡ true) → (l : ℕ) → k < l → l ≤ suc (suc g) → f l ≡ true
        all k on l a b = elim (le_or_lt l (suc g)) [ inl h ↦ on l a h | inr h ↦ (let s : l ≡ suc (suc g) = omega arith in rw s e) ]
    go (inr p) ih = (suc g, omega arith, begins f (suc g) e (λ h. p), λ l a b. (let s : l ≡ suc (suc g) = omega arith in rw s e))

module _ (q : Requests) (f : ℕ → Bool) (n y : ℕ) where
  -- the hold over the run that begins with gap k + 1
  abbrev run_row : ℕ → Row
  run_row k = hold y (q.time k) (q.time (run_end f (suc k) (n - suc k)))

  -- each row is the hold over a run
  pub hold_rows_run : {r : Row} (k : ℕ) → k ≤ n → Memᴰ r (hold_rows q f n y k)
      → (l e : ℕ) × (l < k) × Run f n l e × (r ≡ hold y (q.time l) (q.time e))
  unfolding hold_rows
  hold_rows_run zero h x = absurd (Memᴰ.not-nil x)
  hold_rows_run {r} (suc k) h x = go (hold_rows_run k (omega arith)) (Memᴰ.append_cases (hold_rows q f n y k) x)
    where
      Runs : ℕ → Type 0
      Runs k = (l e : ℕ) × (l < k) × Run f n l e × (r ≡ hold y (q.time l) (q.time e))

      new : (b : Bool) → begins_run f (suc k) ≡ b → Memᴰ r (pick b (run_row k ∷ []) []) → Runs (suc k)
      new true e z = (k, run_end f (suc k) (n - suc k), omega arith, run_from f n k h e, Memᴰ.eq_of_singleton z)
      new false e z = absurd (Memᴰ.not-nil z)

      go : (Memᴰ r (hold_rows q f n y k) → Runs k)
          → Memᴰ r (hold_rows q f n y k) ⊎ Memᴰ r (pick (begins_run f (suc k)) (run_row k ∷ []) []) → Runs (suc k)
      go ih (inl z) = let r = ih z in (r.0, r.1, omega (arith, r.2), r.3, r.4)
      go ih (inr z) = new (begins_run f (suc k)) refl z

  -- a run that begins has its row
  run_row_in : (k l : ℕ) → l < k → begins_run f (suc l) ≡ true → Memᴰ (run_row l) (hold_rows q f n y k)
  unfolding hold_rows
  run_row_in zero l h e = absurd (omega arith)
  run_row_in (suc k) l h e = go (le_or_lt k l) (λ p. run_row_in k l p e)
    where
      go : (k ≤ l) ⊎ (l < k) → (l < k → Memᴰ (run_row l) (hold_rows q f n y k)) → Memᴰ (run_row l) (hold_rows q f n y (suc k))
      go (inl p) ih =
          let s : l ≡ k = omega arith in
          let t : begins_run f (suc k) ≡ true = rw s at e in
          Memᴰ.append_right (hold_rows q f n y k) (rw t (Memᴰ.head (ap run_row s)))
      go (inr p) ih = Memᴰ.append_left (pick (begins_run f (suc k)) (run_row k ∷ []) []) (ih p)

  -- each gap that passes lies in the run of one of the rows
  pub run_over : (g : ℕ) → 1 ≤ g → g ≤ n → f g ≡ true
      → (l e : ℕ) × (l < g) × (g ≤ e) × Run f n l e × Memᴰ (hold y (q.time l) (q.time e)) (hold_rows q f n y n)
  run_over zero a b t = absurd (omega arith)
  run_over (suc g) a b t =
      let s = run_start f g t in
      let l = s.0 in
      let r : Run f n l (run_end f (suc l) (n - suc l)) = run_from f n l (omega (arith, s.1)) s.2 in
      (l, run_end f (suc l) (n - suc l), omega (arith, s.1), far l s.3 (run_end f (suc l) (n - suc l)) r, r, run_row_in n l (omega (arith, s.1)) s.2)
    where
      far : (l : ℕ) → ((h : ℕ) → l < h → h ≤ suc g → f h ≡ true) → (e : ℕ) → Run f n l e → suc g ≤ e
      far l on e r = elim (le_or_lt (suc g) e) [
        | inl h ↦ h
        | inr h ↦ absurd (not_both (on (suc e) (omega (arith, r.some_gap)) h) (r.off_after (omega arith)))
      ]

  -- as many rows as runs begin
  pub hold_rows_count : (k : ℕ) → length (hold_rows q f n y k) ≡ sum k (λ g. pick (begins_run f g) 1 0)
  unfolding hold_rows sum
  hold_rows_count zero = refl
  hold_rows_count (suc k) =
      omega (
        arith,
        hold_rows_count k,
        length-append (hold_rows q f n y k) (pick (begins_run f (suc k)) (run_row k ∷ []) []),
        new (begins_run f (suc k)),
      )
    where
      new : (b : Bool) → length (pick b (run_row k ∷ []) []) ≡ pick b 1 0
      new true = refl
      new false = refl

  -- the end of the run that gap k is in, or k where it is in none
  ahead : ℕ → ℕ
  ahead zero = 0
  ahead (suc k) = pick (f (suc k)) (run_end f (suc k) (n - suc k)) (suc k)

  -- gap k + 1 begins a run, goes on with the run of gap k, or is in none
  data Next (k : ℕ) : Type 0 where
    begun : f (suc k) ≡ true → begins_run f (suc k) ≡ true → ahead k ≡ k → Next k
    goes_on : f (suc k) ≡ true → begins_run f (suc k) ≡ false → ahead k ≡ ahead (suc k) → Next k
    off : f (suc k) ≡ false → begins_run f (suc k) ≡ false → ahead k ≡ k → Next k

  -- it is one of the three
  next : (k : ℕ) → k < n → Next k
  unfolding ahead begins_run run_end
  next zero h = go (f 1) refl
    where
      go : (b : Bool) → f 1 ≡ b → Next 0
      go true e = begun e (begins f 0 e (λ h. absurd (omega arith))) refl
      go false e = off e (rw e) refl
  next (suc k) h = go (f (suc k)) (f (suc (suc k))) refl refl
    where
      one_more : n - suc k ≡ suc (n - suc (suc k))
      one_more = omega arith

      go : (b c : Bool) → f (suc k) ≡ b → f (suc (suc k)) ≡ c → Next (suc k)
      go true true d e = goes_on e (rw (e, lt-ltb 1 (suc (suc k)) (omega arith), d)) (rw (one_more, d, e))
      go true false d e = off e (rw e) (rw (one_more, d, e))
      go false true d e = begun e (begins f (suc k) e (λ h. d)) (rw d)
      go false false d e = off e (rw e) (rw d)

  -- the holds that begin with gaps 1 to k reach over those of them that pass, and to the end of the run of gap k
  length_so_far : Rising q n → (k : ℕ) → k ≤ n
      → total length_of (hold_rows q f n y k) ≡ sum k (λ g. gap q g * pick (f g) 1 0) + (q.time (ahead k) - q.time k)
  unfolding hold_rows total length_of sum gap ahead
  length_so_far rise zero h = omega arith
  length_so_far rise (suc k) h = go (next k h) (length_so_far rise k (omega arith))
    where
      end : ℕ
      end = run_end f (suc k) (n - suc k)

      ordered : (q.time k ≤ q.time (suc k)) × (q.time (suc k) ≤ q.time end)
      ordered =
          let r = reach f (n - suc k) (suc k) in
          (rises_le rise k (suc k) (omega arith) h, rises_le rise (suc k) end r.low (omega (arith, r.high)))

      go : Next k
          → total length_of (hold_rows q f n y k) ≡ sum k (λ g. gap q g * pick (f g) 1 0) + (q.time (ahead k) - q.time k)
          → total length_of (hold_rows q f n y (suc k)) ≡ sum (suc k) (λ g. gap q g * pick (f g) 1 0) + (q.time (ahead (suc k)) - q.time (suc k))
      go (begun e b a) ih = rw (e, b) (omega (arith, ordered, ap q.time a, total_append length_of (hold_rows q f n y k) (run_row k ∷ [])))
      go (goes_on e b a) ih =
          let t : ahead k ≡ end = rw e at a in
          rw (e, b) (omega (arith, ordered, ap q.time t, total_append length_of (hold_rows q f n y k) []))
      go (off e b a) ih = rw (e, b) (omega (arith, ap q.time a, total_append length_of (hold_rows q f n y k) []))

  -- the holds' seconds are those of the gaps that pass
  pub hold_rows_length : Rising q n → total length_of (hold_rows q f n y n) ≡ sum n (λ g. gap q g * pick (f g) 1 0)
  unfolding ahead run_end
  hold_rows_length rise = omega (arith, length_so_far rise n (omega arith), ap q.time (closed n refl))
    where
      closed : (k : ℕ) → k ≡ n → ahead k ≡ n
      closed zero e = e
      closed (suc k) e = rw (let z : n - suc k ≡ 0 = omega arith in z) (go (f (suc k)))
        where
          go : (b : Bool) → pick b (suc k) (suc k) ≡ n
          go true = e
          go false = e
