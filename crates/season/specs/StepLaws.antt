-- What one step from log to log needs: sums at the edge of 64 bits, and the counts of a tally.
use Rattle.std.specs.Prelude.{Bool, true, false, leb, Result, List, ◌⊎◌, ◌≡◌, refl, ℕ, ltb, min, ◌+◌, ◌-◌, ◌^◌, ◌≤◌, ◌<◌, length, get_or, set, Ok, Err}
use Rattle.std.proofs.Common.{inl, inr, sym, ap, ◌∙◌, arith, take_all, le-ltb, lt-ltb, eq-eqb, ne_eqb}
use Rattle.std.proofs.Math.Path.{ap₂}
use Rattle.base.specs.Choice.{pick, le_or_lt}
use Rattle.base.specs.Lists.{build, build_read, build_same, build_set}
use Rattle.base.specs.declared.Refusal.{Refusal}
use Rattle.season.specs.declared.bills.Bill.{Bill}
use Rattle.season.specs.declared.Tally.{Tally}
use Rattle.season.specs.Tallies.{Met, numbers, one_if, accepts, refuses, ends, worse, met_of}
use Rattle.prices.specs.Tariff.{Tariff}
use Rattle.base.specs.declared.reasons.Reason.TheVariants as reason
use Rattle.season.specs.Met.{most_logs, one_too_many, looked_at}
use Rattle.season.specs.Steps.{full, stepped}
use Rattle.season.specs.Counting.{summed, counted}
use Rattle.season.specs.TallyLaws.{summed_is}
use Rattle.base.specs.Reasons.{number}

-- a sum as the code takes it
pub summed_min : (a b : ℕ) → min (a + b) (2 ^ 64 - 1) ≡ summed a b
unfolding summed
summed_min a b = go (le_or_lt (2 ^ 64) (a + b))
  where
    go : (2 ^ 64 ≤ a + b) ⊎ (a + b < 2 ^ 64) → min (a + b) (2 ^ 64 - 1) ≡ pick (ltb (a + b) (2 ^ 64)) (a + b) (2 ^ 64 - 1)
    go (inl h) = rw (le-ltb (a + b) (2 ^ 64) h) (omega (arith, h))
    go (inr h) = rw (lt-ltb (a + b) (2 ^ 64) h) (omega (arith, h))

-- a sum of more than 64 bits
pub summed_over : (a b : ℕ) → 2 ^ 64 - 1 - b < a → 2 ^ 64 - 1 ≡ summed a b
unfolding summed
summed_over a b h = rw (le-ltb (a + b) (2 ^ 64) (omega arith))

-- nothing added to a number of 64 bits
pub summed_none : (a : ℕ) → a < 2 ^ 64 → summed a 0 ≡ a
summed_none a h = omega (arith, summed_is a 0 (omega arith))

-- as many counts as there are numbers, each of 64 bits
abbrev pub Counts : List ℕ → Type 0
Counts xs = (length xs ≡ numbers) × ((n : ℕ) → get_or xs n 0 < 2 ^ 64)

-- counts as they are read
counts_read : (xs : List ℕ) → length xs ≡ numbers → build numbers (λ n. get_or xs n 0) ≡ xs
counts_read xs l = build_read numbers xs 0 (omega arith) ∙ take_all numbers xs (omega arith)

-- nothing added to any count
pub same_counts : (xs : List ℕ) → Counts xs → xs ≡ build numbers (λ n. summed (get_or xs n 0) 0)
same_counts xs (l, f) = sym (counts_read xs l) ∙ build_same numbers _ _ (λ n h. sym (summed_none (get_or xs n 0) (f n)))

-- one more of a number
pub more_counts : (xs : List ℕ) (r : Refusal) → Counts xs
    → set xs (number r.reason) (summed (get_or xs (number r.reason) 0) 1) ≡ build numbers (λ n. summed (get_or xs n 0) (one_if (refuses n (Err r))))
unfolding refuses
more_counts xs r (l, f) =
    ap (λ (ys : List ℕ). set ys (number r.reason) (summed (get_or xs (number r.reason) 0) 1)) (sym (counts_read xs l))
    ∙ build_set numbers (number r.reason) _ _ _ (rw (eq-eqb (number r.reason) (number r.reason) refl)) (λ k d. rw (ne_eqb k (number r.reason) d) (summed_none (get_or xs k 0) (f k)))

-- one more of a number that is not counted
pub other_counts : (xs : List ℕ) (r : Refusal) → Counts xs → numbers ≤ number r.reason
    → xs ≡ build numbers (λ n. summed (get_or xs n 0) (one_if (refuses n (Err r))))
unfolding refuses
other_counts xs r (l, f) h =
    sym (counts_read xs l)
    ∙ build_same numbers _ _ (λ n m. rw (ne_eqb n (number r.reason) (λ e. omega arith)) (sym (summed_none (get_or xs n 0) (f n))))

-- a tally with an accepted log
pub counted_passed : (t : Tally) (m : Met) → m.verdict ≡ Ok tt → Counts t.refused
    → record {
      logs = summed t.logs 1;
      accepted = summed t.accepted 1;
      refused = t.refused;
      least = summed t.least m.least;
      running = summed t.running m.running;
      worst = worse t.worst (summed t.logs 1) m;
      over = false;
    }
    ≡ counted t m
unfolding counted accepts refuses ends
counted_passed t m e f = rw (e, ← same_counts t.refused f)

-- a tally with a refused log
pub counted_refused : (t : Tally) (m : Met) (r : Refusal) → m.verdict ≡ Err r → t.accepted < 2 ^ 64
    → record {
      logs = summed t.logs 1;
      accepted = t.accepted;
      refused = build numbers (λ n. summed (get_or t.refused n 0) (one_if (refuses n (Err r))));
      least = summed t.least m.least;
      running = summed t.running m.running;
      worst = worse t.worst (summed t.logs 1) m;
      over = ends (Err r);
    }
    ≡ counted t m
unfolding counted accepts
counted_refused t m r e f = rw (e, summed_none t.accepted f)

-- with a log's bill
pub bill_counted : (t : Tally) (b : Bill) → Counts t.refused
    → record {
      logs = summed t.logs 1;
      accepted = summed t.accepted 1;
      refused = t.refused;
      least = summed t.least b.least;
      running = summed t.running b.running;
      worst = worse t.worst (summed t.logs 1) (met_of (Ok b));
      over = false;
    }
    ≡ counted t (met_of (Ok b))
unfolding met_of
bill_counted t b f = counted_passed t (met_of (Ok b)) refl f

-- with a log's refusal, which adds to no cost
pub refusal_counted : (t : Tally) (r : Refusal) → t.accepted < 2 ^ 64 → t.least < 2 ^ 64 → t.running < 2 ^ 64
    → record {
      logs = summed t.logs 1;
      accepted = t.accepted;
      refused = build numbers (λ n. summed (get_or t.refused n 0) (one_if (refuses n (Err r))));
      least = t.least;
      running = t.running;
      worst = t.worst;
      over = ends (Err r);
    }
    ≡ counted t (met_of (Err r))
unfolding met_of worse
refusal_counted t r a l n =
    let tally : ℕ → ℕ → Tally =
    λ least running. record {
      logs = summed t.logs 1;
      accepted = t.accepted;
      refused = build numbers (λ n. summed (get_or t.refused n 0) (one_if (refuses n (Err r))));
      least = least;
      running = running;
      worst = t.worst;
      over = ends (Err r);
    } in
    ap₂ tally (sym (summed_none t.least l)) (sym (summed_none t.running n)) ∙ counted_refused t (met_of (Err r)) r refl a

-- ---- the next log

-- after the end
pub stepped_over : (t : Tariff) (tally : Tally) (log : List ℕ) → tally.over ≡ true → tally ≡ stepped t tally log
unfolding stepped
stepped_over t tally log o = rw o

-- after all those that are looked at
pub stepped_late : (t : Tariff) (tally : Tally) (log : List ℕ) (w : Bool) → tally.over ≡ false → w ≡ full tally → w ≡ true
    → counted tally (met_of (Err (record { reason = reason.LogCount; place = 0 }))) ≡ stepped t tally log
unfolding stepped full one_too_many met_of
stepped_late t tally log w o f h =
    let late : leb most_logs tally.logs ≡ true = rw o at (sym f ∙ h) in
    rw (o, late)

-- before
pub stepped_next : (t : Tariff) (tally : Tally) (log : List ℕ) (met : Result Bill Refusal) (w : Bool) → tally.over ≡ false → w ≡ full tally → w ≡ false → met_of met ≡ looked_at t log
    → counted tally (met_of met) ≡ stepped t tally log
unfolding stepped full
stepped_next t tally log met w o f h e =
    let late : leb most_logs tally.logs ≡ false = rw o at (sym f ∙ h) in
    rw (o, late, e)
