-- The figures as the code fills them: a hold split at each midnight, one row after the other, and the sums of each day.
use Rattle.std.specs.Prelude.{List, [], ◌∷◌, ◌⊎◌, ◌≢◌, ◌≡◌, refl, ℕ, zero, suc, pred, ◌+◌, ◌-◌, ◌*◌, ◌/◌, ◌≤◌, ◌<◌, min, eqb, get_or, length, set, replicate}
use Rattle.std.proofs.Common.{inl, inr, sym, ap, ◌∙◌, arith, length-set, ext_get_or, get_or-set_same, get_or-set_other, set-set, eq-eqb, ne_eqb}
use Rattle.std.proofs.lemmas.List.{set-get_or}
use Rattle.base.specs.Choice.{pick, le_or_lt, same_or_not}
use Rattle.base.specs.Lists.{build, build_length, build_at, build_same, build_set}
use Rattle.model.specs.Schedule.{Row, hold, move, transfer, upload}
use Rattle.model.specs.RowForm.{row_of, row_at, rows_upto}
use Rattle.model.specs.Sums.{sum, total}
use Rattle.model.proofs.SumLaws.{total_append}
use Rattle.week.specs.Days.{day_seconds, week_days, week_seconds}
use Rattle.week.specs.DayLaws.{in_day, row_in_day}
use Rattle.week.specs.Figures.{figure_most, WithinDays, Daily, days_upto, part_end, sums_of}

-- a day has no more than its seconds
in_day_most : (a b d : ℕ) → in_day a b d ≤ day_seconds
unfolding in_day
in_day_most a b d = omega arith

-- a part ends later than it begins, by the hold's end, within a day
pub part_within : (at to : ℕ) → at < to → (at < part_end at to) × (part_end at to ≤ to) × (part_end at to ≤ at + day_seconds)
unfolding part_end
part_within at to h = (omega arith, omega arith, omega arith)

-- a server's days, with the seconds of a hold up to a second
pub record Counted (days : List ℕ) (from at : ℕ) (sums : List ℕ) : Type 0 where
  pub long : length sums ≡ week_days
  pub counts : (d : ℕ) → d < week_days → get_or sums d 0 ≡ get_or days d 0 + in_day from at d

-- none yet
counted_none : (days : List ℕ) (from : ℕ) → length days ≡ week_days → Counted days from from days
unfolding in_day
counted_none days from e = record { long = e; counts = λ d h. omega arith }

-- a hold that ends in a day
in_day_within : (a b d : ℕ) → day_seconds * d ≤ b → b ≤ day_seconds * suc d → in_day a b d ≡ (b - a) - (day_seconds * d - a)
unfolding in_day
in_day_within a b d h l =
    let u : min (day_seconds * suc d) b ≡ b = omega arith in
    let v : min (day_seconds * d) b ≡ day_seconds * d = omega arith in
    rw (u, v)

-- one that goes on after it
in_day_past : (a b d : ℕ) → day_seconds * suc d ≤ b → in_day a b d ≡ (day_seconds * suc d - a) - (day_seconds * d - a)
unfolding in_day
in_day_past a b d h =
    let u : min (day_seconds * suc d) b ≡ day_seconds * suc d = omega arith in
    let v : min (day_seconds * d) b ≡ day_seconds * d = omega arith in
    rw (u, v)

-- one that ends before it
in_day_before : (a b d : ℕ) → b ≤ day_seconds * d → in_day a b d ≡ 0
unfolding in_day
in_day_before a b d h =
    let u : min (day_seconds * suc d) b ≡ b = omega arith in
    let v : min (day_seconds * d) b ≡ b = omega arith in
    rw (u, v) (omega arith)

-- the day of a second, and the part from there on
in_its_day : (at to : ℕ) → at < to → (day_seconds * (at / day_seconds) ≤ at) × (at ≤ part_end at to) × (part_end at to ≤ day_seconds * suc (at / day_seconds))
unfolding part_end
in_its_day at to h = (omega arith, omega arith, omega arith)

-- what the part adds to its own day
part_in : (from at to : ℕ) → from ≤ at → at < to → in_day from (part_end at to) (at / day_seconds) ≡ in_day from at (at / day_seconds) + (part_end at to - at)
part_in from at to h l =
    let (p, q, r) = in_its_day at to l in
    rw (in_day_within from (part_end at to) (at / day_seconds) (omega arith) r, in_day_within from at (at / day_seconds) p (omega arith))
    (add from at (part_end at to) (day_seconds * (at / day_seconds)) h p q)
  where
    add : (a b e s : ℕ) → a ≤ b → s ≤ b → b ≤ e → (e - a) - (s - a) ≡ ((b - a) - (s - a)) + (e - b)
    add a b e s x y z = omega arith

-- and to any other: nothing
part_out : (from at to d : ℕ) → from ≤ at → at < to → d ≢ at / day_seconds → in_day from (part_end at to) d ≡ in_day from at d
part_out from at to d h l n = go (le_or_lt (at / day_seconds) d) (in_its_day at to l)
  where
    go : (at / day_seconds ≤ d) ⊎ (d < at / day_seconds)
        → (day_seconds * (at / day_seconds) ≤ at) × (at ≤ part_end at to) × (part_end at to ≤ day_seconds * suc (at / day_seconds))
        → in_day from (part_end at to) d ≡ in_day from at d
    go (inl b) (p, q, r) =
        let later : at / day_seconds < d = omega arith in
        in_day_before from (part_end at to) d (omega arith) ∙ sym (in_day_before from at d (omega arith))
    go (inr b) (p, q, r) = in_day_past from (part_end at to) d (omega arith) ∙ sym (in_day_past from at d (omega arith))

-- the part up to the next midnight
counted_part : (days : List ℕ) (from at to : ℕ) (sums : List ℕ) (y v : ℕ) → Counted days from at sums → from ≤ at → at < to → to ≤ week_seconds
    → y ≡ at / day_seconds → v ≡ get_or sums y 0 + (part_end at to - at) → Counted days from (part_end at to) (set sums y v)
counted_part days from at to sums y v c h l w e f =
    record { long = length-set sums y v ∙ c.long; counts = λ d b. go d b (same_or_not d y) }
  where
    inside : y < week_days
    inside = omega arith

    go : (d : ℕ) → d < week_days → (d ≡ y) ⊎ (d ≢ y) → get_or (set sums y v) d 0 ≡ get_or days d 0 + in_day from (part_end at to) d
    go d b (inl z) =
        rw z (get_or-set_same sums y v 0 (omega (arith, c.long)) ∙ omega (arith, f, c.counts y inside, rw (← e) at (part_in from at to h l)))
    go d b (inr z) =
        get_or-set_other sums y d v 0 z ∙ omega (arith, c.counts d b, part_out from at to d h l (λ q. z (q ∙ sym e)))

-- a figure has room for a part
pub counted_fits : (days : List ℕ) (from at : ℕ) (sums : List ℕ) (d : ℕ) → Counted days from at sums → d < week_days → WithinDays days figure_most
    → get_or sums d 0 ≤ figure_most + day_seconds
counted_fits days from at sums d c h w = omega (arith, c.counts d h, w d h, in_day_most from at d)

-- all of it
counted_all : (days : List ℕ) (from to : ℕ) (sums : List ℕ) → Counted days from to sums → sums ≡ build week_days (λ d. get_or days d 0 + in_day from to d)
counted_all days from to sums c =
    ext_get_or 0 sums (build week_days (λ d. get_or days d 0 + in_day from to d)) (c.long ∙ sym (build_length week_days _))
    (λ d h. c.counts d (omega (arith, c.long)) ∙ sym (build_at week_days (λ d. get_or days d 0 + in_day from to d) d 0 (omega (arith, c.long))))

-- a table in which one server's days are so counted, and the others stand as they were
pub record Filled (table₀ : List (List ℕ)) (y from at : ℕ) (table : List (List ℕ)) : Type 0 where
  pub inside : y < length table
  pub counted : Counted (get_or table₀ y []) from at (get_or table y [])
  pub others : table ≡ set table₀ y (get_or table y [])

-- nothing of the hold yet
pub filled_none : (table : List (List ℕ)) (y from : ℕ) → y < length table → length (get_or table y []) ≡ week_days → Filled table y from from table
filled_none table y from l e = record { inside = l; counted = counted_none (get_or table y []) from e; others = sym (set-get_or table y []) }

-- one part more
pub filled_part : (table₀ : List (List ℕ)) (y from at to : ℕ) (table : List (List ℕ)) (d v : ℕ) → Filled table₀ y from at table → from ≤ at → at < to
    → to ≤ week_seconds → d ≡ at / day_seconds → v ≡ get_or (get_or table y []) d 0 + (part_end at to - at)
    → Filled table₀ y from (part_end at to) (set table y (set (get_or table y []) d v))
filled_part table₀ y from at to table d v c h k w e f =
    let sums = set (get_or table y []) d v in
    let same : get_or (set table y sums) y [] ≡ sums = get_or-set_same table y sums [] c.inside in
    record {
      inside = omega (arith, length-set table y sums, c.inside);
      counted = rw same (counted_part (get_or table₀ y []) from at to (get_or table y []) d v c.counted h k w e f);
      others = rw same (ap (λ (t : List (List ℕ)). set t y sums) c.others ∙ set-set table₀ y (get_or table y []) sums);
    }

-- all of the hold
pub filled_all : (table₀ : List (List ℕ)) (y from to : ℕ) (table : List (List ℕ)) → Filled table₀ y from to table
    → table ≡ set table₀ y (build week_days (λ d. get_or (get_or table₀ y []) d 0 + in_day from to d))
filled_all table₀ y from to table c = c.others ∙ ap (set table₀ y) (counted_all (get_or table₀ y []) from to (get_or table y []) c.counted)

-- ---- row by row

-- no rows, no seconds
pub figures_none : (ns : List ℕ) → replicate 64 (replicate week_days 0) ≡ build 64 (days_upto ns 0)
unfolding build days_upto rows_upto total
figures_none ns = refl

-- one row more
total_next : (ns : List ℕ) (i y d : ℕ) → total (row_in_day y d) (rows_upto ns (suc i)) ≡ total (row_in_day y d) (rows_upto ns i) + row_in_day y d (row_at ns i)
unfolding rows_upto total
total_next ns i y d = total_append (row_in_day y d) (rows_upto ns i) (row_at ns i ∷ []) ∙ omega arith

-- a row has no more than a day's seconds, so i rows have no more than i days'; and a server has seven days
row_most : (y d : ℕ) (r : Row) → row_in_day y d r ≤ day_seconds
unfolding row_in_day
row_most y d (hold x a b) = go (same_or_not x y)
  where
    go : (x ≡ y) ⊎ (x ≢ y) → row_in_day y d (hold x a b) ≤ day_seconds
    go (inl e) = rw (eq-eqb x y e) (in_day_most a b d)
    go (inr e) = rw (ne_eqb x y e) (omega arith)
row_most y d (move v) = omega arith

total_most : (ns : List ℕ) (y d i : ℕ) → total (row_in_day y d) (rows_upto ns i) ≤ day_seconds * i
unfolding rows_upto total
total_most ns y d zero = omega arith
total_most ns y d (suc i) = omega (arith, total_next ns i y d, row_most y d (row_at ns i), total_most ns y d i)

pub figures_long : (ns : List ℕ) (i y : ℕ) → y < 64 → length (get_or (build 64 (days_upto ns i)) y []) ≡ week_days
unfolding days_upto
figures_long ns i y l = rw (build_at 64 (days_upto ns i) y [] l) (build_length week_days _)

pub figures_most : (ns : List ℕ) (i y : ℕ) → i ≤ 4096 → y < 64 → WithinDays (get_or (build 64 (days_upto ns i)) y []) figure_most
unfolding days_upto
figures_most ns i y h l d b =
    rw (build_at 64 (days_upto ns i) y [] l)
    (omega (arith, build_at week_days (λ d. total (row_in_day y d) (rows_upto ns i)) d 0 b, total_most ns y d i))

-- a row of kind 0 is a hold
pub row_hold : (ns : List ℕ) (i : ℕ) → get_or ns (4 * i) 0 ≡ 0 → row_at ns i ≡ hold (get_or ns (4 * i + 1) 0) (get_or ns (4 * i + 2) 0) (get_or ns (4 * i + 3) 0)
unfolding row_at row_of
row_hold ns i e = rw e

-- any other is a move
row_move : (ns : List ℕ) (i y d : ℕ) → (get_or ns (4 * i) 0 ≡ 0 → ⊥) → row_in_day y d (row_at ns i) ≡ 0
unfolding row_at row_of row_in_day
row_move ns i y d e = rw (ne_eqb (get_or ns (4 * i) 0) 0 e) (go (same_or_not (get_or ns (4 * i) 0) 1))
  where
    a : ℕ
    a = get_or ns (4 * i + 1) 0

    b : ℕ
    b = get_or ns (4 * i + 2) 0

    go : (get_or ns (4 * i) 0 ≡ 1) ⊎ (get_or ns (4 * i) 0 ≢ 1)
        → row_in_day y d (pick (eqb (get_or ns (4 * i) 0) 1) (move (transfer a b (get_or ns (4 * i + 3) 0))) (move (upload a b))) ≡ 0
    go (inl z) = rw (eq-eqb (get_or ns (4 * i) 0) 1 z)
    go (inr z) = rw (ne_eqb (get_or ns (4 * i) 0) 1 z)

-- a hold adds to its server's days
pub figures_hold : (ns : List ℕ) (i : ℕ) (v : List ℕ) → get_or ns (4 * i) 0 ≡ 0 → get_or ns (4 * i + 1) 0 < 64
    → v ≡ build week_days (λ d. get_or (get_or (build 64 (days_upto ns i)) (get_or ns (4 * i + 1) 0) []) d 0 + in_day (get_or ns (4 * i + 2) 0) (get_or ns (4 * i + 3) 0) d)
    → set (build 64 (days_upto ns i)) (get_or ns (4 * i + 1) 0) v ≡ build 64 (days_upto ns (suc i))
unfolding days_upto row_in_day
figures_hold ns i v e l f = build_set 64 x v (days_upto ns i) (days_upto ns (suc i)) here there
  where
    x : ℕ
    x = get_or ns (4 * i + 1) 0

    here : days_upto ns (suc i) x ≡ v
    here =
        build_same week_days _ _
        (λ d b.
        total_next ns i x d
        ∙ rw (row_hold ns i e, eq-eqb x x refl, build_at 64 (days_upto ns i) x [] l, build_at week_days (λ d. total (row_in_day x d) (rows_upto ns i)) d 0 b))
        ∙ sym f

    there : (y : ℕ) → y ≢ x → days_upto ns (suc i) y ≡ days_upto ns i y
    there y n = build_same week_days _ _ (λ d b. total_next ns i y d ∙ rw (row_hold ns i e, ne_eqb x y (λ z. n (sym z))) (omega arith))

-- any other row adds nothing
pub figures_move : (ns : List ℕ) (i : ℕ) → (get_or ns (4 * i) 0 ≡ 0 → ⊥) → build 64 (days_upto ns i) ≡ build 64 (days_upto ns (suc i))
unfolding days_upto
figures_move ns i e =
    build_same 64 (days_upto ns i) (days_upto ns (suc i)) (λ y h. build_same week_days _ _ (λ d b. sym (total_next ns i y d ∙ omega (arith, row_move ns i y d e))))

-- ---- the sums of each day

-- none yet
pub sums_none : (table : List (List ℕ)) → replicate week_days 0 ≡ sums_of table 0
unfolding build sums_of sum
sums_none table = refl

-- one server more
pub sums_next : (table : List (List ℕ)) (y : ℕ) → build week_days (λ d. get_or (sums_of table y) d 0 + get_or (get_or table y []) d 0) ≡ sums_of table (suc y)
unfolding sums_of sum
sums_next table y =
    build_same week_days _ _ (λ d b. omega (arith, build_at week_days (λ d. sum y (λ i. get_or (get_or table (pred i) []) d 0)) d 0 b))

-- no more than as many days as servers
pub sums_most : (table : List (List ℕ)) (y : ℕ) → y ≤ 64 → Daily table → WithinDays (sums_of table y) figure_most
unfolding sums_of sum
sums_most table y h daily d b =
    omega (arith, build_at week_days (λ d. sum y (λ i. get_or (get_or table (pred i) []) d 0)) d 0 b, most y h)
  where
    most : (k : ℕ) → k ≤ 64 → sum k (λ i. get_or (get_or table (pred i) []) d 0) ≤ day_seconds * k
    most zero l = omega arith
    most (suc k) l = omega (arith, daily k (omega arith) d b, most k (omega arith))
