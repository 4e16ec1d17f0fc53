-- The sums of the week page, counted from the rows.
use Rattle.std.specs.Prelude.{Bool, true, false, List, [], ◌∷◌, ◌≡◌, refl, ℕ, zero, suc, pred, ◌-◌, ◌*◌, ◌≤◌, min, eqb}
use Rattle.std.proofs.Common.{sym, ◌∙◌, arith, eq-eqb, ne_eqb}
use Rattle.base.specs.Choice.{pick}
use Rattle.base.specs.ChoiceLaws.{both_true}
use Rattle.base.specs.Lists.{build}
use Rattle.model.specs.Sums.{sum, total}
use Rattle.model.proofs.SumLaws.{sum_same, sum_zero, sum_swap, sum_total, total_append}
use Rattle.model.proofs.CountLaws.{sum_server}
use Rattle.model.specs.Schedule.{Row, hold, move, length_of}
use Rattle.model.specs.RowForm.{fits, ordered, all_fit}
use Rattle.model.proofs.RowLaws.{fits_hold}
use Rattle.week.specs.Days.{day_seconds, week_days, week_seconds, cell, held_at, server_days, day_sums, line_sum}
use Rattle.week.specs.DayLaws.{in_day, row_in_day, cell_total, cell_most}

-- the sum of a built line
line_sum_build : (n : ℕ) (f : ℕ → ℕ) → line_sum (build n f) ≡ sum n (λ i. f (pred i))
unfolding line_sum build total sum
line_sum_build zero f = refl
line_sum_build (suc n) f = total_append (λ m. m) (build n f) (f n ∷ []) ∙ omega (arith, line_sum_build n f)

-- no term is more than c
sum_most : (n c : ℕ) (f : ℕ → ℕ) → ((i : ℕ) → f i ≤ c) → sum n f ≤ c * n
unfolding sum
sum_most zero c f h = omega arith
sum_most (suc n) c f h = omega (arith, h (suc n), sum_most n c f h)

-- the same for each row that fits
total_fit : (count last : ℕ) (f g : Row → ℕ) → ((r : Row) → fits count last r ≡ true → f r ≡ g r)
    → (rows : List Row) → all_fit count last rows ≡ true → total f rows ≡ total g rows
unfolding total all_fit
total_fit count last f g h [] e = refl
total_fit count last f g h (r ∷ rows) e =
    let (p, q) = both_true (fits count last r) (all_fit count last rows) e in
    omega (arith, h r p, total_fit count last f g h rows q)

-- the seconds of a hold in the first k days
first_days : (a b k : ℕ) → sum k (λ i. in_day a b (pred i)) ≡ min (day_seconds * k) b - a
unfolding sum in_day
first_days a b zero = omega arith
first_days a b (suc k) = omega (arith, first_days a b k)

-- the days of a week have all seconds that a row holds at a server
row_days : (count last : ℕ) → last ≤ week_seconds → (y : ℕ) (r : Row) → fits count last r ≡ true
    → sum week_days (λ i. row_in_day y (pred i) r) ≡ held_at y r
unfolding row_in_day held_at
row_days count last week y (hold x a b) e = go (eqb x y)
  where
    go : (t : Bool) → sum week_days (λ i. pick t (in_day a b (pred i)) 0) ≡ pick t (b - a) 0
    go true = let (f, g, h) = fits_hold count last x a b e in omega (arith, first_days a b week_days)
    go false = sum_zero week_days (λ i. 0) (λ i c d. refl)
row_days count last week y (move v) e = sum_zero week_days (λ i. 0) (λ i a b. refl)

-- the servers below the count have all seconds that a row holds
row_servers : (count last : ℕ) (r : Row) → fits count last r ≡ true → sum count (λ i. held_at (pred i) r) ≡ length_of r
unfolding held_at length_of
row_servers count last (hold x a b) e =
    sum_server count x (λ y. pick (eqb x y) (b - a) 0) (fits_hold count last x a b e).0 (λ y d. rw (ne_eqb x y (λ z. d (sym z))))
    ∙ rw (eq-eqb x x refl)
row_servers count last (move v) e = sum_zero count (λ i. 0) (λ i a b. refl)

-- a line's sum, by its cells
pub server_cells : (rows : List Row) (y : ℕ) → line_sum (server_days rows y) ≡ sum week_days (λ i. cell rows y (pred i))
unfolding server_days
server_cells rows y = line_sum_build week_days (cell rows y)

corner_cells : (rows : List Row) (count : ℕ)
    → line_sum (day_sums rows count) ≡ sum week_days (λ i. sum count (λ j. cell rows (pred j) (pred i)))
unfolding day_sums
corner_cells rows count = line_sum_build week_days (λ d. sum count (λ j. cell rows (pred j) d))

-- the corner is the sum of the servers' sums
pub corner_servers : (rows : List Row) (count : ℕ) → line_sum (day_sums rows count) ≡ sum count (λ i. line_sum (server_days rows (pred i)))
corner_servers rows count =
    corner_cells rows count
    ∙ sum_swap week_days count (λ i j. cell rows (pred j) (pred i))
    ∙ sum_same count (λ j. sum week_days (λ i. cell rows (pred j) (pred i))) (λ j. line_sum (server_days rows (pred j)))
    (λ j a b. sym (server_cells rows (pred j)))

module _ (count last : ℕ) (rows : List Row) (fit : all_fit count last rows ≡ true) (order : ordered rows ≡ true) (week : last ≤ week_seconds) where
  -- a server's sum is the seconds that the rows hold there
  pub server_sum : (y : ℕ) → line_sum (server_days rows y) ≡ total (held_at y) rows
  server_sum y =
      server_cells rows y
      ∙ sum_same week_days (λ i. cell rows y (pred i)) (λ i. total (row_in_day y (pred i)) rows)
      (λ i a b. cell_total count last rows fit order y (pred i))
      ∙ sum_total week_days rows (λ r i. row_in_day y (pred i) r)
      ∙ total_fit count last (λ r. sum week_days (λ i. row_in_day y (pred i) r)) (held_at y) (row_days count last week y) rows fit

  -- and the corner the seconds of all holds
  pub corner_held : line_sum (day_sums rows count) ≡ total length_of rows
  corner_held =
      corner_servers rows count
      ∙ sum_same count (λ i. line_sum (server_days rows (pred i))) (λ i. total (held_at (pred i)) rows) (λ i a b. server_sum (pred i))
      ∙ sum_total count rows (λ r i. held_at (pred i) r)
      ∙ total_fit count last (λ r. sum count (λ i. held_at (pred i) r)) length_of (row_servers count last) rows fit

-- no sum is more than the seconds there are: a server's over the week,
pub server_sum_most : (rows : List Row) (y : ℕ) → line_sum (server_days rows y) ≤ week_seconds
server_sum_most rows y =
    omega (arith, server_cells rows y, sum_most week_days day_seconds (λ i. cell rows y (pred i)) (λ i. cell_most rows y (pred i)))

-- one day's over the servers
pub day_most : (rows : List Row) (count d : ℕ) → sum count (λ i. cell rows (pred i) d) ≤ day_seconds * count
day_most rows count d = sum_most count day_seconds (λ i. cell rows (pred i) d) (λ i. cell_most rows (pred i) d)

-- all of them
pub corner_most : (rows : List Row) (count : ℕ) → line_sum (day_sums rows count) ≤ week_seconds * count
corner_most rows count =
    omega (
      arith,
      corner_cells rows count,
      sum_most week_days (day_seconds * count) (λ i. sum count (λ j. cell rows (pred j) (pred i))) (λ i. day_most rows count (pred i)),
    )
