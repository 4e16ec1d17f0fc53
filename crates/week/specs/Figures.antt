-- What the code asks of rows and figures.
use Rattle.std.specs.Prelude.{List, [], ◌≡◌, ℕ, suc, pred, ◌+◌, ◌*◌, ◌/◌, ◌≤◌, ◌<◌, min, get_or}
use Rattle.base.specs.Lists.{build}
use Rattle.model.specs.RowForm.{rows_upto}
use Rattle.model.specs.Sums.{sum, total}
use Rattle.week.specs.Days.{day_seconds, week_days, week_seconds}
use Rattle.week.specs.DayLaws.{row_in_day}

-- the holds among the first n rows of a list of numbers are at servers below 64, end after they begin, and by the week's end
abbrev pub Placed : List ℕ → ℕ → Type 0
Placed ns n =
    (i : ℕ) → i < n → get_or ns (4 * i) 0 ≡ 0
    → (get_or ns (4 * i + 1) 0 < 64) × (get_or ns (4 * i + 2) 0 < get_or ns (4 * i + 3) 0) × (get_or ns (4 * i + 3) 0 ≤ week_seconds)

-- the seconds that these rows hold at server y on each day
unfoldable pub days_upto : List ℕ → ℕ → ℕ → List ℕ
days_upto ns n y = build week_days (λ d. total (row_in_day y d) (rows_upto ns n))

-- where the part of a hold that goes on at a second ends: with the hold, or at the next midnight
unfoldable pub part_end : ℕ → ℕ → ℕ
part_end at to = min to (day_seconds * suc (at / day_seconds))

-- the sums of each day over the first servers of a table
unfoldable pub sums_of : List (List ℕ) → ℕ → List ℕ
sums_of table count = build week_days (λ d. sum count (λ i. get_or (get_or table (pred i) []) d 0))

-- a figure of which no part makes 32 bits too few
abbrev pub figure_most : ℕ
figure_most = 2147483648

-- no figure of a line is more than a bound
abbrev pub WithinDays : List ℕ → ℕ → Type 0
WithinDays figures bound = (d : ℕ) → d < week_days → get_or figures d 0 ≤ bound

-- no figure of a table is more than a day
abbrev pub Daily : List (List ℕ) → Type 0
Daily table = (y : ℕ) → y < 64 → WithinDays (get_or table y []) day_seconds
