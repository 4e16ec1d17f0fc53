-- How long each server holds the file, day by day (02's Req 01), counted from the rows of a schedule. Assumes nothing.
use Rattle.std.specs.Prelude.{Bool, false, List, [], ◌∷◌, ℕ, pred, ◌+◌, ◌-◌, ◌*◌, leb, ltb, eqb}
use Rattle.base.specs.Choice.{pick, both, either}
use Rattle.base.specs.Lists.{build}
use Rattle.model.specs.Sums.{sum, total}
use Rattle.model.specs.Schedule.{Row, hold, move}

-- the seconds of a day
abbrev pub day_seconds : ℕ
day_seconds = 86400

-- the days of a week
abbrev pub week_days : ℕ
week_days = 7

-- the seconds of a week
abbrev pub week_seconds : ℕ
week_seconds = 604800

-- a row holds at server y over the second that ends at τ: it began before, and reaches it
unfoldable pub holds_over : ℕ → ℕ → Row → Bool
holds_over y τ (hold x a b) = both (eqb x y) (both (ltb a τ) (leb τ b))
holds_over y τ (move v) = false

-- some row does
unfoldable pub held_over : ℕ → ℕ → List Row → Bool
held_over y τ [] = false
held_over y τ (r ∷ rows) = either (holds_over y τ r) (held_over y τ rows)

-- a cell: how many seconds of day d, from 0, the rows hold at server y; the i-th of them, from 1, ends i seconds after the day begins
unfoldable pub cell : List Row → ℕ → ℕ → ℕ
cell rows y d = sum day_seconds (λ i. pick (held_over y (day_seconds * d + i) rows) 1 0)

-- a server's cells, one for each day
unfoldable pub server_days : List Row → ℕ → List ℕ
server_days rows y = build week_days (cell rows y)

-- and the sums of each day's cells over the servers below a count
unfoldable pub day_sums : List Row → ℕ → List ℕ
day_sums rows count = build week_days (λ d. sum count (λ i. cell rows (pred i) d))

-- the sum of a line's figures
unfoldable pub line_sum : List ℕ → ℕ
line_sum figures = total (λ n. n) figures

-- the seconds that a row holds at server y
unfoldable pub held_at : ℕ → Row → ℕ
held_at y (hold x a b) = pick (eqb x y) (b - a) 0
held_at y (move v) = 0
