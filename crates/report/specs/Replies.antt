-- What the code takes from the planner's answer. Assumes nothing.
use Rattle.std.specs.Prelude.{ℕ, Err, Ok}
use Rattle.planner.specs.Outcome.{Outcome}

-- the rows of a plan; none where it was refused
unfoldable pub rows_planned : Outcome → ℕ
rows_planned (Ok p) = p.rows
rows_planned (Err r) = 0
