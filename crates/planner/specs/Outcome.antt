-- What a planner's call answers: a plan, or why there is none. Assumes nothing.
use Rattle.std.specs.Prelude.{ℕ, Result, Ok}
use Rattle.base.specs.declared.Refusal.{Refusal}
use Rattle.planner.specs.declared.Planned.{Planned}

abbrev pub Outcome : Type 0
Outcome = Result Planned Refusal

-- a plan of a cost and a number of rows
abbrev pub a_plan : ℕ → ℕ → Outcome
a_plan cost rows = Ok (record { cost = cost; rows = rows })
