-- The columns as the code hands them on, and how many requests they hold. Assumes nothing.
use Rattle.std.specs.Prelude.{ℕ, ◌≤◌, ◌<◌, length}
use Rattle.report.specs.Text.{Columns, columns}
use Rattle.report.specs.declared.lines.Columns as handed

-- what is in them
abbrev pub columns_in : handed.Columns → Columns
columns_in c = columns c.seconds.now c.servers.now c.plan.now c.live.now c.least.now c.costs.now

-- each has n requests; the least costs have that of no requests too
abbrev pub Holds : Columns → ℕ → Type 0
Holds c n =
    (n ≤ length c.seconds) × (n ≤ length c.servers) × (n ≤ length c.plan) × (n ≤ length c.live) × (n < length c.least) × (n ≤ length c.costs)
