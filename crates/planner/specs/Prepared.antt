-- The requests that the table is made from, as the code holds them. Assumes nothing.
use Rattle.std.specs.Prelude.{ℕ}
use Rattle.model.specs.Rates.{Rates}
use Rattle.model.specs.Requests.{Requests}
use Rattle.planner.specs.declared.table.Asked as handed
use Rattle.planner.specs.Asked.{asks}
use Rattle.planner.specs.Fees.{rated}
use Rattle.planner.specs.Fits.{Ready}

-- the rates that they are billed by
abbrev pub rates_of : handed.Asked → Rates
rates_of a = rated a.fees

-- the requests
abbrev pub asks_of : handed.Asked → Requests
asks_of a = asks a.seconds.now a.servers.now

-- they are ready for the table's first n requests
abbrev pub Prepared : handed.Asked → ℕ → Type 0
Prepared a n = Ready (rates_of a) a.seconds.now a.servers.now a.previous.now n
