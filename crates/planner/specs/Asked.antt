-- The requests that a list of seconds and a list of servers hold. Assumes nothing.
use Rattle.std.specs.Prelude.{List, ℕ}
use Rattle.model.specs.Requests.{Requests}
use Rattle.model.proofs.TableLists.{at}

-- home's second, 0, and home itself have place 0
abbrev pub asks : List ℕ → List ℕ → Requests
asks seconds servers = record { time = at seconds; server = at servers }
