-- What the code makes the rows from: the requests, their marks, the holders over the gaps, the sources of the transfers, and the rows. Assumes nothing.
use Rattle.std.specs.Prelude.{Bool, List, ℕ}
use Rattle.model.specs.Requests.{Requests}
use Rattle.model.specs.Schedule.{Row}
use Rattle.model.specs.Marking.{Mark}
use Rattle.planner.specs.declared.rows.Basis.{Basis}
use Rattle.planner.specs.Asked.{asks}
use Rattle.planner.specs.HolderWords.{marking}
use Rattle.planner.specs.WordRows.{holder_at, word_source, word_rows}

abbrev pub asked : Basis → Requests
asked b = asks b.times.now b.servers.now

abbrev pub marked : Basis → ℕ → Mark
marked b = marking b.letters.now

abbrev pub held : Basis → ℕ → ℕ → Bool
held b = holder_at b.words.now

abbrev pub source : Basis → ℕ → ℕ
source b = word_source (asked b) b.words.now

abbrev pub based_rows : Basis → ℕ → List Row
based_rows b count = word_rows (asked b) b.words.now count (marked b) b.n
