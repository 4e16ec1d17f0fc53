-- The walk back as the code makes it: one step of it, and the letters it writes. Assumes nothing.
use Rattle.std.specs.Prelude.{List, map, ◌≡◌, ℕ, suc}
use Rattle.std.proofs.Math.Option.{some}
use Rattle.model.specs.Rates.{Rates}
use Rattle.model.specs.Requests.{Requests, previous}
use Rattle.model.proofs.TableRows.{kept_best}
use Rattle.model.proofs.Walk.{turn, turn_mark, turn_c, turn_v, walk}
use Rattle.planner.specs.declared.walk.Turn.{Turn}
use Rattle.planner.specs.Answers.{letter}

-- d is D(i + 1)
unfoldable pub Keeps : Rates → Requests → ℕ → ℕ → Type 0
Keeps p q i d = (j : ℕ) → previous q (suc i) ≡ some j → d ≡ kept_best p q i j

-- the step back from request i + 1
unfoldable pub turned : Rates → Requests → ℕ → ℕ → ℕ → ℕ → Turn
turned p q i c d v =
    let o = turn p q i c d v in
    record { letter = letter (turn_mark p q o i c); c = turn_c o i c; v = turn_v p q o i c v }

-- the letters of the marks that are found from request i down
unfoldable pub walked : Rates → Requests → (ℕ → ℕ) → ℕ → ℕ → ℕ → List ℕ
walked p q D i c v = map letter (walk p q D i c v)
