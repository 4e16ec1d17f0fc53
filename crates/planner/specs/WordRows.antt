-- Rows by the words of the gaps' holders, a list of words in which that of gap k has place k. Assumes nothing.
use Rattle.std.specs.Prelude.{Bool, List, [], ◌∷◌, ◌++◌, ℕ, zero, suc, ◌-◌, get_or}
use Rattle.base.specs.Choice.{pick}
use Rattle.base.specs.Sets.{has}
use Rattle.base.specs.Nearest.{nearest}
use Rattle.model.specs.Requests.{Requests}
use Rattle.model.specs.Schedule.{Row, hold, move, transfer, upload}
use Rattle.model.specs.Marking.{Mark, sends, loads, begins_run, run_end, hold_rows, transfers, uploads}

-- server y holds over gap k
unfoldable pub holder_at : List ℕ → ℕ → ℕ → Bool
holder_at words y k = has (get_or words k 0) y

-- the holds of the servers below a bound, server by server
unfoldable pub word_holds : Requests → List ℕ → ℕ → ℕ → List Row
word_holds q words n zero = []
word_holds q words n (suc y) = word_holds q words n y ++ hold_rows q (holder_at words y) n y n

-- the hold at server y that begins with gap k + 1 of n, if one does
unfoldable pub new_hold : Requests → (ℕ → Bool) → ℕ → ℕ → ℕ → List Row
new_hold q f n y k = pick (begins_run f (suc k)) (hold y (q.time k) (q.time (run_end f (suc k) (n - suc k))) ∷ []) []

-- of the holders over the gap before request i the nearest to its server, the lower of two equally near
unfoldable pub word_source : Requests → List ℕ → ℕ → ℕ
word_source q words i = nearest 64 (has (get_or words i 0)) (q.server i)

-- the transfer to request i + 1, if it is S
unfoldable pub new_transfer : Requests → (ℕ → Mark) → (ℕ → ℕ) → ℕ → List Row
new_transfer q m from i = pick (sends (m (suc i))) (move (transfer (from (suc i)) (q.server (suc i)) (q.time (suc i))) ∷ []) []

-- the upload to it, if it is U
unfoldable pub new_upload : Requests → (ℕ → Mark) → ℕ → List Row
new_upload q m i = pick (loads (m (suc i))) (move (upload (q.server (suc i)) (q.time (suc i))) ∷ []) []

-- the rows: the holds, the transfers, the uploads
unfoldable pub word_rows : Requests → List ℕ → ℕ → (ℕ → Mark) → ℕ → List Row
word_rows q words count m n = word_holds q words n count ++ (transfers q m (word_source q words) n ++ uploads q m n)
