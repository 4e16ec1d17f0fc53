-- Requests (01: scans), each at a second and a server (01: station). Assumes nothing.
use Rattle.std.specs.Prelude.{List, ◌∷◌, ℕ, zero, suc, ◌≤◌, ◌<◌, ◌≡◌, eqb, get_or}
use Rattle.std.proofs.Math.Option.{Option, none, some}
use Rattle.base.specs.Choice.{pick}

-- Request i, from 1, is at second `time i` and server `server i`; index 0 is the copy at home at second 0.
pub record Requests : Type 0 where
  pub time : ℕ → ℕ
  pub server : ℕ → ℕ

-- the requests of two lists, with home before them
unfoldable pub requests : ℕ → List ℕ → List ℕ → Requests
requests home seconds servers =
    record { time = λ i. get_or (0 ∷ seconds) i 0; server = λ i. get_or (home ∷ servers) i 0 }

-- the latest of the indices below n that is at server y
unfoldable pub latest : (ℕ → ℕ) → ℕ → ℕ → Option ℕ
latest s y zero = none
latest s y (suc n) = pick (eqb (s n) y) (some n) (latest s y n)

-- the previous request at the same server; home has one at second 0
unfoldable pub previous : Requests → ℕ → Option ℕ
previous q i = latest q.server (q.server i) i

-- the first n requests: from second 0 on the seconds rise strictly
pub record Rising (q : Requests) (n : ℕ) : Type 0 where
  pub start : q.time 0 ≡ 0
  pub rise : (i : ℕ) → i < n → q.time i < q.time (suc i)

-- home and the first n requests are at servers below the server count
unfoldable pub Within : ℕ → Requests → ℕ → Type 0
Within count q n = (i : ℕ) → i ≤ n → q.server i < count
