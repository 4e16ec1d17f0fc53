-- What is claimed of a season: of pieces that are fed one after the other, and of the worst log. Assumes nothing.
use Rattle.std.specs.Prelude.{List, [], ◌∷◌, ◌++◌, ◌≢◌, ◌≡◌, ℕ, suc, ◌*◌, ◌≤◌, ◌<◌, length, get_or, Ok}
use Rattle.prices.specs.Tariff.{Tariff}
use Rattle.season.specs.Tallies.{Met}
use Rattle.season.specs.declared.Worst.{Worst}
use Rattle.season.specs.declared.Season.{Season}
use Rattle.season.specs.Steps.{feed_verdict}
use Rattle.season.specs.Answers.{fed, room_left}

-- ---- pieces

-- a season and its room
pub record Kept : Type 0 where
  pub season : Season
  pub room : List ℕ

-- after a piece, and after a list of them
abbrev pub fed_piece : Tariff → Kept → List ℕ → Kept
fed_piece t k piece = record { season = (fed t k.season k.room piece).season; room = room_left t k.season k.room piece }

unfoldable pub fed_pieces : Tariff → Kept → List (List ℕ) → Kept
fed_pieces t k [] = k
fed_pieces t k (piece ∷ pieces) = fed_pieces t (fed_piece t k piece) pieces

-- none of them is refused
unfoldable pub Passes : Tariff → Kept → List (List ℕ) → Type 0
Passes t k [] = Unit {0}
Passes t k (piece ∷ pieces) = (feed_verdict k.season.held (length k.room) ≡ Ok tt) × Passes t (fed_piece t k piece) pieces

-- all of them, one after the other
unfoldable pub joined : List (List ℕ) → List ℕ
joined [] = []
joined (piece ∷ pieces) = piece ++ joined pieces

-- ---- the worst log

-- the log at an index; past the end one without requests
abbrev pub no_log : Met
no_log = record { verdict = Ok tt; requests = 0; least = 0; running = 0 }

abbrev pub log_at : List Met → ℕ → Met
log_at ms j = get_or ms j no_log

-- of the accepted logs, as only they have requests: no log with a request has a larger ratio than this one, and each such log before it has a smaller one; a/b ≤ c/d is said as a * d ≤ c * b
pub record NamesWorst (ms : List Met) (w : Worst) : Type 0 where
  pub index : ℕ
  pub placed : w.place ≡ suc index
  pub within : index < length ms
  pub asked : (log_at ms index).requests ≢ 0
  pub runs : w.running ≡ (log_at ms index).running
  pub needs : w.least ≡ (log_at ms index).least
  pub largest : (j : ℕ) → j < length ms → (log_at ms j).requests ≢ 0 → (log_at ms j).running * w.least ≤ w.running * (log_at ms j).least
  pub first : (j : ℕ) → j < index → (log_at ms j).requests ≢ 0 → (log_at ms j).running * w.least < w.running * (log_at ms j).least
