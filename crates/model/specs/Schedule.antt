-- Schedules, as 01's 'Schedules' words them, with the uploads of 02's Req 11: rows, where a copy stands, feasible, cost. Assumes nothing.
use Rattle.std.specs.Prelude.{true, ◌≡◌, ℕ, ◌+◌, ◌-◌, ◌*◌, ◌≤◌, ◌<◌}
use mathlib.Core.List.{List, Memᴰ}
use Rattle.model.specs.Rates.{Rates, offers, upload_fee}
use Rattle.model.specs.Sums.{total}
use Rattle.model.specs.Requests.{Requests}

-- transfer SOURCE TARGET SECOND (01: send), or upload TARGET SECOND
pub data Move : Type 0 where
  transfer : ℕ → ℕ → ℕ → Move
  upload : ℕ → ℕ → Move

-- hold SERVER FROM TO (01: stay), or a move
pub data Row : Type 0 where
  hold : ℕ → ℕ → ℕ → Row
  move : Move → Row

-- A copy stands at a server at a second: at home at 0; where a hold began before and reaches it; where a transfer of that second
-- arrives from a server where it stands; where an upload of that second brings it. The least such relation, so a cycle of transfers with
-- no copy behind it gives none.
pub data Stands (home : ℕ) (rows : List Row) : ℕ → ℕ → Type 0 where
  at_home : Stands home rows home 0
  held : {x a b τ : ℕ} → Memᴰ (hold x a b) rows → a < τ → τ ≤ b → Stands home rows x τ
  arrived : {x y τ : ℕ} → Memᴰ (move (transfer y x τ)) rows → Stands home rows y τ → Stands home rows x τ
  uploaded : {x τ : ℕ} → Memᴰ (move (upload x τ)) rows → Stands home rows x τ

-- a copy stands where and when a row begins: a hold at its start, a transfer at its source; an upload asks for none
unfoldable pub Backed : ℕ → List Row → Row → Type 0
Backed home rows (hold x a b) = Stands home rows x a
Backed home rows (move (transfer y x τ)) = Stands home rows y τ
Backed home rows (move (upload x τ)) = Unit {0}

-- each hold begins and each transfer leaves where a copy stands, one stands at each of the first n requests, and an upload asks for an upload price
pub record Feasible (p : Rates) (q : Requests) (n : ℕ) (rows : List Row) : Type 0 where
  pub begins : (x a b : ℕ) → Memᴰ (hold x a b) rows → Stands (q.server 0) rows x a
  pub leaves : (y x τ : ℕ) → Memᴰ (move (transfer y x τ)) rows → Stands (q.server 0) rows y τ
  pub serves : (i : ℕ) → 1 ≤ i → i ≤ n → Stands (q.server 0) rows (q.server i) (q.time i)
  pub offered : (x τ : ℕ) → Memᴰ (move (upload x τ)) rows → offers p ≡ true

-- the seconds that a row holds
unfoldable pub length_of : Row → ℕ
length_of (hold x a b) = b - a
length_of (move v) = 0

-- 1 for a transfer
unfoldable pub is_transfer : Row → ℕ
is_transfer (hold x a b) = 0
is_transfer (move (transfer y x τ)) = 1
is_transfer (move (upload x τ)) = 0

-- 1 for an upload
unfoldable pub is_upload : Row → ℕ
is_upload (hold x a b) = 0
is_upload (move (transfer y x τ)) = 0
is_upload (move (upload x τ)) = 1

-- hold price × seconds of all holds, plus transfer price × transfers, plus upload price × uploads (01: bill)
unfoldable pub cost_of : Rates → List Row → ℕ
cost_of p rows = p.hold * total length_of rows + p.transfer * total is_transfer rows + upload_fee p * total is_upload rows
