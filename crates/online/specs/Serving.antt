-- What the code tells of a state and of a request, one server at a time. Assumes nothing.
use Rattle.std.specs.Prelude.{List, ◌≡◌, ℕ}
use Rattle.online.specs.declared.Cache.{Cache}
use Rattle.online.specs.declared.state.Outline.{Outline}
use Rattle.online.specs.declared.scan.Served.{Served}
use Rattle.online.specs.Rules.{window_of, use_at, kept}

-- an outline is that of the state
pub record Outlines (c : Cache) (o : Outline) : Type 0 where
  pub server_count_of : o.server_count ≡ c.server_count
  pub last : o.last ≡ c.last
  pub second : o.second ≡ c.second
  pub holders : o.holders ≡ c.holders
  pub window : o.window ≡ window_of c

-- the mark of a request is the one that the state gives
pub record Serves (c : Cache) (q : Served) : Type 0 where
  pub mark : q.kept ≡ kept c q.second q.server

-- something holds of each state with this outline and this last use at y
abbrev pub WithUse : Outline → ℕ → ℕ → (Cache → Type 0) → Type 0
WithUse o used y P = (c : Cache) → Outlines c o → used ≡ use_at c y → P c

-- of each state with this outline and these last uses
abbrev pub WithUses : Outline → List ℕ → (Cache → Type 0) → Type 0
WithUses o uses P = (c : Cache) → Outlines c o → c.last_use ≡ uses → P c

-- of each state with this outline that gives the request this mark
abbrev pub WithMark : Outline → Served → (Cache → Type 0) → Type 0
WithMark o q P = (c : Cache) → Outlines c o → Serves c q → P c
