-- The servers where a copy stands at a second, computed: what 01 says of a copy standing, as a set in a word.
use Rattle.std.specs.Prelude.{Bool, List, [], ◌∷◌, ℕ, zero, suc, leb, ltb, eqb}
use Rattle.base.specs.Choice.{pick, both}
use Rattle.base.specs.Sets.{has, put}
use Rattle.model.specs.Schedule.{Row, hold, move, transfer, upload}

-- with the server of a hold that began before second τ and reaches it, or of an upload at τ
unfoldable pub reach : ℕ → ℕ → Row → ℕ
reach τ w (hold x a b) = pick (both (ltb a τ) (leb τ b)) (put w x) w
reach τ w (move (transfer y x σ)) = w
reach τ w (move (upload x σ)) = pick (eqb σ τ) (put w x) w

-- with the target of a transfer at τ whose source is in the set
unfoldable pub arrive : ℕ → ℕ → Row → ℕ
arrive τ w (hold x a b) = w
arrive τ w (move (transfer y x σ)) = pick (both (eqb σ τ) (has w y)) (put w x) w
arrive τ w (move (upload x σ)) = w

-- a step for each row, in order
unfoldable pub through : (ℕ → Row → ℕ) → ℕ → List Row → ℕ
through f w [] = w
through f w (r ∷ rows) = through f (f w r) rows

-- the set at τ before the transfers of that second: home at 0, the holds that reach τ, and its uploads
unfoldable pub reached : ℕ → List Row → ℕ → ℕ
reached home rows τ = through (reach τ) (pick (eqb τ 0) (put 0 home) 0) rows

-- the transfers of second τ, applied a number of times
unfoldable pub rounds : ℕ → ℕ → List Row → ℕ → ℕ
rounds zero τ rows w = w
rounds (suc n) τ rows w = rounds n τ rows (through (arrive τ) w rows)

-- the servers where a copy stands at τ: the transfers of τ, in any listed order, applied as many times as there are servers
unfoldable pub standing : ℕ → ℕ → List Row → ℕ → ℕ
standing count home rows τ = rounds count τ rows (reached home rows τ)

-- does a copy stand at server x at second τ
unfoldable pub stands : ℕ → ℕ → List Row → ℕ → ℕ → Bool
stands count home rows x τ = has (standing count home rows τ) x
