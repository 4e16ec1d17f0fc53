-- Passes over some rows of a list, and the conditions 15 and 16, as the code comes by them. Assumes nothing.
use Rattle.std.specs.Prelude.{Bool, false, not, List, [], ◌∷◌, ℕ, zero, suc, ◌+◌, ◌*◌, leb, ltb, eqb, get_or}
use Rattle.base.specs.declared.reasons.Reason.TheVariants as reason
use Rattle.base.specs.Choice.{pick, both, either}
use Rattle.base.specs.Refusals.{Condition, refuse}
use Rattle.base.specs.Sets.{has, put}
use Rattle.std.proofs.Math.Option.{none, some}
use Rattle.model.specs.Rates.{Rates}
use Rattle.model.specs.Schedule.{Row, hold, move, transfer, upload}
use Rattle.model.specs.RowForm.{row_at, fits}
use Rattle.model.specs.Checking.{row_count, kind_fits, misplaced}
use Rattle.rows.specs.Reading.{server_of}

-- the set with server x, where a word has room for it
unfoldable pub join : ℕ → ℕ → ℕ
join w x = pick (ltb x 64) (put w x) w

-- a hold of server x that began before τ and reaches it
unfoldable pub covers : ℕ → ℕ → Row → Bool
covers τ x (hold y a b) = both (eqb y x) (both (ltb a τ) (leb τ b))
covers τ x (move v) = false

-- with the servers where holds begin, transfers leave and uploads arrive, of the n rows from one on
unfoldable pub servers : List ℕ → ℕ → ℕ → ℕ → ℕ
servers ns from w zero = w
servers ns from w (suc n) = join (servers ns from w n) (server_of (row_at ns (from + n)))

-- with the target of a transfer of τ whose source is in the set
unfoldable pub arrival : ℕ → ℕ → Row → ℕ
arrival τ w (hold x a b) = w
arrival τ w (move (transfer y x σ)) = pick (both (eqb σ τ) (has w y)) (join w x) w
arrival τ w (move (upload x σ)) = w

-- the n rows from one on, once
unfoldable pub along : List ℕ → ℕ → ℕ → ℕ → ℕ → ℕ
along ns τ from w zero = w
along ns τ from w (suc n) = arrival τ (along ns τ from w n) (row_at ns (from + n))

-- these rows again and again, until they add nothing, but at most m times
unfoldable pub settle : ℕ → (ℕ → ℕ) → ℕ → ℕ
settle zero f w = w
settle (suc m) f w = pick (eqb (f w) w) w (settle m f (f w))

-- where some rows end, if not past the last whole one
unfoldable pub upto : List ℕ → ℕ → ℕ
upto ns to = pick (ltb to (row_count ns)) to (row_count ns)

-- rates that offer uploads, or not; of the rates 15 asks no more
unfoldable pub offering : Bool → Rates
offering given = record { hold = 0; transfer = 0; upload = pick given (some 0) none }

-- row i, from 0: 15, then 16, for n requests, the last at second `last`
unfoldable pub row_tests : Bool → ℕ → ℕ → ℕ → List ℕ → ℕ → List Condition
row_tests given count n last ns i =
    refuse reason.RowForm (suc i)
    (either (not (kind_fits (offering given) (get_or ns (4 * i) 0) (get_or ns (4 * i + 3) 0))) (either (eqb n 0) (not (fits count last (row_at ns i)))))
    ∷ refuse reason.RowOrder (suc i) (misplaced ns i)
    ∷ []

-- some number below n passes a test
unfoldable pub any_below : ℕ → (ℕ → Bool) → Bool
any_below zero f = false
any_below (suc n) f = either (any_below n f) (f n)

-- a transfer to server x
unfoldable pub aims : ℕ → Row → Bool
aims x (hold y a b) = false
aims x (move (transfer y z σ)) = eqb z x
aims x (move (upload z σ)) = false

-- an upload of τ to server x
unfoldable pub puts : ℕ → ℕ → Row → Bool
puts τ x (hold y a b) = false
puts τ x (move (transfer y z σ)) = false
puts τ x (move (upload z σ)) = both (eqb z x) (eqb σ τ)

-- a hold of server x that begins at τ
unfoldable pub starts : ℕ → ℕ → Row → Bool
starts τ x (hold y a b) = both (eqb y x) (eqb a τ)
starts τ x (move v) = false
