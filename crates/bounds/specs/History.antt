-- What the rules of 01's 'The live keeper' give for a list of requests, from the requests alone: each request's mark, the last uses, the
-- servers that hold over each second, the seconds held, the transfers, and what is left of each window. W is the window. Assumes nothing.
use Rattle.std.specs.Prelude.{Bool, false, ℕ, zero, suc, pred, ◌+◌, ◌-◌, ◌*◌, leb, ltb, eqb}
use Rattle.std.proofs.Math.Option.{Option, none, some}
use Rattle.base.specs.Choice.{pick, either}
use Rattle.prices.specs.declared.Prices.{Prices}
use Rattle.prices.specs.Prices.{window}
use Rattle.model.specs.Sums.{sum}
use Rattle.model.specs.Requests.{Requests}
use Rattle.model.specs.Marking.{Mark, K, S, sent}
use Rattle.online.specs.Servers.{across}

-- the last of the requests before request n, home included, that comes before second τ
unfoldable pub before : Requests → ℕ → ℕ → ℕ
before q zero τ = 0
before q (suc n) τ = let r = before q n τ in pick (ltb (q.time n) τ) n r

module _ (W : ℕ) where
  -- a use at most one window before second τ
  unfoldable pub recent : Option ℕ → ℕ → Bool
  recent none τ = false
  recent (some u) τ = leb τ (u + W)

  -- the seconds that a use still holds after second τ
  unfoldable pub left_of : Option ℕ → ℕ → ℕ
  left_of none τ = 0
  left_of (some u) τ = u + W - τ

  module _ (q : Requests) where
    -- request i + 1 is K, where f gives each server's last use before it: at the server of request i, or where the use is recent
    unfoldable pub near : (ℕ → Option ℕ) → ℕ → Bool
    near f i = either (eqb (q.server (suc i)) (q.server i)) (recent (f (q.server (suc i))) (q.time (suc i)))

    -- the last uses after it: its second at its server, and, if it is S, at the server of request i
    unfoldable pub next : (ℕ → Option ℕ) → ℕ → ℕ → Option ℕ
    next f i y =
        pick (either (eqb y (q.server (suc i))) (pick (near f i) false (eqb y (q.server i)))) (some (q.time (suc i))) (f y)

    -- each server's last use after request i, if a copy ever was there; home has one at second 0
    unfoldable pub last_use : ℕ → ℕ → Option ℕ
    last_use zero = λ y. pick (eqb y (q.server 0)) (some (q.time 0)) none
    last_use (suc i) = λ y. next (last_use i) i y

    -- the mark of request i, from 1
    unfoldable pub mark : ℕ → Mark
    mark i = pick (near (last_use (pred i)) (pred i)) K S

    -- server y holds over second τ, where request i is the last before τ: the server of request i, any other up to its last use plus W
    unfoldable pub holds : ℕ → ℕ → ℕ → Bool
    holds i y τ = either (eqb y (q.server i)) (recent (last_use i y) τ)

    -- server y holds over second τ, not after request n
    unfoldable pub over : ℕ → ℕ → ℕ → ℕ
    over n τ y = pick (holds (before q n τ) y τ) 1 0

    -- the seconds held by the servers below `count` up to request n: the number of those that hold, summed over the seconds
    unfoldable pub held : ℕ → ℕ → ℕ
    held count n = sum (q.time n) (λ τ. across count (over n τ))

    -- the transfers among the first n requests
    unfoldable pub transfers : ℕ → ℕ
    transfers n = sent mark n

    -- what is left of the window of server y's last use when request n has been served
    unfoldable pub remaining : ℕ → ℕ → ℕ
    remaining n y = left_of (last_use n y) (q.time n)

-- the running cost of the first n requests at prices p
unfoldable pub running_cost : Prices → Requests → ℕ → ℕ → ℕ
running_cost p q count n = p.hold * held (window p) q count n + p.transfer * transfers (window p) q n

-- their closing cost: each copy is held to its end
unfoldable pub closing_cost : Prices → Requests → ℕ → ℕ → ℕ
closing_cost p q count n = running_cost p q count n + p.hold * across count (remaining (window p) q n)
