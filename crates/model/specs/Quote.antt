-- The quote of 02's Req 07: a figure for requests without a plan of them. Assumes nothing.
use Rattle.std.proofs.Math.Option.{none, some}
use Rattle.std.specs.Prelude.{ℕ, ◌+◌, ◌-◌, ◌*◌, min}
use Rattle.prices.specs.declared.Prices.{Prices}
use Rattle.model.specs.Sums.{sum}
use Rattle.model.specs.Requests.{Requests, previous}

module _ (p : Prices) (q : Requests) where
  -- for request i the smaller of the transfer price and the hold price × the seconds since its server's previous request, of which home has one at
  -- second 0, or the transfer price where there was none
  unfoldable pub least_own : ℕ → ℕ
  least_own i = elim (previous q i) [ none ↦ p.transfer | some j ↦ min p.transfer (p.hold * (q.time i - q.time j)) ]

  -- their sum over the first n requests
  abbrev pub sum_part : ℕ → ℕ
  sum_part n = sum n least_own

  -- the hold price × the second of the last of them; 0 where there is none
  abbrev pub hold_part : ℕ → ℕ
  hold_part n = p.hold * q.time n

  -- the quote of the first n requests
  unfoldable pub quote_of : ℕ → ℕ
  quote_of n = sum_part n + hold_part n
