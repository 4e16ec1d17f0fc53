-- The least cost is at least each part of the quote, and at most both together: for all prices.
use Rattle.std.specs.Prelude.{◌≡◌, refl, ℕ, ◌≤◌}
use Rattle.std.proofs.Common.{◌∙◌, arith}
use Rattle.prices.specs.declared.Prices.{Prices}
use Rattle.model.specs.Rates.{rates, plain}
use Rattle.model.specs.Requests.{Requests, Rising, Within}
use Rattle.model.specs.Quote.{sum_part, hold_part, quote_of}
use Rattle.model.specs.Least.{Least}
use Rattle.model.specs.Plan.{plan_cost}
use Rattle.model.proofs.PlanLaws.{plan_best}
use Rattle.model.proofs.PlanLeast.{least_once, plan_least}
use Rattle.model.specs.Table.{best}
use Rattle.model.proofs.Bounds.{best_bounded, best_most}

module _ (p : Prices) (count : ℕ) (q : Requests) (n least : ℕ) (rising : Rising q n) (within : Within count q n) (l : Least (plain p) count q n least) where
  -- it is the table's
  least_best : least ≡ best (plain p) q n n
  least_best = least_once (plain p) count q n least (plan_cost (plain p) q n) l (plan_least (plain p) count q n rising within) ∙ plan_best (plain p) q n

  -- each request costs its own
  pub sum_below : sum_part p q n ≤ least
  unfolding rates
  sum_below = omega (arith, least_best, (best_bounded (plain p) q n rising refl).owns n n)

  -- one copy is held throughout
  pub hold_below : hold_part p q n ≤ least
  unfolding rates
  hold_below = omega (arith, least_best, (best_bounded (plain p) q n rising refl).holds n n (omega arith) (omega arith))

  -- and no more is needed
  pub quote_above : least ≤ quote_of p q n
  unfolding quote_of rates
  quote_above = omega (arith, least_best, best_most (plain p) q n rising n (omega arith))
