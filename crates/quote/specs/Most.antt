-- How much each part of a log's quote is at most.
use Rattle.std.specs.Prelude.{List, ℕ, ◌≤◌}
use Rattle.std.proofs.Math.Nat.{mul-le-mul}
use Rattle.std.proofs.Common.{arith}
use Rattle.prices.specs.declared.Prices.{Prices}
use Rattle.prices.specs.Prices.{InRange}
use Rattle.request_log.specs.Fields.{request_count}
use Rattle.request_log.specs.Ranges.{Sound}
use Rattle.model.proofs.Bounds.{owns_most}
use Rattle.model.specs.LogRequests.{requests_in}
use Rattle.model.proofs.LogRequestLaws.{sound_seconds}
use Rattle.model.specs.Quote.{sum_part, hold_part}
use Rattle.model.specs.Rates.{rates, plain}

module _ (p : Prices) (range : InRange p) (log : List ℕ) (sound : Sound log) where
  -- a transfer of 1,000,000 for each of 2,048 requests
  pub sum_most : (k : ℕ) → k ≤ request_count log → sum_part p (requests_in log) k ≤ 2048000000
  unfolding rates
  sum_most k h =
      let n : k ≤ 2048 = omega (arith, sound.requests_most) in
      omega (arith, owns_most (plain p) (requests_in log) k, mul-le-mul range.transfer_most n)

  -- 1,000,000 for each of 4,000,000 seconds
  pub hold_most : hold_part p (requests_in log) (request_count log) ≤ 4000000000000
  hold_most = omega (arith, mul-le-mul range.hold_most (sound_seconds log sound (request_count log) (omega arith)))
