-- The window between its two bounds: holding that long costs at most a transfer, and one second longer costs more. Assumes nothing.
use Rattle.std.specs.Prelude.{◌+◌, ◌*◌, ◌≤◌, ◌<◌}
use Rattle.std.proofs.Common.{div-mul-le_self, mul_comm}
use Rattle.std.proofs.Math.Nat.{lt-mul-div-succ}
use Rattle.prices.specs.declared.Prices.{Prices}
use Rattle.prices.specs.Prices.{window}

-- holding for the window costs at most a transfer
pub window_low : (p : Prices) → p.hold * window p ≤ p.transfer
unfolding window
window_low p = rw mul_comm (div-mul-le_self p.transfer p.hold)

-- and for one second more it costs more
pub window_high : (p : Prices) → 1 ≤ p.hold → p.transfer < p.hold * (window p + 1)
unfolding window
window_high p h = lt-mul-div-succ p.transfer h
