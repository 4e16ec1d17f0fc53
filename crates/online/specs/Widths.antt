-- What the running cost stays below, for the code's widths.
use Rattle.std.proofs.Common.{mul-le-mul, arith}
use Rattle.std.specs.Prelude.{◌≤◌, ◌<◌, ◌^◌}
use Rattle.prices.specs.Prices.{InRange}
use Rattle.online.specs.declared.Cache.{Cache}
use Rattle.online.specs.Rules.{running}

-- it fits 64 bits, as its counts fit 32
pub running_fits : (c : Cache) → InRange c.prices → c.held < 2 ^ 32 → c.transfers < 2 ^ 32 → running c < 2 ^ 64
unfolding running
running_fits c p h t =
    let held : c.held ≤ 4294967295 = omega arith in
    let transfers : c.transfers ≤ 4294967295 = omega arith in
    omega (arith, mul-le-mul p.hold_most held, mul-le-mul p.transfer_most transfers)
