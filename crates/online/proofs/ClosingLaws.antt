-- How much the closing cost can be.
use Rattle.std.specs.Prelude.{Bool, true, false, ◌≡◌, refl, ℕ, ◌+◌, ◌*◌, ◌≤◌, ◌<◌, ◌^◌}
use Rattle.std.proofs.Math.Nat.{mul-le-mul_left}
use native.Mathlib.Omega.{arith}
use Rattle.prices.specs.WindowLaws.{window_low}
use Rattle.online.specs.declared.Cache.{Cache}
use Rattle.online.specs.Servers.{across}
use Rattle.online.specs.ServerLaws.{across_le, across_const}
use Rattle.online.specs.Rules.{window_of, copy_at, running, remaining, closing}
use Rattle.online.specs.Intact.{Intact}
use Rattle.online.specs.ClosingLaws.{remaining_none, remaining_at}

module _ (c : Cache) (s : Intact c) where
  -- no copy has more left than a window
  pub remaining_most : (y : ℕ) → y < 64 → remaining c y ≤ window_of c
  remaining_most y h = go (copy_at c y) refl
    where
      go : (b : Bool) → copy_at c y ≡ b → remaining c y ≤ window_of c
      go true e = omega (arith, remaining_at c y e, (s.servers y h).by_then)
      go false e = omega (arith, remaining_none c y e)

  -- 64 of them no more than 64 windows
  all_remaining_most : across 64 (remaining c) ≤ 64 * window_of c
  all_remaining_most = omega (arith, across_le 64 (remaining c) (λ y. window_of c) remaining_most, across_const 64 (window_of c))

  -- each costs at most a transfer more: at the most there are 256,000,000 seconds held, 2,048 transfers, and 64 copies with a whole window
  pub closing_most : closing c ≤ c.prices.hold * 256000000 + c.prices.transfer * 2112
  unfolding closing running window_of
  closing_most =
      let transfers : c.transfers ≤ 2048 = omega (arith, s.transfers_most, s.requests_most) in
      omega (
        arith,
        mul-le-mul_left c.prices.hold s.held_most,
        mul-le-mul_left c.prices.transfer transfers,
        mul-le-mul_left c.prices.hold all_remaining_most,
        window_low c.prices,
      )

  -- that fits 64 bits
  pub closing_fits : closing c < 2 ^ 64
  closing_fits = omega (arith, closing_most, s.priced.hold_most, s.priced.transfer_most)
