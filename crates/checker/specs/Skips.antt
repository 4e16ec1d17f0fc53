-- The servers of a set one after the other: those between two of them add no hold.
use Rattle.std.specs.Prelude.{false, List, ◌⊎◌, ◌≡◌, ℕ, zero, suc, ◌+◌, ◌-◌, ◌/◌, ◌%◌, ◌^◌, ◌≤◌, ◌<◌, eqb}
use Rattle.std.proofs.Common.{inl, inr, sym, ap, ◌∙◌, arith, shr-shr}
use Rattle.base.specs.Choice.{le_or_lt}
use Rattle.base.specs.Sets.{has, lowest}
use Rattle.base.specs.SetLaws.{has_over}
use Rattle.base.specs.LowestLaws.{lowest_is}
use Rattle.checker.specs.Quick.{with_hold, gather}

-- no server from x on and below y is in the set
unfoldable pub Skips : ℕ → ℕ → ℕ → Type 0
Skips some x y = (k : ℕ) → x ≤ k → k < y → has some k ≡ false

-- so with those below y the holds are as with those below x
pub gather_skip : (ns : List ℕ) (τ some w x y : ℕ) → x ≤ y → Skips some x y → gather ns τ some w y ≡ gather ns τ some w x
unfolding Skips gather with_hold
gather_skip ns τ some w x zero l s = let e : x ≡ 0 = omega arith in rw e
gather_skip ns τ some w x (suc y) l s = go (le_or_lt x y) (gather_skip ns τ some w x y)
  where
    go : (x ≤ y) ⊎ (y < x) → (x ≤ y → ((k : ℕ) → x ≤ k → k < y → has some k ≡ false) → gather ns τ some w y ≡ gather ns τ some w x)
        → gather ns τ some w (suc y) ≡ gather ns τ some w x
    go (inl h) r = rw (s y h (omega arith)) (r h (λ k a b. s k a (omega arith)))
    go (inr h) r = let e : x ≡ suc y = omega arith in rw e

-- none is below the lowest of what is left from x on, which is at most 64
pub skips_lowest : (some x r y : ℕ) → r ≡ lowest 64 (has (some / 2 ^ x)) → y ≤ x + r → Skips some x y
unfolding Skips has
skips_lowest some x r y d l k a b =
    let e : x + (k - x) ≡ k = omega arith in
    let n : eqb (some / 2 ^ x / 2 ^ (k - x) % 2) 1 ≡ false = (lowest_is 64 (has (some / 2 ^ x))).none (k - x) (omega arith) in
    ap (λ (i : ℕ). eqb (some / 2 ^ i % 2) 1) (sym e) ∙ ap (λ (n : ℕ). eqb (n % 2) 1) (sym (shr-shr some x (k - x))) ∙ n

pub lowest_most : (r w : ℕ) → r ≡ lowest 64 (has w) → r ≤ 64
lowest_most r w e = rw e (lowest_is 64 (has w)).within

-- none is from 64 on
pub skips_high : (some x y : ℕ) → some < 2 ^ 64 → 64 ≤ x → Skips some x y
unfolding Skips
skips_high some x y h l k a b = has_over 64 some k h (omega arith)
