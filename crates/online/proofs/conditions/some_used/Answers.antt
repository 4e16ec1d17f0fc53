-- `online::conditions::some_used` meets its contract. Assumes nothing.
use borrow.Author.Rules.{rules}
use mathlib.Core.Path.{◌≡◌, refl}
use Prim.Native.Nat.{ℕ}
use native.Mathlib.Omega.{arith}
use native.Mathlib.Numerals.{add-one}
use lib.ListN.{get_or}
use Rattle.model.specs.Sums.{sum}
use Rattle.online.specs.Servers.{across}
use Rattle.online.specs.Looked.{across_next, some_not_zero}
use Rattle.online.proofs.conditions.some_used.Goals as goal

pub loop-used-init : goal.loop-used-init
unfolding across sum
loop-used-init c = (refl, search rules)

pub loop-used-preserved : goal.loop-used-preserved
loop-used-preserved c =
    let l = c.loop-used in
    let f : ℕ → ℕ = λ y. get_or c.args.last_use.now y 0 in
    (rw (add-one l.used-index, across_next l.used-index f, ← l.invariant.0, c.from-sum.ensures), search rules)

pub returns : goal.returns
returns c =
    let l = c.loop-used in
    let e : l.used-index ≡ 64 = omega arith in
    rw (rw e at l.invariant.0) (some_not_zero 64 (λ y. get_or c.args.last_use.now y 0))
