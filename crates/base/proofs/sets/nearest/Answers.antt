-- `base::sets::nearest` meets its contract: the counts of zeros on both sides of t tell which member is nearest. Assumes nothing.
use borrow.Author.Rules.{rules}
use mathlib.Core.Path.{sym, ap, ◌∙◌}
use Prim.Native.Nat.{ℕ, ◌+◌, ◌-◌, ◌≤◌}
use native.Mathlib.Omega.{arith}
use lib.Count.{count_leading_zeros, leading_le}
use mir.Syntax.{w32}
use mir.Val.{Fits}
use Rattle.base.specs.Sets.{has}
use Rattle.base.specs.LowestLaws.{lowest_is}
use Rattle.base.specs.Nearest.{nearest}
use Rattle.base.specs.NearestWord.{nearest_empty, nearest_past, below_nearest, from_nearest}
use Rattle.base.proofs.sets.nearest.Goals as goal

pub returns-then-w-eq0 : goal.returns-then-w-eq0
returns-then-w-eq0 c =
    let a = c.args in
    sym (ap (λ (x : ℕ). nearest 64 (has x) a.t) c.if-w-eq0.true ∙ nearest_empty 64 a.t)

pub overflow_sub-result : goal.overflow_sub-result
overflow_sub-result c =
    omega (arith, nearest_past 64 c.args.w c.args.t (omega (arith, c.if-w-eq0.false)) c.ranges.w.fits c.if-t-ge64.true)

pub returns-then-t-ge64 : goal.returns-then-t-ge64
returns-then-t-ge64 c =
    omega (arith, nearest_past 64 c.args.w c.args.t (omega (arith, c.if-w-eq0.false)) c.ranges.w.fits c.if-t-ge64.true)

-- a count of zeros is at most 64
counted : (x : ℕ) → Fits w32 (count_leading_zeros 64 x + 1)
counted x = let few = leading_le 64 x in record { fits = omega arith }

pub overflow_add-behind : goal.overflow_add-behind
overflow_add-behind c = counted _

pub overflow_sub-result-then-behind-ahead : goal.overflow_sub-result-then-behind-ahead
overflow_sub-result-then-behind-ahead c =
    omega (
      arith,
      c.from-at.ensures,
      below_nearest 64 c.args.t (63 - c.args.t) c.args.w (omega (arith, c.if-t-ge64.false)) c.ranges.w.fits (omega (arith, c.lowest-ahead.ensures, c.if-behind-ahead.true)),
    )

pub returns-then-behind-ahead : goal.returns-then-behind-ahead
returns-then-behind-ahead c =
    omega (
      arith,
      c.from-at.ensures,
      below_nearest 64 c.args.t (63 - c.args.t) c.args.w (omega (arith, c.if-t-ge64.false)) c.ranges.w.fits (omega (arith, c.lowest-ahead.ensures, c.if-behind-ahead.true)),
    )

pub overflow_add-result : goal.overflow_add-result
overflow_add-result c =
    let few : c.lowest-ahead.result ≤ 64 = rw c.lowest-ahead.ensures (lowest_is 64 (has _)).within in
    search rules

pub returns : goal.returns
returns c =
    rw (c.from-at.ensures, c.lowest-ahead.ensures)
    (sym (from_nearest 64 c.args.t (63 - c.args.t) c.args.w (omega (arith, c.if-t-ge64.false)) c.ranges.w.fits
    (omega (arith, c.if-w-eq0.false)) (omega (arith, c.lowest-ahead.ensures, c.if-behind-ahead.false))))
