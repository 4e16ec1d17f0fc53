-- `online::Cache::all_remaining` meets its contract. Assumes nothing.
use borrow.Author.Rules.{rules}
use mathlib.Core.Path.{◌≡◌, ap, ◌∙◌}
use native.Mathlib.Omega.{arith}
use Prim.Native.Nat.{◌+◌, ◌<◌, ◌^◌}
use Rattle.base.specs.Sets.{cut, members}
use Rattle.base.specs.SetLaws.{members_cut}
use Rattle.online.specs.Servers.{across}
use Rattle.online.specs.Rules.{window_of, copy_at, use_at, remaining}
use Rattle.online.specs.Walk.{given, sum_first, sum_next, sum_last, sum_most}
use Rattle.online.specs.ClosingLaws.{window_most, remaining_none}
use Rattle.online.proofs.ClosingLaws.{remaining_most}
use Rattle.online.proofs.Cache.all_remaining.Goals as goal

pub loop-left-init : goal.loop-left-init
unfolding copy_at
loop-left-init c =
    let a = c.args in
    sum_first 64 a.o.holders (remaining a.self) (λ y h. remaining_none a.self y (rw c.requires.1.holders at h))

pub overflow_add-sum : goal.overflow_add-sum
unfolding use_at
overflow_add-sum c =
    let l = c.loop-left in
    let a = c.args in
    let p = c.requires in
    let y = c.member-y.result in
    let f = remaining a.self in
    let e : c.remaining-sum.result ≡ f y = c.remaining-sum.ensures a.self p.1 (rw c.from.ensures) in
    let fits : l.sum + c.remaining-sum.result < 2 ^ 64 = omega (
      arith,
      e,
      l.invariant,
      window_most a.self p.0,
      sum_next 64 l.left f y c.member-y.ensures.1 c.member-y.ensures.0,
      sum_most 64 (cut l.left y) (window_of a.self) f (remaining_most a.self p.0),
    ) in
    search rules

pub loop-left-smaller : goal.loop-left-smaller
loop-left-smaller c =
    omega (arith, ap (members 64) c.cut-left.ensures, members_cut 64 c.loop-left.left c.member-y.result c.member-y.ensures.1 c.member-y.ensures.0)

pub loop-left-preserved : goal.loop-left-preserved
unfolding use_at
loop-left-preserved c =
    let l = c.loop-left in
    let a = c.args in
    let y = c.member-y.result in
    let f = remaining a.self in
    let e : c.remaining-sum.result ≡ f y = c.remaining-sum.ensures a.self c.requires.1 (rw c.from.ensures) in
    let all : l.sum + c.remaining-sum.result ≡ across 64 (given 0 (cut l.left y) f) = omega (
      arith,
      e,
      l.invariant,
      sum_next 64 l.left f y c.member-y.ensures.1 c.member-y.ensures.0,
    ) in
    rw c.cut-left.ensures all

pub returns : goal.returns
returns c =
    let l = c.loop-left in
    let none : l.left ≡ 0 = omega (arith, c.loop-left-test.false) in
    rw none at l.invariant ∙ sum_last 64 (remaining c.args.self)
