-- `online::state::Outline::servers_broken` meets its contract. Assumes nothing.
use borrow.Author.Rules.{rules}
use mathlib.Core.Bool.{true, false}
use mathlib.Core.Path.{◌≡◌, sym, ap, ◌∙◌}
use native.Mathlib.Omega.{arith}
use lib.ListN.{get_or, length-set}
use Rattle.base.specs.Sets.{members}
use Rattle.base.specs.SetLaws.{members_cut}
use Rattle.online.specs.Rules.{use_at}
use Rattle.online.specs.Conditions.{server_broken}
use Rattle.online.specs.ConditionLaws.{some_server_one}
use Rattle.online.specs.Looked.{looked_first, looked_next, looked_last}
use Rattle.online.proofs.state.Outline.servers_broken.Goals as goal

pub loop-left-init : goal.loop-left-init
loop-left-init c = (search rules, λ s l e. rw (l.holders, ← e) (looked_first s (rw e (search rules))))

pub returns-then-server_broken : goal.returns-then-server_broken
returns-then-server_broken c = λ s o u.
    let l = c.loop-left in
    let y = c.member-y.result in
    let used : get_or l.rest c.from-at.result 0 ≡ use_at s y =
    rw c.from-at.ensures ((l.invariant.1 s o u).waits y c.member-y.ensures.0) in
    let e : server_broken s y ≡ true = sym (c.server_broken.ensures s o used) ∙ c.if-server_broken.true in
    sym (some_server_one 64 (server_broken s) y c.member-y.ensures.1 e)

pub loop-left-smaller : goal.loop-left-smaller
loop-left-smaller c =
    omega (arith, ap (members 64) c.cut-left.ensures, members_cut 64 c.loop-left.left c.member-y.result c.member-y.ensures.1 c.member-y.ensures.0)

pub loop-left-preserved : goal.loop-left-preserved
loop-left-preserved c =
    let l = c.loop-left in
    let y = c.member-y.result in
    let at = c.from-at in (
      length-set l.rest at.result 0 ∙ l.invariant.0,
      λ s o u.
          let i = l.invariant.1 s o u in
          let used : get_or l.rest at.result 0 ≡ use_at s y = rw at.ensures (i.waits y c.member-y.ensures.0) in
          let e : server_broken s y ≡ false = sym (c.server_broken.ensures s o used) ∙ c.if-server_broken.false in
          rw (c.cut-left.ensures, at.ensures) (looked_next s l.left l.rest y i c.member-y.ensures.0 c.member-y.ensures.1 e),
    )

pub returns : goal.returns
returns c = λ s o u.
    let l = c.loop-left in
    let z : l.left ≡ 0 = omega arith in
    c.some_used.ensures ∙ looked_last s l.rest (rw z at (l.invariant.1 s o u))
