-- `online::Cache::accept` meets its contract. Assumes nothing.
use borrow.Author.Rules.{rules}
use borrow.Author.Tests.{lt-ltb}
use mathlib.Core.Bool.{Bool, true, false, not}
use Rattle.std.specs.Int.{from_bool}
use mathlib.Core.Path.{◌≡◌, refl, ap, ◌∙◌}
use Prim.Native.Nat.{ℕ, suc, ◌+◌, ◌<◌, ◌^◌}
use native.Mathlib.Omega.{arith}
use native.Mathlib.Numerals.{add-one}
use lib.Dec.{ltb}
use lib.ListN.{length-set}
use Rattle.base.specs.Choice.{pick}
use Rattle.base.specs.Sets.{has, put, cut, members}
use Rattle.base.specs.SetLaws.{members_cut}
use Rattle.base.specs.Lists.{build}
use Rattle.online.specs.Servers.{across, set_of}
use Rattle.online.specs.Rules.{use_at, stands, next_use, seconds, accept}
use Rattle.online.specs.Walk.{given, list_first, list_next, list_last, set_first, set_next, set_last, sum_first, sum_next, sum_last, sum_most}
use Rattle.online.specs.Untouched.{Untouched, untouched, no_next_use, no_stand, no_seconds, seconds_most}
use Rattle.online.proofs.Cache.accept.Goals as goal
use Rattle.online.proofs.Cache.accept.Goals.{then-stands, else-stands}

-- one transfer more where the request is S
one_more : (kept : Bool) (n : ℕ) → n + from_bool (not kept) ≡ pick kept n (suc n)
one_more true n = omega arith
one_more false n = omega arith

pub loop-left-init : goal.loop-left-init
loop-left-init c =
    let a = c.args in
    let p = c.requires in
    let below : a.q.server < 64 = omega (arith, p.2.counted, p.2.intact.count_most) in
    let own : c.put-left.result ≡ pick (ltb a.q.server 64) (put a.o.holders a.q.server) a.o.holders = c.put-left.ensures in
    let e : c.put-left.result ≡ put a.self.holders a.q.server = own ∙ rw (lt-ltb _ _ below, p.0.holders) in
    let idle : (y : ℕ) → has c.put-left.result y ≡ false → Untouched a.self a.q.server y = λ y h. untouched a.self a.q.server y p.2.intact (rw e at h) in (
      refl,
      list_first 64 c.put-left.result (next_use a.self a.q.second a.q.server) (λ y h. no_next_use a.self a.q.second a.q.server y (idle y h)),
      set_first 64 c.put-left.result (stands a.self a.q.second a.q.server) (λ y h. no_stand a.self a.q.second a.q.server y (idle y h)),
      sum_first 64 c.put-left.result (seconds a.self a.q.second) (λ y h. no_seconds a.self a.q.second a.q.server y (idle y h)),
    )

pub overflow_add-held : goal.overflow_add-held
unfolding use_at
overflow_add-held c =
    let l = c.loop-left in
    let a = c.args in
    let p = c.requires in
    let y = c.member-y.result in
    let f = seconds a.self a.q.second in
    let e : c.seconds-held.result ≡ f y = c.seconds-held.ensures a.self p.0 (rw c.from-at.ensures) in
    let fits : l.held + c.seconds-held.result < 2 ^ 32 = omega (
      arith,
      e,
      l.invariant.3,
      sum_next 64 l.left f y c.member-y.ensures.1 c.member-y.ensures.0,
      sum_most 64 (cut l.left y) a.q.second f (λ y l. seconds_most a.self a.q.second y),
      p.2.second_most,
    ) in
    search rules

pub loop-left-smaller : goal.loop-left-smaller
loop-left-smaller c =
    omega (arith, ap (members 64) c.cut-left.ensures, members_cut 64 c.loop-left.left c.member-y.result c.member-y.ensures.1 c.member-y.ensures.0)

pub loop-left-preserved : goal.loop-left-preserved
unfolding use_at
loop-left-preserved c =
    let l = c.loop-left in
    let a = c.args in
    let p = c.requires in
    let y = c.member-y.result in
    let i = c.from-at.ensures in
    let f = next_use a.self a.q.second a.q.server in
    let g = stands a.self a.q.second a.q.server in
    let h = seconds a.self a.q.second in
    let used : c.next_use.result ≡ f y = c.next_use.ensures a.self p.0 (rw i) p.1 in
    let copy : c.stands.result ≡ g y = c.stands.ensures a.self p.0 (rw i) p.1 in
    let held : c.seconds-held.result ≡ h y = c.seconds-held.ensures a.self p.0 (rw i) in
    let taken : c.if-stands.holders ≡ pick c.stands.result (put l.holders y) l.holders = elim c.if-stands.branch [
      | then-stands w ↦ rw (w.holders-is, w.put-holders.ensures, lt-ltb _ _ c.member-y.ensures.1, w.if-stands.true)
      | else-stands w ↦ rw (w.holders-is, w.if-stands.false)
    ] in
    let all : l.held + c.seconds-held.result ≡ across 64 (given 0 (cut l.left y) h) = omega (
      arith,
      held,
      l.invariant.3,
      sum_next 64 l.left h y c.member-y.ensures.1 c.member-y.ensures.0,
    ) in (
      simp length-set l.invariant.0,
      rw (c.cut-left.ensures, used, i, l.invariant.1) (list_next 64 l.left f y),
      rw (c.cut-left.ensures, taken, copy, l.invariant.2) (set_next 64 l.left g y c.member-y.ensures.1 c.member-y.ensures.0),
      rw c.cut-left.ensures all,
    )

pub overflow_add-result-3 : goal.overflow_add-result-3
overflow_add-result-3 c =
    let l = c.loop-left in
    let a = c.args in
    let p = c.requires in
    let fits : a.self.held + l.held < 2 ^ 32 = omega (
      arith,
      l.invariant.3,
      sum_most 64 l.left a.q.second (seconds a.self a.q.second) (λ y l. seconds_most a.self a.q.second y),
      p.2.second_most,
      p.2.intact.held_most,
    ) in
    search rules

pub returns : goal.returns
unfolding accept
returns c =
    let l = c.loop-left in
    let a = c.args in
    let p = c.requires in
    let none : l.left ≡ 0 = omega (arith, c.loop-left-test.false) in
    let f = next_use a.self a.q.second a.q.server in
    let g = stands a.self a.q.second a.q.server in
    let h = seconds a.self a.q.second in
    let used : l.last_use ≡ build 64 f = rw none at l.invariant.1 ∙ list_last 64 f in
    let copies : l.holders ≡ set_of 64 g = rw none at l.invariant.2 ∙ set_last 64 g in
    let held : l.held ≡ across 64 h = rw none at l.invariant.3 ∙ sum_last 64 h in
    rw (used, copies, held, ← p.1.mark, ← add-one a.self.requests, c.from.ensures, one_more a.q.kept)
