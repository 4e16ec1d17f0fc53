-- `quote::requests::sum_part` meets its contract. Assumes nothing.
use borrow.Author.Rules.{rules}
use native.Mathlib.Numerals.{add-one}
use native.Mathlib.Omega.{arith}
use Prim.Native.Nat.{suc, ◌<◌}
use mathlib.Core.Path.{refl, ◌∙◌}
use Rattle.request_log.specs.Fields.{home_of, request_count}
use Rattle.request_log.specs.RequestLaws.{request_part}
use Rattle.model.specs.Sums.{sum}
use Rattle.quote.specs.Lasts.{lasts_zero, request_there, server_small, lasts_next, sum_next}
use Rattle.quote.specs.Most.{sum_most}
use Rattle.quote.proofs.requests.sum_part.Goals as goal

pub bounds-lasts-from : goal.bounds-lasts-from
unfolding home_of
bounds-lasts-from c =
    let s = c.requires.1.setup in
    omega (arith, c.from.ensures, c.at.ensures, s.home_below, s.servers_most)

pub loop-k-init : goal.loop-k-init
unfolding home_of request_count sum
loop-k-init c = (c.at16-k-end.ensures, rw (c.from.ensures, c.at.ensures) (lasts_zero c.args.log.now), refl)

pub slice_bounds-request_in-end : goal.slice_bounds-request_in-end
slice_bounds-request_in-end c =
    let h : c.loop-k.k < request_count c.args.log.now = omega (arith, c.loop-k.invariant.0) in
    let there = request_there c.args.log.now c.requires.1 c.loop-k.k h in
    search rules

pub add_request-sum-requires : goal.add_request-sum-requires
add_request-sum-requires c =
    let k = c.loop-k.k in
    let h : k < request_count c.args.log.now = omega (arith, c.loop-k.invariant.0) in
    let read = request_part c.args.log.now k _ c.request_place-i.ensures in
    rw (c.request_in.ensures.1 ∙ read.1) (server_small c.args.log.now c.requires.1 k h)

pub overflow_add-sum : goal.overflow_add-sum
overflow_add-sum c =
    let l = c.loop-k in
    let log = c.args.log.now in
    let h : l.k < request_count log = omega (arith, l.invariant.0) in
    let read = request_part log l.k _ c.request_place-i.ensures in
    let added = rw (c.request_in.ensures.0 ∙ read.0, c.request_in.ensures.1 ∙ read.1) at c.add_request-sum.ensures.value in
    let e = sum_next log c.requires.1 l.k h c.args.p _ _ _ l.invariant.1 l.invariant.2 added in
    record { fits = omega (arith, e, sum_most c.args.p c.requires.0 log c.requires.1 (suc l.k) h) }

pub loop-k-preserved : goal.loop-k-preserved
loop-k-preserved c =
    let l = c.loop-k in
    let log = c.args.log.now in
    let h : l.k < request_count log = omega (arith, l.invariant.0) in
    let read = request_part log l.k _ c.request_place-i.ensures in
    let second = c.request_in.ensures.0 ∙ read.0 in
    let server = c.request_in.ensures.1 ∙ read.1 in (
      l.invariant.0,
      rw (c.add_request-sum.ensures.lasts_after, l.invariant.1, second, server, add-one l.k) (lasts_next log c.requires.1 l.k h),
      rw (add-one l.k) (sum_next log c.requires.1 l.k h c.args.p _ _ _ l.invariant.1 l.invariant.2 (rw (second, server) at c.add_request-sum.ensures.value)),
    )
