-- `report::columns::replay` meets its contract. Assumes nothing.
use Rattle.live.specs.LiveLaws.{Runs, turn_next}
use Rattle.live.specs.Live.{scans, state_after, live_mark, live_cost}
use Rattle.bounds.specs.Calls.{run}
use Rattle.base.specs.LentLaws.{fill_next}
use Rattle.base.specs.Lists.{build}
use lib.ListN.{length-set}
use native.Mathlib.Omega.{arith}
use native.Mathlib.Numerals.{add-one}
use mathlib.Core.Path.{◌≡◌, refl, ◌∙◌}
use Rattle.report.proofs.columns.replay.Goals as goal

pub loop-i-init : goal.loop-i-init
unfolding state_after scans build run
loop-i-init c = (refl, refl, refl, refl, refl)

pub loop-i-preserved : goal.loop-i-preserved
unfolding Runs
loop-i-preserved c =
    let l = c.loop-i in
    let a = c.args in
    let x = a.seconds.now in
    let y = a.servers.now in
    let e = c.step-t.ensures ∙ turn_next a.cache a.id x y l.i l.state l.invariant.2 (c.requires.0 l.i (omega arith)) in (
      simp length-set (omega arith),
      simp length-set (omega arith),
      rw (add-one l.i, e),
      rw (add-one l.i, l.invariant.3, e) (fill_next (live_mark a.cache a.id x y) l.i a.marks.now (omega arith)),
      rw (add-one l.i, l.invariant.4, e) (fill_next (live_cost a.cache a.id x y) l.i a.costs.now (omega arith)),
    )

pub returns : goal.returns
returns c =
    let l = c.loop-i in
    let e : l.i ≡ c.args.n = omega arith in
    record { value = rw e at l.invariant.2; marks_after = rw e at l.invariant.3; costs_after = rw e at l.invariant.4 }
