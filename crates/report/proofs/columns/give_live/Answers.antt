-- `report::columns::give_live` meets its contract. Assumes nothing.
use Rattle.live.specs.Live.{live_mark, live_cost}
use Rattle.base.specs.LentLaws.{lent_front}
use Rattle.base.specs.Lists.{build, build_length}
use native.Mathlib.Omega.{arith}
use mathlib.Core.Path.{◌∙◌}
use Rattle.report.proofs.columns.give_live.Goals as goal

pub returns : goal.returns
returns c =
    let a = c.args in
    let x = a.seconds.now in
    let y = a.servers.now in
    let m = build a.n (live_mark a.cache a.id x y) in
    let k = build a.n (live_cost a.cache a.id x y) in
    record { value = c.replay-end.ensures.value; marks_after = c.clear.ensures ∙ rw c.replay-end.ensures.marks_after (lent_front m a.marks.now a.n (build_length a.n (live_mark a.cache a.id x y)) (omega arith)); costs_after = c.clear-2.ensures ∙ rw c.replay-end.ensures.costs_after (lent_front k a.costs.now a.n (build_length a.n (live_cost a.cache a.id x y)) (omega arith)) }
