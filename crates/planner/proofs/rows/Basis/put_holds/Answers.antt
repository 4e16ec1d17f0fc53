-- `planner::rows::Basis::put_holds` meets its contract: when the loop stands at y, the holds of the servers below y are in place. Assumes nothing.
use native.Mathlib.Omega.{arith}
use native.Mathlib.Numerals.{add-one}
use Rattle.model.specs.Marking.{hold_rows}
use Rattle.planner.specs.RowWriting.{put_none, put_next}
use Rattle.planner.specs.Basis.{asked, held}
use Rattle.planner.specs.WordRows.{word_holds}
use Rattle.planner.proofs.rows.Basis.put_holds.Goals as goal

pub loop-y-init : goal.loop-y-init
unfolding word_holds
loop-y-init c = (omega arith, put_none 0 c.args.out.now)

pub loop-y-preserved : goal.loop-y-preserved
unfolding word_holds
loop-y-preserved c =
    let l = c.loop-y in
    let b = c.args.self.now in
    let x = c.put_server-next in
    let h = put_next 0 (word_holds (asked b) b.words.now b.n l.y) (hold_rows (asked b) (held b l.y) b.n l.y b.n) c.args.out.now l.next x.result l.out _ l.invariant.1 x.ensures.1.0 x.ensures.1.1 in
    rw (add-one l.y) (omega arith, h)
