-- `planner::rows::Basis::put_server` meets its contract: when the loop stands at k, the holds that begin with gaps 1 to k are in place. Assumes nothing.
use native.Mathlib.Omega.{arith}
use native.Mathlib.Numerals.{add-one}
use Rattle.model.specs.Marking.{hold_rows}
use Rattle.planner.specs.RowWriting.{put_none, put_more}
use Rattle.planner.specs.Basis.{asked, held}
use Rattle.planner.specs.WordRows.{new_hold}
use Rattle.planner.proofs.rows.Basis.put_server.Goals as goal

pub loop-k-init : goal.loop-k-init
unfolding hold_rows
loop-k-init c = (omega arith, put_none c.args.at c.args.out.now)

pub loop-k-preserved : goal.loop-k-preserved
unfolding hold_rows new_hold
loop-k-preserved c =
    let l = c.loop-k in
    let a = c.args in
    let h = put_more a.at (hold_rows (asked a.self.now) (held a.self.now a.y) a.self.now.n a.y l.k) _ _ a.out.now l.next l.out l.invariant.1 in
    (omega arith, rw (add-one l.k, c.put_row-next.ensures.next.0, c.put_row-next.ensures.placed, c.hold.ensures) h)
