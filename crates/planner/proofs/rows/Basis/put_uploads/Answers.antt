-- `planner::rows::Basis::put_uploads` meets its contract: when the loop stands at k, the uploads to requests 1 to k are in place. Assumes nothing.
use native.Mathlib.Omega.{arith}
use native.Mathlib.Numerals.{add-one}
use Rattle.model.specs.Marking.{uploads}
use Rattle.planner.specs.RowWriting.{put_none, put_more}
use Rattle.planner.specs.Basis.{asked, marked}
use Rattle.planner.specs.WordRows.{new_upload}
use Rattle.planner.proofs.rows.Basis.put_uploads.Goals as goal

pub loop-k-init : goal.loop-k-init
unfolding uploads
loop-k-init c = (omega arith, put_none c.args.at c.args.out.now)

pub loop-k-preserved : goal.loop-k-preserved
unfolding uploads new_upload
loop-k-preserved c =
    let l = c.loop-k in
    let a = c.args in
    let h = put_more a.at (uploads (asked a.self.now) (marked a.self.now) l.k) _ _ a.out.now l.next l.out l.invariant.1 in
    (omega arith, rw (add-one l.k, c.put_row-next.ensures.next.0, c.put_row-next.ensures.placed, c.upload.ensures) h)
