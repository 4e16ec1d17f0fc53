-- `checker::copies::unfed` meets its contract. Assumes nothing.
use Rattle.model.specs.Checking.{row_count}
use Rattle.checker.specs.Quick.{unfed}
use Rattle.checker.specs.CopySteps.{unfed_read}
use Rattle.checker.proofs.copies.unfed.Goals as goal

pub returns-then-member : goal.returns-then-member
unfolding unfed row_count
returns-then-member c = rw (← c.member.ensures, c.if-member.true)

pub returns-then-starts : goal.returns-then-starts
returns-then-starts c =
    let a = c.args in
    rw (unfed_read a.rows.ns.now a.w a.t a.x _ _ _ _ c.member.ensures c.after_holds-p.ensures c.row.ensures c.starts.ensures, c.if-member.false, c.if-starts.true)

pub returns : goal.returns
unfolding row_count
returns c =
    let a = c.args in
    rw (unfed_read a.rows.ns.now a.w a.t a.x _ _ _ _ c.member.ensures c.after_holds-p.ensures c.row.ensures c.starts.ensures, c.if-member.false, c.if-starts.false)
