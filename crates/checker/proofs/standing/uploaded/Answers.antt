-- `checker::standing::uploaded` meets its contract. Assumes nothing.
use Rattle.model.specs.Checking.{row_count}
use Rattle.checker.specs.QuickSteps.{uploads_none, uploads_read}
use Rattle.checker.proofs.standing.uploaded.Goals as goal

pub returns-then-s : goal.returns-then-s
unfolding row_count
returns-then-s c =
    uploads_none c.args.s.now.home c.args.s.now.rows.ns.now c.args.s.now.rows.in_order c.args.t c.args.s.now.uploads _ c.args.s.now.first c.if-s.true c.start-w.ensures

pub returns : goal.returns
returns c =
    let a = c.args in
    uploads_read a.s.now.home a.s.now.rows.ns.now a.t _ _ _ _ c.from_upload-from.ensures c.from_upload-to.ensures c.start-w.ensures c.servers_of.ensures
