-- `checker::standing::standing` meets its contract. Assumes nothing.
use Rattle.checker.specs.QuickSteps.{standing_read}
use Rattle.checker.proofs.standing.standing.Goals as goal

pub returns : goal.returns
returns c =
    let a = c.args in
    standing_read a.s.now.count a.s.now.home a.s.now.rows.ns.now a.t _ _ _ _ _ _ c.from_second-from.ensures c.after_second-to.ensures c.servers_of-some.ensures c.uploaded-w.ensures c.gather-w.ensures c.settled.ensures
