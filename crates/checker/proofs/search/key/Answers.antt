-- `checker::search::key` meets its contract. Assumes nothing.
use native.Mathlib.Omega.{arith}
use Rattle.rows.specs.ReadingLaws.{row_hold}
use Rattle.checker.specs.Search.{key, hold_key}
use Rattle.checker.specs.SearchLaws.{move_key}
use Rattle.checker.proofs.search.key.Goals as goal

pub returns-then-r-eq0 : goal.returns-then-r-eq0
unfolding key hold_key
returns-then-r-eq0 c = rw (row_hold _ _ _ _ c.if-r-eq0.true) (omega arith)

pub returns : goal.returns
returns c =
    let r = c.args.r in
    rw (c.base.ensures.0, c.from-2.ensures, c.second.ensures, c.from-3.ensures, c.from-4.ensures)
    (move_key r.kind r.a r.b r.c c.if-r-eq0.false)
