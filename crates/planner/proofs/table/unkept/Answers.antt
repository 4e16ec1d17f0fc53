-- `planner::table::unkept` meets its contract: S where there is no upload price or where S is legal and no dearer. Assumes nothing.
use borrow.Author.Tests.{le-leb, lt-leb}
use native.Mathlib.Nat.{min-eq_left, min-eq_right}
use native.Mathlib.Omega.{arith}
use Rattle.prices.specs.Uploads.{if_given}
use Rattle.model.specs.Table.{cheaper, cheaper_mark}
use Rattle.planner.specs.Answers.{letter}
use Rattle.planner.specs.Terms.{away_of}
use Rattle.planner.proofs.table.unkept.Goals as goal
use Rattle.planner.proofs.table.unkept.Goals.{then-not-sendable-via-then-not-sendable, then-not-sendable-via-else-not-sendable+then-load-sent}

pub returns-then-not-sendable : goal.returns-then-not-sendable
unfolding if_given away_of cheaper cheaper_mark letter
returns-then-not-sendable c =
    elim c.then-not-sendable.branch [
      | then-not-sendable-via-then-not-sendable w ↦ rw (c.in-Some.is, c.from-load.ensures, w.if-not-sendable.true)
      | then-not-sendable-via-else-not-sendable+then-load-sent w ↦ rw (c.in-Some.is, ← c.from-load.ensures, w.if-not-sendable.false, lt-leb _ _ w.if-load-sent.true, min-eq_right {n = c.from-load.result} {m = c.args.sent} (omega arith))
    ]

pub returns-else-load-sent : goal.returns-else-load-sent
unfolding if_given away_of cheaper cheaper_mark letter
returns-else-load-sent c =
    rw (c.in-Some.is, ← c.from-load.ensures, c.if-not-sendable.false, le-leb _ _ c.if-load-sent.false, min-eq_left c.if-load-sent.false)

pub returns-in_default : goal.returns-in_default
unfolding if_given away_of cheaper cheaper_mark letter
returns-in_default c = rw (c.in_default.is)
