-- `week::days::add_days` meets its contract. Assumes nothing.
use Rattle.std.proofs.Common.{refl, arith}
use Rattle.base.specs.LentLaws.{filling_next}
use Rattle.week.proofs.days.add_days.Goals as goal

pub loop-d-preserved : goal.loop-d-preserved
loop-d-preserved c =
    let l = c.loop-d in
    filling_next _ _ l.more l.d l.d _ l.invariant (omega arith) refl refl
