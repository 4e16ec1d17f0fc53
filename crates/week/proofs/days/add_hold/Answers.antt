-- `week::days::add_hold` meets its contract. Assumes nothing.
use Rattle.std.proofs.Common.{rules, refl, ◌≡◌, ◌/◌, arith}
use Rattle.week.specs.FigureLaws.{part_within, counted_fits, filled_none, filled_part, filled_all}
use Rattle.week.proofs.days.add_hold.Goals as goal

pub loop-at-init : goal.loop-at-init
loop-at-init c =
    (search rules, c.requires.2, filled_none c.args.table.now c.args.server c.args.from (omega (arith, c.requires.0, c.requires.1)) c.requires.4)

pub overflow_add-table : goal.overflow_add-table
overflow_add-table c =
    let l = c.loop-at in
    let a = c.args in
    let w = part_within l.at a.to (omega arith) in
    let p = c.requires in
    record { fits = omega (arith, c.part_end-end.ensures, w.2, counted_fits _ a.from l.at _ (l.at / 86400) l.invariant.2.counted (omega (arith, p.3)) p.5) }

pub loop-at-preserved : goal.loop-at-preserved
loop-at-preserved c =
    let l = c.loop-at in
    let a = c.args in
    let w = part_within l.at a.to (omega arith) in (
      omega (arith, c.part_end-end.ensures, w.0),
      omega (arith, c.part_end-end.ensures, w.1),
      rw c.part_end-end.ensures (filled_part a.table.now a.server a.from l.at a.to l.table _ _ l.invariant.2 l.invariant.0 (omega arith) c.requires.3 refl refl),
    )

pub returns : goal.returns
returns c =
    let l = c.loop-at in
    let a = c.args in
    let e : l.at ≡ a.to = omega arith in
    filled_all a.table.now a.server a.from a.to l.table (rw e at l.invariant.2)
