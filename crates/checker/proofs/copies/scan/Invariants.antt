-- `checker::copies::scan` meets its contract. Assumes nothing.
use mathlib.Core.Path.{◌≡◌}
use Prim.Native.Nat.{◌-◌, ◌≤◌}
use Rattle.checker.specs.Quick.{standing_at, starved, unbacked}
use Rattle.checker.proofs.copies.scan.Given as goal

abbrev pub invariant-loop-i : goal.invariant-loop-i
invariant-loop-i l =
    (l.i - l.from ≤ l.s.uploads - l.from) × (l.low ≡ starved l.s.count l.s.home l.s.rows.ns.now l.from (l.i - l.from)) × (l.late ≡ unbacked l.s.count l.s.home l.s.rows.ns.now l.from (l.i - l.from))
    × (l.seen.word ≡ standing_at l.s.count l.s.home l.s.rows.ns.now l.seen.second)
