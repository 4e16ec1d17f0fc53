-- `checker::copies::holds_fault` meets its contract. Assumes nothing.
use Rattle.std.specs.Prelude.{Ok}
use mathlib.Core.Path.{◌≡◌}
use Rattle.base.specs.Refusals.{first, each}
use Rattle.checker.specs.Quick.{hold_test}
use Rattle.checker.proofs.copies.holds_fault.Given as goal

abbrev pub invariant-loop-i : goal.invariant-loop-i
invariant-loop-i l = first (each (hold_test l.s.home l.s.rows.ns.now l.low) l.i) ≡ Ok tt
