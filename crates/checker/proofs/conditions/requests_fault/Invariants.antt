-- `checker::conditions::requests_fault` meets its contract. Assumes nothing.
use Rattle.std.specs.Prelude.{Ok}
use mathlib.Core.Path.{◌≡◌}
use Rattle.base.specs.Refusals.{first, each}
use Rattle.checker.specs.Quick.{serve_test}
use Rattle.checker.proofs.conditions.requests_fault.Given as goal

abbrev pub invariant-loop-i : goal.invariant-loop-i
invariant-loop-i l = first (each (serve_test l.log l.s.rows.ns.now) l.i) ≡ Ok tt
