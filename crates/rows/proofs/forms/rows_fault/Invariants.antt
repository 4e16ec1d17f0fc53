-- `rows::forms::rows_fault` meets its contract. Assumes nothing.
use Rattle.std.proofs.Common.{◌≡◌}
use Rattle.std.specs.Prelude.{Ok}
use Rattle.base.specs.Refusals.{first, each}
use Rattle.rows.specs.Passes.{row_tests}
use Rattle.rows.proofs.forms.rows_fault.Given as goal

abbrev pub invariant-loop-i : goal.invariant-loop-i
invariant-loop-i l = first (each (row_tests l.given l.count l.n l.last l.ns) l.i) ≡ Ok tt
