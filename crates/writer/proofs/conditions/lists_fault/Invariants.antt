-- `writer::conditions::lists_fault` meets its contract. Assumes nothing.
use mathlib.Core.Path.{◌≡◌}
use Rattle.std.specs.Prelude.{Ok}
use Rattle.base.specs.Refusals.{first, each}
use Rattle.request_log.specs.Conditions.{before, request_conditions}
use Rattle.writer.proofs.conditions.lists_fault.Given as goal

abbrev pub invariant-loop-i : goal.invariant-loop-i
invariant-loop-i l = record { passed : first (each (request_conditions l.count l.seconds l.servers) l.i) ≡ Ok tt; earlier : l.earlier ≡ before l.seconds l.i }
