-- `request_log::conditions::requests_fault` meets its contract. Assumes nothing.
use mathlib.Core.Path.{◌≡◌}
use Rattle.std.specs.Prelude.{Ok}
use Rattle.base.specs.Refusals.{first, each}
use Rattle.request_log.specs.Fields.{seconds_of}
use Rattle.request_log.specs.Conditions.{before}
use Rattle.request_log.specs.ConditionLaws.{log_requests}
use Rattle.request_log.proofs.conditions.requests_fault.Given as goal

abbrev pub invariant-loop-i : goal.invariant-loop-i
invariant-loop-i l = record { passed : first (each (log_requests l.log) l.i) ≡ Ok tt; earlier : l.earlier ≡ before (seconds_of l.log) l.i }
