-- `live::running_of` meets its contract. Assumes nothing.
use mathlib.Core.Path.{◌≡◌}
use Rattle.request_log.specs.Fields.{seconds_of, servers_of}
use Rattle.live.specs.Live.{state_after}
use Rattle.live.proofs.running_of.Given as goal

abbrev pub invariant-loop-k : goal.invariant-loop-k
invariant-loop-k l = l.state ≡ state_after l.initial.state l.header.id (seconds_of l.log) (servers_of l.log) l.k
