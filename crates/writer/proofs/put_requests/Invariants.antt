-- `writer::put_requests` meets its contract. Assumes nothing.
use mathlib.Core.Path.{◌≡◌}
use mathlib.Core.List.{◌++◌}
use Prim.Native.Nat.{◌+◌, ◌*◌}
use lib.ListN.{length, take, drop}
use Rattle.request_log.specs.Contents.{requests_bytes}
use Rattle.writer.proofs.put_requests.Given as goal

abbrev pub invariant-loop-k : goal.invariant-loop-k
invariant-loop-k l = record {
  as_long : length l.log ≡ length l.initial.log;
  written : l.log ≡ take 40 l.initial.log ++ (requests_bytes l.seconds l.servers l.k ++ drop (40 + 6 * l.k) l.initial.log);
}
