-- `request_log::reader::give_requests` meets its contract. Assumes nothing.
use mathlib.Core.Path.{◌∙◌}
use native.Mathlib.Omega.{arith}
use Rattle.base.specs.LentLaws.{filling_ends}
use Rattle.request_log.proofs.reader.give_requests.Goals as goal

pub returns-clause-seconds_after : goal.returns-clause-seconds_after
returns-clause-seconds_after c = c.clear.ensures ∙ filling_ends _ _ _ _ _ (omega arith) c.from-end.ensures c.put_requests.ensures.seconds_after

pub returns-clause-servers_after : goal.returns-clause-servers_after
returns-clause-servers_after c = c.clear-2.ensures ∙ filling_ends _ _ _ _ _ (omega arith) c.from-end.ensures c.put_requests.ensures.servers_after
