-- `online::Cache::start_for_log` meets its contract. Assumes nothing.
use Rattle.online.specs.StartLaws.{log_start_made}
use Rattle.online.proofs.Cache.start_for_log.Goals as goal

pub returns : goal.returns
returns c = log_start_made _ _ _ _ (rw c.setup_in.ensures at c.setup_fault-fault.ensures) (c.given.ensures _ c.of_class.ensures)
