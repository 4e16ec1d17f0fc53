-- `online::Cache::start` meets its contract. Assumes nothing.
use Rattle.online.specs.StartLaws.{start_made}
use Rattle.online.proofs.Cache.start.Goals as goal

pub returns : goal.returns
returns c = start_made _ _ _ _ _ _ c.built_in-tariff.ensures c.ended.ensures (rw c.setup_in.ensures at c.offered_fault-v.ensures) (c.given.ensures _ c.of_class.ensures)
