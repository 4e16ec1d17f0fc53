-- `online::Cache::start_with` meets its contract. Assumes nothing.
use mathlib.Core.Path.{refl}
use Rattle.online.specs.StartLaws.{start_made}
use Rattle.online.proofs.Cache.start_with.Goals as goal

pub returns : goal.returns
returns c = start_made _ _ _ _ _ _ c.of_file-tariff.ensures refl (rw c.setup_in.ensures at c.offered_fault-loaded.ensures) (c.given.ensures _ c.of_class.ensures)
