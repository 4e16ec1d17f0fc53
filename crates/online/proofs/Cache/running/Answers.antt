-- `online::Cache::running` meets its contract. Assumes nothing.
use mathlib.Core.Path.{sym, ◌∙◌}
use Rattle.online.specs.Passed.{running_passed}
use Rattle.online.proofs.Cache.running.Goals as goal

pub running_cost-requires : goal.running_cost-requires
running_cost-requires c = (running_passed _ (sym c.state_fault.ensures ∙ c.in_ok-state_fault.was)).priced
