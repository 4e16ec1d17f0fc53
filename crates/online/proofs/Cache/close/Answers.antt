-- `online::Cache::close` meets its contract. Assumes nothing.
use mathlib.Core.Path.{sym, ◌∙◌}
use Rattle.online.specs.Passed.{close_passed}
use Rattle.online.proofs.Cache.close.Goals as goal

pub closing_cost-requires : goal.closing_cost-requires
closing_cost-requires c = (close_passed c.args.self (sym c.close_fault.ensures ∙ c.in_default.is)).0
