-- `online::Cache::scan` meets its contract. Assumes nothing.
use mathlib.Core.Path.{sym, ◌∙◌}
use Rattle.online.specs.Rules.{accept}
use Rattle.online.specs.Passed.{scan_passed}
use Rattle.online.proofs.Cache.scan.Goals as goal

pub accept-cache-requires : goal.accept-cache-requires
accept-cache-requires c =
    let a = c.args in (
      c.outline-o.ensures,
      record { mark = c.kept.ensures a.self c.outline-o.ensures c.use_at-used.ensures },
      scan_passed a.self a.id a.second a.server (sym c.scan_fault.ensures ∙ c.in_default.is),
    )

pub running_cost-cost-requires : goal.running_cost-cost-requires
unfolding accept
running_cost-cost-requires c =
    let a = c.args in
    rw c.accept-cache.ensures (scan_passed a.self a.id a.second a.server (sym c.scan_fault.ensures ∙ c.in_default.is)).intact.priced
