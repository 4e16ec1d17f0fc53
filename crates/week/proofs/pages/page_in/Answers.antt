-- `week::pages::page_in` meets its contract. Assumes nothing.
use Rattle.std.proofs.Common.{sym, ◌∙◌}
use Rattle.week.specs.PageLaws.{roomy_stands}
use Rattle.week.proofs.pages.page_in.Goals as goal

pub put_plan-end-requires-clause-n_in_bounds : goal.put_plan-end-requires-clause-n_in_bounds
put_plan-end-requires-clause-n_in_bounds c =
    roomy_stands _ _ _ _ c.requires _ _ (sym c.plan.ensures.value ∙ c.in_ok-plan.was) c.plan.ensures.rows_after
