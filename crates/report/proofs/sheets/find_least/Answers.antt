-- `report::sheets::find_least` meets its contract. Assumes nothing.
use Rattle.planner.specs.RoomLaws.{least_roomy}
use Rattle.std.specs.Prelude.{Ok}
use Rattle.planner.specs.Answers.{least_verdict}
use Rattle.prices.specs.Tariff.{price_file}
use Rattle.request_log.specs.Conditions.{Accepted}
use mathlib.Core.Option.{none}
use mathlib.Core.Path.{◌≡◌, ◌∙◌}
use lib.ListN.{length}
use Rattle.report.proofs.sheets.find_least.Goals as goal

pub returns : goal.returns
unfolding Accepted
returns c =
    let a = c.args in
    let t = price_file a.prices.now in
    let v : least_verdict t none a.log.now (length a.costs.now) ≡ (Ok tt) = rw c.requires.1 (least_roomy t a.log.now ∙ c.requires.0) in
    rw (← v) c.least_with.ensures.costs_after
