-- `report::sheets::plan_marks` meets its contract. Assumes nothing.
use Rattle.planner.specs.RoomLaws.{plan_roomy, most_roomy}
use Rattle.std.specs.Prelude.{Ok}
use Rattle.report.specs.Replies.{rows_planned}
use Rattle.planner.specs.Sizes.{rows_room}
use Rattle.planner.specs.Answers.{plan_verdict, planned}
use Rattle.prices.specs.Tariff.{price_file}
use Rattle.request_log.specs.Sizes.{most_requests}
use Rattle.request_log.specs.Conditions.{Accepted}
use mathlib.Core.Option.{none}
use mathlib.Core.Path.{◌≡◌, refl, ◌∙◌}
use lib.ListN.{length}
use Rattle.report.proofs.sheets.plan_marks.Goals as goal

pub returns : goal.returns
unfolding planned rows_planned Accepted
returns c =
    let a = c.args in
    let t = price_file a.prices.now in
    let v : plan_verdict t none a.log.now (length a.marks.now) rows_room ≡ (Ok tt) = rw c.requires.1 (plan_roomy t a.log.now most_requests rows_room (most_roomy t a.log.now) ∙ c.requires.0) in
    record { value = c.row_count.ensures ∙ rw (c.plan_with.ensures.value, v) refl; marks_after = rw (← v) c.plan_with.ensures.marks_after }
