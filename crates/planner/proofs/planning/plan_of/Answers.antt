-- `planner::planning::plan_of` meets its contract. Assumes nothing.
use Rattle.planner.specs.Asked.{asks}
use Rattle.planner.specs.FillLaws.{filled_tabled}
use Rattle.planner.specs.PlanRight.{spelt_front, lettered_front, cost_front, plan_marked, plan_answered}
use borrow.Author.Rules.{rules}
use Rattle.planner.specs.Fees.{rated}
use Rattle.planner.proofs.planning.plan_of.Goals as goal

pub write_marks-requires : goal.write_marks-requires
write_marks-requires c =
    let a = c.args in
    let few = c.requires.ready.fits.requests_most in record { ready = c.requires.ready; tabled = filled_tabled (rated a.summary.fees) (asks a.seconds.now a.servers.now) a.summary.requests _ _ _ _ c.fill.ensures.costs_after c.fill.ensures.keeps_after; n_in_bounds = search rules }

pub answer-requires : goal.answer-requires
answer-requires c =
    let a = c.args in
    let few = c.requires.ready.fits.requests_most in
    plan_marked (rated a.summary.fees) a.summary.requests a.summary.server_count a.seconds.now a.servers.now _ few c.requires.server_count_bound.0 c.requires.server_count_bound.1
    (lettered_front (rated a.summary.fees) (asks a.seconds.now a.servers.now) a.summary.requests _ _ c.write_marks.ensures)
    (spelt_front (rated a.summary.fees) (asks a.seconds.now a.servers.now) a.summary.requests _ _ c.write_marks.ensures)

pub returns : goal.returns
returns c =
    let a = c.args in
    let few = c.requires.ready.fits.requests_most in
    let p = rated a.summary.fees in
    let q = asks a.seconds.now a.servers.now in
    let n = a.summary.requests in
    plan_answered p n a.summary.server_count a.seconds.now a.servers.now _ few c.requires.server_count_bound.0 c.requires.server_count_bound.1
    (lettered_front p q n _ _ c.write_marks.ensures)
    (spelt_front p q n _ _ c.write_marks.ensures) _ a.marks.now a.rows.now _ _ _
    (cost_front p q n _ _ _ (filled_tabled p q n _ _ _ _ c.fill.ensures.costs_after c.fill.ensures.keeps_after) c.from.ensures)
    c.answer.ensures
