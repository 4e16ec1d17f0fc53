-- `planner::rows::Basis::put_all` meets its contract: the holds, then the transfers and the uploads, each from the row after those before them. Assumes nothing.
use mathlib.Core.Path.{◌∙◌}
use Rattle.planner.specs.Basis.{asked, marked}
use Rattle.planner.specs.RowSteps.{put_parts, put_sent}
use Rattle.planner.proofs.rows.Basis.put_all.Goals as goal

pub returns-then-next-found : goal.returns-then-next-found
returns-then-next-found c =
    let b = c.args.self.now in
    put_parts (asked b) b.words.now (marked b) b.n c.args.count _ _ c.args.out.now _ _ c.put_holds-next.ensures.1 c.put_transfers-next.ensures.1 _ c.put_uploads.ensures

pub returns-else-next-found : goal.returns-else-next-found
returns-else-next-found c =
    let b = c.args.self.now in
    put_sent (asked b) b.words.now (marked b) b.n c.args.count _ _ c.args.out.now _ _ c.put_holds-next.ensures.1 c.put_transfers-next.ensures.1 (c.if-next-found.false ∙ c.requires)
