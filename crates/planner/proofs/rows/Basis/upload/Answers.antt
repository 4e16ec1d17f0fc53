-- `planner::rows::Basis::upload` meets its contract: no row, or the upload's. Assumes nothing.
use mathlib.Core.Path.{sym, ◌∙◌}
use native.Mathlib.Numerals.{add-one}
use Rattle.model.specs.RowForm.{numbers}
use Rattle.planner.specs.WordRows.{new_upload}
use Rattle.planner.proofs.rows.Basis.upload.Goals as goal

pub returns-then-loaded : goal.returns-then-loaded
unfolding new_upload numbers
returns-then-loaded c =
    let s = sym c.loaded.ensures ∙ c.if-loaded.true in
    rw (s, c.from-target.ensures, c.server.ensures, c.second-moment.ensures, add-one c.args.k)
