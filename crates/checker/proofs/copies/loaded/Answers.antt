-- `checker::copies::loaded` meets its contract. Assumes nothing.
use mathlib.Core.Path.{sym, ◌∙◌}
use borrow.Author.Tests.{le-ltb}
use Rattle.model.specs.Checking.{row_count}
use Rattle.checker.specs.CopySteps.{loaded_read, loaded_past}
use Rattle.checker.proofs.copies.loaded.Goals as goal

pub returns-then-p-rows : goal.returns-then-p-rows
unfolding row_count
returns-then-p-rows c =
    let a = c.args in
    sym (loaded_read a.rows.ns.now a.t a.x _ _ _ c.from_upload-p.ensures c.if-p-rows.true c.row.ensures c.puts.ensures)

pub returns-else-p-rows : goal.returns-else-p-rows
unfolding row_count
returns-else-p-rows c =
    let a = c.args in
    le-ltb _ _ c.if-p-rows.false ∙ sym (loaded_past a.rows.ns.now a.t a.x _ c.from_upload-p.ensures c.if-p-rows.false)
