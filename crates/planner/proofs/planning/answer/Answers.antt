-- `planner::planning::answer` meets its contract: the two refusals by 31, and the answer written and zeroed beyond. Assumes nothing.
use mathlib.Core.Path.{refl, sym, ap, ◌∙◌}
use native.Mathlib.Omega.{arith}
use lib.ListN.{length, take}
use lib.Seq.{length-take-le}
use Rattle.std.proofs.lemmas.Result.{err_from_is_err_and}
use Rattle.planner.specs.PlanAnswer.{marked_rows, answer_of}
use Rattle.planner.specs.PlanAnswerLaws.{filled_count, filled_rows, room, marks_short, rows_short, both_fit}
use Rattle.planner.proofs.planning.answer.Goals as goal

pub returns-in_err-refuse_if : goal.returns-in_err-refuse_if
returns-in_err-refuse_if c =
    let a = c.args in
    let p = err_from_is_err_and c.from_residual.result c.from_residual.ensures.1 in
    marks_short _ a.n a.cost (take a.n a.letters.now) a.marks.now a.rows.now _ _ (rw c.from-end.ensures at (sym c.in_err-refuse_if.ensures)) (rw (p.1, p.2))

pub returns-in_err-refuse_if-2 : goal.returns-in_err-refuse_if-2
returns-in_err-refuse_if-2 c =
    let a = c.args in
    let p = err_from_is_err_and c.from_residual-in_err-refuse_if-2.result c.from_residual-in_err-refuse_if-2.ensures.1 in
    let f = filled_count a.n a.count a.seconds.now a.servers.now a.letters.now c.requires _ c.holders-words.ensures in
    rows_short _ a.n a.cost (take a.n a.letters.now) a.marks.now a.rows.now _ _ (rw c.from-end.ensures at (sym c.in_ok-refuse_if.ensures))
    (rw (c.row_count-found.ensures, f) at (sym c.in_err-refuse_if-2.ensures)) (rw (p.1, p.2))

pub slice_bounds-copy_from_slice-end : goal.slice_bounds-copy_from_slice-end
slice_bounds-copy_from_slice-end c = room _ _ (sym c.in_ok-refuse_if.ensures)

pub slice_bounds-copy_from_slice-end-2 : goal.slice_bounds-copy_from_slice-end-2
slice_bounds-copy_from_slice-end-2 c = sym (length-take-le _ _ (room _ _ (sym c.in_ok-refuse_if.ensures)))

pub copy_from_slice-requires : goal.copy_from_slice-requires
copy_from_slice-requires c =
    let a = c.args in
    length-take-le _ _ (room _ _ (sym c.in_ok-refuse_if.ensures)) ∙ sym (length-take-le c.from-end.result a.letters.now (omega (arith, c.requires.lettered)))

pub put_all-requires : goal.put_all-requires
put_all-requires c =
    let a = c.args in
    let d = filled_rows a.n a.count a.seconds.now a.servers.now a.letters.now c.requires _ c.holders-words.ensures in
    let f = filled_count a.n a.count a.seconds.now a.servers.now a.letters.now c.requires _ c.holders-words.ensures in
    c.row_count-found.ensures ∙ f ∙ ap length (sym d)

pub returns : goal.returns
unfolding answer_of
returns c =
    let a = c.args in
    let d = filled_rows a.n a.count a.seconds.now a.servers.now a.letters.now c.requires _ c.holders-words.ensures in
    let f = c.row_count-found.ensures ∙ filled_count a.n a.count a.seconds.now a.servers.now a.letters.now c.requires _ c.holders-words.ensures in
    let l = length-take-le a.n a.letters.now c.requires.lettered in
    rw (c.clear.ensures, c.copy_from_slice.ensures.after, c.clear-2.ensures, c.put_all.ensures, d, f, c.from-end.ensures)
    (both_fit (marked_rows a.n a.count a.seconds.now a.servers.now a.letters.now) a.n a.cost (take a.n a.letters.now) a.marks.now a.rows.now _ l
    (rw c.from-end.ensures at (sym c.in_ok-refuse_if.ensures)) (rw f at (sym c.in_ok-refuse_if-2.ensures)) refl)
