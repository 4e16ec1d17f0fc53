-- `rows::kinds::aimed` meets its contract. Assumes nothing.
use Rattle.std.proofs.Common.{◌-◌, ◌∙◌, refl, rules, tests}
use Rattle.std.proofs.lemmas.Iterator.{YieldsList-from_range}
use Rattle.std.proofs.lemmas.Iterator.Search.{any_from_yields_List}
use Rattle.model.specs.RowForm.{row_at}
use Rattle.rows.specs.Reading.{quad_at}
use Rattle.rows.specs.Passes.{aims}
use Rattle.rows.specs.AnyLaws.{any_listed}
use Rattle.rows.proofs.kinds.aimed.Goals as goal

pub returns : goal.returns
unfolding quad_at row_at
returns c =
    let a = c.args in
    any_from_yields_List (λ i. aims a.x (row_at a.ns.now i)) _ _ _ c.any.ensures.ran (YieldsList-from_range a.from a.to (a.to - a.from) refl refl) (λ x b q k. search (rules, tests))
    ∙ any_listed (a.to - a.from) a.from _ _ (λ j. refl)
