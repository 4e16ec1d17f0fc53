-- `writer::conditions::contents_fault` meets its contract. Assumes nothing.
use mathlib.Core.Path.{sym, ◌∙◌}
use Rattle.base.specs.RefusalLaws.{first_passed}
use Rattle.writer.specs.ContentsLaws.{lengths_inside}
use Rattle.writer.proofs.conditions.contents_fault.Goals as goal

pub lists_fault-requires : goal.lists_fault-requires
lists_fault-requires c = lengths_inside _ _ (sym c.lengths_outside.ensures ∙ (first_passed _).0 (sym c.in_ok-refuse_if.ensures) 0)
