-- `checker::copies::transfer_fault` meets its contract. Assumes nothing.
use borrow.Author.Rules.{rules}
use Rattle.model.specs.Checking.{row_count}
use Rattle.checker.specs.Quick.{transfer_test}
use Rattle.checker.proofs.copies.transfer_fault.Goals as goal

pub place-requires : goal.place-requires
unfolding row_count
place-requires c = search rules

pub returns : goal.returns
unfolding transfer_test row_count
returns c = rw c.place.ensures at c.refuse_if.ensures
