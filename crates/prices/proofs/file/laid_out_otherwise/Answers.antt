-- `prices::file::laid_out_otherwise` meets its contract. Assumes nothing.
use borrow.Author.Tests.{eq-eqb}
use Rattle.prices.specs.PriceFile.{prices_offset}
use Rattle.prices.proofs.file.laid_out_otherwise.Goals as goal

pub returns-else-misplaced : goal.returns-else-misplaced
unfolding prices_offset
returns-else-misplaced c = rw (← c.at16-misplaced.ensures, eq-eqb _ _ c.if-misplaced.false, c.from.ensures)
