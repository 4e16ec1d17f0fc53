-- `prices::file::misformed` meets its contract. Assumes nothing.
use borrow.Author.Tests.{ne_eqb, le-ltb}
use Rattle.prices.specs.PriceFile.{most_classes, class_count}
use Rattle.prices.proofs.file.misformed.Goals as goal

pub returns-else-n-gt-MOST : goal.returns-else-n-gt-MOST
unfolding class_count
returns-else-n-gt-MOST c =
    let (long, some, few) = c.if-n-gt-MOST.false in
    rw (le-ltb _ _ long, ← c.at16-n.ensures, ne_eqb _ _ some, le-ltb most_classes _ few) c.laid_out_otherwise.ensures
