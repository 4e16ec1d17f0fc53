-- `prices::file::pairs_fault` meets its contract. Assumes nothing.
use mathlib.Core.Path.{◌≡◌}
use Rattle.std.specs.Prelude.{Ok}
use Rattle.base.specs.Refusals.{first, each}
use Rattle.prices.specs.PriceFile.{class_count, pair_condition}
use Rattle.prices.proofs.file.pairs_fault.Given as goal

abbrev pub invariant-loop-class : goal.invariant-loop-class
invariant-loop-class l = (l.class-end ≡ class_count l.file) × (first (each (pair_condition l.file) l.class) ≡ Ok tt)
