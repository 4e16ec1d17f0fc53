-- `checker::checking::counted` meets its contract. Assumes nothing.
use mathlib.Core.Path.{◌≡◌}
use Rattle.model.specs.Sums.{total}
use Rattle.model.specs.Schedule.{length_of, is_transfer, is_upload}
use Rattle.model.specs.RowForm.{rows_upto}
use Rattle.checker.proofs.checking.counted.Given as goal

abbrev pub invariant-loop-i : goal.invariant-loop-i
invariant-loop-i l =
    (l.s.seconds ≡ total length_of (rows_upto l.ns l.i)) × (l.s.transfers ≡ total is_transfer (rows_upto l.ns l.i))
    × (l.s.uploads ≡ total is_upload (rows_upto l.ns l.i))
