-- `season::steps::add_refused` meets its contract. Assumes nothing.
use Rattle.std.proofs.Common.{rules, arith, ◌≡◌, ℕ, Fits, w64, length, get_or}
use Rattle.season.specs.StepLaws.{summed_min, more_counts, other_counts}
use Rattle.season.specs.Tallies.{numbers}
use Rattle.season.proofs.steps.add_refused.Goals as goal

pub returns-then-k-lt-NUMBERS : goal.returns-then-k-lt-NUMBERS
returns-then-k-lt-NUMBERS c =
    let g = c.well_formed in
    let xs = c.args.refused in
    let wide : length xs ≡ numbers = search rules in
    let fits : (i : ℕ) → Fits w64 (get_or xs i 0) = λ i. search rules in
    rw (c.saturating_add.ensures, summed_min _ 1, c.from-k.ensures, c.number.ensures)
    (more_counts xs c.args.refusal (wide, λ i. (fits i).fits))

pub returns-else-k-lt-NUMBERS : goal.returns-else-k-lt-NUMBERS
returns-else-k-lt-NUMBERS c =
    let g = c.well_formed in
    let xs = c.args.refused in
    let wide : length xs ≡ numbers = search rules in
    let fits : (i : ℕ) → Fits w64 (get_or xs i 0) = λ i. search rules in
    other_counts xs c.args.refusal (wide, λ i. (fits i).fits) (omega (arith, c.if-k-lt-NUMBERS.false, c.from-k.ensures, c.number.ensures))
