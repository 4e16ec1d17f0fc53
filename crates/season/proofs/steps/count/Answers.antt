-- `season::steps::count` meets its contract. Assumes nothing.
use Rattle.std.proofs.Common.{rules, ◌≡◌, ℕ, Ok, Fits, w64, length, get_or, ap, ◌∙◌}
use Rattle.season.specs.Counting.{summed}
use Rattle.season.specs.StepLaws.{summed_min, bill_counted, refusal_counted}
use Rattle.season.specs.Tallies.{numbers, met_of, worse, ends}
use Rattle.season.proofs.steps.count.Goals as goal

pub returns-in-Ok : goal.returns-in-Ok
returns-in-Ok c =
    let g = c.well_formed in
    let t = c.args.tally in
    let b = c.in-Ok.bill in
    let wide : length t.refused ≡ numbers = search rules in
    let fits : (i : ℕ) → Fits w64 (get_or t.refused i 0) = λ i. search rules in
    let logs : c.saturating_add-logs.result ≡ summed t.logs 1 = c.saturating_add-logs.ensures ∙ summed_min t.logs 1 in
    let accepted : c.saturating_add.result ≡ summed t.accepted 1 = c.saturating_add.ensures ∙ summed_min t.accepted 1 in
    let least : c.saturating_add-in-Ok.result ≡ summed t.least b.least = c.saturating_add-in-Ok.ensures ∙ summed_min t.least _ ∙ ap (summed t.least) c.from.ensures in
    let running : c.saturating_add-in-Ok-2.result ≡ summed t.running b.running = c.saturating_add-in-Ok-2.ensures ∙ summed_min t.running _ ∙ ap (summed t.running) c.from-in-Ok.ensures in
    let worst : c.worse_of.result ≡ worse t.worst (summed t.logs 1) (met_of (Ok b)) = c.worse_of.ensures ∙ ap (λ k. worse t.worst k (met_of (Ok b))) logs in
    rw (logs, accepted, least, running, worst, c.in-Ok.is) (bill_counted t b (wide, λ i. (fits i).fits))

pub returns-in-Err : goal.returns-in-Err
unfolding ends
returns-in-Err c =
    let g = c.well_formed in
    let t = c.args.tally in
    let accepted : Fits w64 t.accepted = search rules in
    let least : Fits w64 t.least = search rules in
    let running : Fits w64 t.running = search rules in
    rw (c.saturating_add-logs.ensures, summed_min t.logs 1, c.add_refused.ensures, c.is_last.ensures, c.number.ensures, c.in-Err.is)
    (refusal_counted t c.in-Err.r accepted.fits least.fits running.fits)
