-- `season::bills::accept` meets its contract. Assumes nothing.
use Rattle.std.proofs.Common.{◌≡◌, ℕ, get_or, ap, ◌∙◌}
use Rattle.prices.specs.Tariff.{built_in}
use Rattle.live.specs.Live.{running_bill}
use Rattle.season.specs.BillLaws.{cost_answered, cost_taken, running_found}
use Rattle.season.specs.MetLaws.{built_in_fits}
use Rattle.season.specs.Met.{least_bill, met_as}
use Rattle.season.specs.Tallies.{met_of}
use Rattle.request_log.specs.Fields.{request_count}
use Rattle.season.proofs.bills.accept.Goals as goal

pub bounds-costs-from : goal.bounds-costs-from
unfolding request_count
bounds-costs-from c = rw (c.from.ensures, c.at16-requests.ensures) c.requires.1

pub narrow-least-requires : goal.narrow-least-requires
unfolding request_count
narrow-least-requires c =
    let e : c.from.result ≡ request_count c.args.log.now = c.from.ensures ∙ c.at16-requests.ensures in
    rw (e, c.requires.2) (built_in_fits c.args.log.now c.requires.0).0

pub narrow-running-requires : goal.narrow-running-requires
narrow-running-requires c =
    let r : c.unwrap_or.result ≡ running_bill built_in c.args.log.now =
    c.unwrap_or.ensures ∙ cost_taken c.running_of.result ∙ ap cost_answered c.running_of.ensures ∙ running_found _ c.args.log.now c.built_in.ensures c.requires.0 in
    rw r (built_in_fits c.args.log.now c.requires.0).1

pub returns : goal.returns
unfolding met_of met_as request_count
returns c =
    let log = c.args.log.now in
    let e : c.from.result ≡ request_count log = c.from.ensures ∙ c.at16-requests.ensures in
    let l : c.narrow-least.result ≡ least_bill built_in log =
    c.narrow-least.ensures ∙ ap (λ (k : ℕ). get_or c.args.costs.now k 0) e ∙ c.requires.2 in
    let r : c.narrow-running.result ≡ running_bill built_in log =
    c.narrow-running.ensures ∙ c.unwrap_or.ensures ∙ cost_taken c.running_of.result ∙ ap cost_answered c.running_of.ensures ∙ running_found _ log c.built_in.ensures c.requires.0 in
    rw (c.at16-requests.ensures, l, r)
