-- `season::bills::look` meets its contract. Assumes nothing.
use Rattle.std.proofs.Common.{ℕ, replicate, sym, ◌∙◌}
use Rattle.std.proofs.lemmas.List.{length-replicate}
use Rattle.std.proofs.lemmas.Result.{err_from_is_err_and}
use Rattle.season.specs.BillLaws.{least_refused, least_accepted, least_found, accepted_met}
use Rattle.season.specs.Met.{met_as}
use Rattle.season.specs.Tallies.{met_of}
use Rattle.planner.specs.Sizes.{places}
use Rattle.season.proofs.bills.look.Goals as goal

pub returns-in_err-least : goal.returns-in_err-least
unfolding met_of met_as
returns-in_err-least c =
    let p = err_from_is_err_and c.from_residual.result c.from_residual.ensures.1 in
    rw (p.1, p.2, least_refused c.args.log.now _ (sym c.in_err-least.ensures.value))

pub accept-requires : goal.accept-requires
accept-requires c =
    let a = least_accepted c.args.log.now _ (sym c.in_ok-least.ensures.value) in
    let f = least_found c.args.log.now (replicate places 0) _ a (length-replicate {A = ℕ} places 0) c.least.ensures.costs_after in
    (a, f.there, f.last)

pub returns : goal.returns
returns c = c.accept.ensures ∙ sym (accepted_met c.args.log.now (least_accepted c.args.log.now _ (sym c.in_ok-least.ensures.value)))
