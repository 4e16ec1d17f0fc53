-- `planner::requests::load` meets its contract. Assumes nothing.
use borrow.Author.Rules.{rules}
use mathlib.Core.Path.{◌≡◌, refl, ap, sym, ◌∙◌}
use native.Mathlib.Omega.{arith}
use lib.ListN.{length}
use Rattle.std.proofs.lemmas.Result.{err_from_is_err_and}
use Rattle.base.specs.Lent.{lent}
use Rattle.prices.specs.Tariff.{tariff_of}
use Rattle.request_log.specs.Fields.{home_of, seconds_of, servers_of, header_of}
use Rattle.request_log.specs.Conditions.{verdict_of, Accepted}
use Rattle.request_log.specs.AcceptedLaws.{accepted_sound}
use Rattle.request_log.specs.AnswerLaws.{decoded_requests, decoded_refused}
use Rattle.request_log.specs.declared.Header.{Header}
use Rattle.model.specs.LogRequests.{prices_in}
use Rattle.planner.specs.Sizes.{places}
use Rattle.planner.specs.Loading.{seconds_with_home, servers_with_home, offer_verdict, summary_of, loaded}
use Rattle.planner.specs.LoadedLaws.{home_loaded, home_kept, lent_small, links_loaded}
use Rattle.planner.proofs.requests.load.Goals as goal

pub link-requires : goal.link-requires
unfolding header_of servers_with_home Accepted
link-requires c =
    let a = c.args in
    let log = a.log.now in
    let t = tariff_of a.tariff in
    let d = decoded_requests (verdict_of t log) log c.read_requests-decoded.result _ c.read_requests-decoded.ensures.value c.in_ok-n.was in
    let long : length a.servers.now ≡ places = search rules in
    let now = home_loaded (verdict_of t log) a.servers.now (servers_of log) _ (home_of log) _ d.0 c.read_requests-decoded.ensures.servers_after (c.from.ensures ∙ ap (λ (h : Header). h.home) d.2) (omega arith) in
    (omega (arith, d.1, (accepted_sound t log d.0).requests_most), lent_small t log d.0 a.servers.now _ now, search rules)

pub returns-in_err-n : goal.returns-in_err-n
unfolding offer_verdict loaded lent
returns-in_err-n c =
    let a = c.args in
    let log = a.log.now in
    let t = tariff_of a.tariff in
    let p = err_from_is_err_and c.from_residual.result c.from_residual.ensures.1 in
    let e = decoded_refused (verdict_of t log) log c.read_requests-decoded.result _ c.read_requests-decoded.ensures.value c.in_err-n.was in record { value = rw (p.1, p.2, e); seconds_after = home_kept (verdict_of t log) _ a.seconds.now (seconds_of log) _ _ e c.read_requests-decoded.ensures.seconds_after; servers_after = home_kept (verdict_of t log) _ a.servers.now (servers_of log) _ _ e c.read_requests-decoded.ensures.servers_after; previous_after = rw e }

pub returns-in_err-upload_fault : goal.returns-in_err-upload_fault
unfolding header_of seconds_with_home servers_with_home offer_verdict loaded Accepted
returns-in_err-upload_fault c =
    let a = c.args in
    let log = a.log.now in
    let t = tariff_of a.tariff in
    let d = decoded_requests (verdict_of t log) log c.read_requests-decoded.result _ c.read_requests-decoded.ensures.value c.in_ok-n.was in
    let p = err_from_is_err_and c.from_residual-in_err-upload_fault.result c.from_residual-in_err-upload_fault.ensures.1 in
    let long : length a.servers.now ≡ places = search rules in
    let long₂ : length a.seconds.now ≡ places = search rules in
    let now = home_loaded (verdict_of t log) a.servers.now (servers_of log) _ (home_of log) _ d.0 c.read_requests-decoded.ensures.servers_after (c.from.ensures ∙ ap (λ (h : Header). h.home) d.2) (omega arith) in record { value = rw (p.1, p.2, d.0, sym c.in_err-upload_fault.ensures); seconds_after = home_loaded (verdict_of t log) a.seconds.now (seconds_of log) _ 0 0 d.0 c.read_requests-decoded.ensures.seconds_after refl (omega arith); servers_after = now; previous_after = links_loaded t log d.0 a.servers.now a.previous.now _ _ _ now d.1 c.link.ensures }

pub returns : goal.returns
unfolding header_of seconds_with_home servers_with_home offer_verdict summary_of prices_in loaded Accepted
returns c =
    let a = c.args in
    let log = a.log.now in
    let t = tariff_of a.tariff in
    let d = decoded_requests (verdict_of t log) log c.read_requests-decoded.result _ c.read_requests-decoded.ensures.value c.in_ok-n.was in
    let long : length a.servers.now ≡ places = search rules in
    let long₂ : length a.seconds.now ≡ places = search rules in
    let now = home_loaded (verdict_of t log) a.servers.now (servers_of log) _ (home_of log) _ d.0 c.read_requests-decoded.ensures.servers_after (c.from.ensures ∙ ap (λ (h : Header). h.home) d.2) (omega arith) in record { value = rw (c.billed.ensures, c.of_class.ensures, d.0, d.1, d.2, sym c.in_ok-upload_fault.ensures); seconds_after = home_loaded (verdict_of t log) a.seconds.now (seconds_of log) _ 0 0 d.0 c.read_requests-decoded.ensures.seconds_after refl (omega arith); servers_after = now; previous_after = links_loaded t log d.0 a.servers.now a.previous.now _ _ _ now d.1 c.link.ensures }
