-- `quote::quoting::quote_by` meets its contract. Assumes nothing.
use mathlib.Core.Path.{sym}
use Rattle.std.proofs.lemmas.Result.{err_from_is_err_and}
use Rattle.prices.specs.Tariff.{tariff_of}
use Rattle.request_log.specs.Conditions.{Accepted}
use Rattle.request_log.specs.AcceptedLaws.{accepted_sound}
use Rattle.request_log.specs.Fields.{class_of}
use Rattle.model.specs.LogRequests.{prices_in}
use Rattle.model.proofs.LogRequestLaws.{log_priced}
use Rattle.quote.specs.Answers.{quoted, quote_answer}
use Rattle.quote.proofs.quoting.quote_by.Goals as goal

pub returns-in_err-verdict : goal.returns-in_err-verdict
unfolding quoted quote_answer
returns-in_err-verdict c =
    let p = err_from_is_err_and c.from_residual.result c.from_residual.ensures.1 in
    rw (p.1, p.2, ← c.in_err-verdict.ensures)

pub cost-requires : goal.cost-requires
unfolding Accepted class_of prices_in
cost-requires c =
    let t = tariff_of c.args.tariff in
    let passed = sym c.in_ok-verdict.ensures in
    (rw (c.of_class.ensures, c.at.ensures) (log_priced t c.requires c.args.log.now passed), accepted_sound t c.args.log.now passed)
