-- `planner::requests::read_requests` meets its contract. Assumes nothing.
use mathlib.Core.Path.{ap, ◌∙◌}
use Rattle.base.specs.Refusals.{Verdict}
use Rattle.prices.specs.Tariff.{tariff_of}
use Rattle.request_log.specs.Fields.{seconds_of, servers_of}
use Rattle.planner.specs.LoadLaws.{behind_length, behind_back}
use Rattle.request_log.specs.AnswerLaws.{read_long}
use Rattle.request_log.specs.Answers.{decoded}
use Rattle.planner.proofs.requests.read_requests.Goals as goal

pub returns : goal.returns
returns c =
    let a = c.args in
    let log = a.log.now in
    let e = read_long (tariff_of a.tariff) log _ _ (behind_length a.seconds.now c.requires.0) (behind_length a.servers.now c.requires.1) in record { value = c.read_by.ensures.value ∙ ap (λ (v : Verdict). decoded v log) e; seconds_after = behind_back _ _ (seconds_of log) a.seconds.now _ e c.read_by.ensures.seconds_after; servers_after = behind_back _ _ (servers_of log) a.servers.now _ e c.read_by.ensures.servers_after }
