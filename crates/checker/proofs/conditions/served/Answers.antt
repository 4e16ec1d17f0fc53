-- `checker::conditions::served` meets its contract. Assumes nothing.
use mathlib.Core.Path.{◌∙◌}
use Rattle.request_log.specs.Fields.{server_count_of, home_of}
use Rattle.request_log.specs.RequestLaws.{request_part}
use Rattle.checker.specs.Quick.{served}
use Rattle.checker.proofs.conditions.served.Goals as goal

pub returns : goal.returns
unfolding served server_count_of home_of
returns c =
    let r = c.request_in-request in
    let read = request_part c.args.log.now c.args.i _ c.request_place-k.ensures in
    rw (c.stands.ensures, c.requires.0, c.requires.1, c.from.ensures, r.ensures.0 ∙ read.0, r.ensures.1 ∙ read.1)
