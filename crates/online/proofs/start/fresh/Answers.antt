-- `online::start::fresh` meets its contract. Assumes nothing.
use Rattle.online.specs.Rules.{fresh, zeros}
use Rattle.online.specs.StartLaws.{set_one}
use Rattle.online.proofs.start.fresh.Goals as goal

pub returns : goal.returns
unfolding fresh zeros
returns c = λ table e. rw (c.zeros.ensures, set_one 64 c.args.header.home, c.put.ensures, c.from-last.ensures, e)
