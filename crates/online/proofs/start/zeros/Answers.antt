-- `online::start::zeros` meets its contract. Assumes nothing.
use Rattle.online.specs.Rules.{zeros}
use Rattle.online.specs.StartLaws.{build_const}
use Rattle.online.proofs.start.zeros.Goals as goal

pub returns : goal.returns
unfolding zeros
returns c = rw (build_const 64 0)
