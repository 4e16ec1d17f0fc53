-- `base::bytes::clear` meets its contract. Assumes nothing.
use Rattle.base.proofs.Clearing.{Clearing}
use Rattle.base.proofs.bytes.clear.Given as goal

abbrev pub invariant-loop-i : goal.invariant-loop-i
invariant-loop-i g l = Clearing g.T.Zero.ZERO l.initial.out l.from l.out l.i
