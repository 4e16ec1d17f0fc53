-- `base::bytes::clear` meets its contract. Assumes nothing.
use native.Mathlib.Omega.{arith}
use Rattle.base.proofs.Clearing.{clearing_begins, clearing_next, clearing_ends}
use Rattle.base.proofs.bytes.clear.Goals as goal

pub loop-i-init : goal.loop-i-init
loop-i-init g c = clearing_begins g.T.Zero.ZERO c.args.from c.args.out.now

pub loop-i-preserved : goal.loop-i-preserved
loop-i-preserved g c =
    let a = c.args in
    let l = c.loop-i in
    rw c.ZERO.ensures (clearing_next g.T.Zero.ZERO a.from a.out.now l.out l.i l.invariant (omega arith))

pub returns : goal.returns
returns g c =
    let a = c.args in
    let l = c.loop-i in
    clearing_ends g.T.Zero.ZERO a.from a.out.now l.out l.i l.invariant (omega arith)
