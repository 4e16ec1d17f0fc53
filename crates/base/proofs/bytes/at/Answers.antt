-- `base::bytes::at` meets its contract: past the end `byte` gives 0. Assumes nothing.
use mathlib.Core.Path.{sym}
use lib.ListN.{get_or-eq_default}
use Rattle.base.proofs.bytes.at.Goals as goal

pub returns : goal.returns
returns c = sym (get_or-eq_default c.args.s.now 0 c.if-i-s.false)
