-- `base::bytes::edge16` meets its contract: past the end `le16` gives 0. Assumes nothing.
use mathlib.Core.Path.{sym}
use Rattle.base.specs.BytesLaws.{le16_past}
use Rattle.base.proofs.bytes.edge16.Goals as goal

pub returns-then-s-i : goal.returns-then-s-i
returns-then-s-i c = sym (le16_past c.args.s.now c.args.i c.if-s-i.true)
