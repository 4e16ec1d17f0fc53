-- `rows::sets::member` meets its contract. Assumes nothing.
use Rattle.std.proofs.Common.{sym, le-ltb}
use Rattle.base.specs.SetLaws.{has_over}
use Rattle.rows.proofs.sets.member.Goals as goal

pub returns-else-x-lt64 : goal.returns-else-x-lt64
returns-else-x-lt64 c =
    rw (le-ltb _ _ c.if-x-lt64.false) (sym (has_over 64 c.args.w c.args.x c.ranges.w.fits c.if-x-lt64.false))
