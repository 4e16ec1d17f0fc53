-- `base::bytes::copy` meets its contract. Assumes nothing.
use native.Mathlib.Omega.{arith}
use Rattle.std.proofs.Common.{sym, ◌≡◌, ◌+◌, ◌-◌, length, drop-drop}
use Rattle.base.specs.Lists.{splice_fits, splice_over}
use Rattle.base.proofs.bytes.copy.Goals.{else-from-out-via-then-from-out+else-at-out, else-from-out-via-else-from-out}
use Rattle.base.proofs.bytes.copy.Goals as goal

pub returns-then-at-out : goal.returns-then-at-out
returns-then-at-out c =
    let a = c.args in
    let e : a.at + length a.from.now - a.at ≡ length a.from.now = omega arith in
    rw (splice_fits a.at a.from.now a.out.now (omega arith), e, c.copy_from_slice.ensures.after, drop-drop)

pub returns-else-from-out : goal.returns-else-from-out
returns-else-from-out c =
    let a = c.args in
    sym (splice_over a.at a.from.now a.out.now (elim c.else-from-out.branch [
      | else-from-out-via-then-from-out+else-at-out w ↦ omega arith
      | else-from-out-via-else-from-out w ↦ omega arith
    ]))
