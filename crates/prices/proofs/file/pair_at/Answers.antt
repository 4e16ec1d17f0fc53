-- `prices::file::pair_at` meets its contract. Assumes nothing.
use mathlib.Core.Path.{◌∙◌}
use native.Mathlib.Omega.{arith}
use Prim.Native.Nat.{◌+◌, ◌*◌, ◌-◌}
use Rattle.base.specs.BytesLaws.{le32_part}
use Rattle.prices.specs.FileLaws.{pair_read}
use Rattle.prices.proofs.file.pair_at.Goals as goal

pub returns : goal.returns
returns c =
    let a = c.args in
    let n = c.from in
    let i = 4 + 8 * n.result in
    pair_read a.file.now a.class (i + 0) (i + 4 + 0) _ _ (omega (arith, n.ensures)) (omega (arith, n.ensures))
    (c.at32.ensures ∙ le32_part _ i (i + 4 - i) 0 (omega arith))
    (c.at32-2.ensures ∙ le32_part _ (i + 4) (i + 8 - (i + 4)) 0 (omega arith))
