-- `checker::checking::cost` meets its contract. Assumes nothing.
use native.Mathlib.Omega.{arith}
use native.Mathlib.Nat.{mul-le-mul}
use Prim.Native.Nat.{◌≤◌, ◌^◌}
use Rattle.model.specs.Rates.{rates}
use Rattle.model.specs.Schedule.{cost_of}
use Rattle.model.specs.Checking.{check_cost}
use Rattle.rows.specs.GivenLaws.{asked_fee}
use Rattle.checker.proofs.checking.cost.Goals as goal

pub overflow_mul-uploads : goal.overflow_mul-uploads
overflow_mul-uploads c =
    let f = asked_fee c.args.upload in
    let p : c.from.result ≤ 1000000 = omega arith in
    let q : c.counted-s.result.uploads ≤ 2 ^ 40 = omega arith in
    omega (arith, mul-le-mul p q)

pub overflow_add-result-2 : goal.overflow_add-result-2
overflow_add-result-2 c =
    let f = asked_fee c.args.upload in
    let p : c.from-2.result ≤ 1000000 = omega arith in
    let q : c.counted-s.result.seconds ≤ 2 ^ 40 = omega arith in
    let r : c.from-3.result ≤ 1000000 = omega arith in
    let s : c.counted-s.result.transfers ≤ 2 ^ 40 = omega arith in
    let t : c.from.result ≤ 1000000 = omega arith in
    let u : c.counted-s.result.uploads ≤ 2 ^ 40 = omega arith in
    omega (arith, mul-le-mul p q, mul-le-mul r s, mul-le-mul t u)

pub returns : goal.returns
unfolding check_cost cost_of rates
returns c =
    let n = c.counted-s.ensures in
    rw (c.from-2.ensures, c.from-3.ensures, c.from.ensures, c.unwrap_or.ensures, asked_fee c.args.upload, n.0, n.1, n.2) (omega arith)
