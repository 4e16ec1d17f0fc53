-- `planner::walk::write_marks` meets its contract: when the loop stands at i, v is the cost of i requests where the gaps above c are covered, and the letters still to be found, before those written, are the whole walk's. Assumes nothing.
use mathlib.Core.Path.{◌≡◌, refl, ap, sym, ◌∙◌}
use native.Mathlib.Numerals.{add-one}
use native.Mathlib.Omega.{arith}
use Prim.Native.Nat.{ℕ, suc, ◌-◌}
use Rattle.model.specs.Table.{best}
use Rattle.model.proofs.TableLists.{at}
use Rattle.planner.specs.Asked.{asks}
use Rattle.planner.specs.Fits.{ready_less}
use Rattle.planner.specs.Walked.{Keeps, turned}
use Rattle.planner.specs.TurnLaws.{turned_right}
use Rattle.planner.specs.WalkLaws.{walked_step, walked_all}
use Rattle.planner.specs.Fees.{rated}
use Rattle.planner.proofs.walk.write_marks.Goals as goal

pub loop-i-init : goal.loop-i-init
loop-i-init c = rw c.from.ensures (c.requires.tabled.costs c.args.n (omega arith), refl)

pub step_back-t-requires : goal.step_back-t-requires
unfolding Keeps
step_back-t-requires c =
    let a = c.args in
    let l = c.loop-i in
    let q = asks a.seconds.now a.servers.now in
    let e : suc (l.i - 1) ≡ l.i = omega arith in record {
      ready = ready_less (rated a.fees) a.seconds.now a.servers.now a.previous.now a.n (suc (l.i - 1)) (omega arith) c.requires.ready;
      v_value = (
        l.invariant.0 ∙ ap (λ (x : ℕ). best (rated a.fees) q x l.c) (sym e),
        rw (c.from-k.ensures, add-one (l.i - 1)) (λ j z. c.requires.tabled.keeps (l.i - 1) j (omega arith) z),
      );
    }

pub loop-i-preserved : goal.loop-i-preserved
unfolding Keeps
loop-i-preserved c =
    let a = c.args in
    let l = c.loop-i in
    let q = asks a.seconds.now a.servers.now in
    let e : suc (l.i - 1) ≡ l.i = omega arith in
    let t : c.step_back-t.result ≡ turned (rated a.fees) q (l.i - 1) l.c (at a.keeps.now (suc (l.i - 1))) l.v =
    c.step_back-t.ensures ∙ rw (c.from-k.ensures, add-one (l.i - 1)) in (
      rw t
          (turned_right (rated a.fees) q (l.i - 1) l.c (at a.keeps.now (suc (l.i - 1))) l.v (l.invariant.0 ∙ ap (λ (x : ℕ). best (rated a.fees) q x l.c) (sym e))
          (λ j z. c.requires.tabled.keeps (l.i - 1) j (omega arith) z)),
      rw c.from-k.ensures
          (walked_step (rated a.fees) q (at a.keeps.now) (l.i - 1) l.c l.v l.i l.letters _ c.step_back-t.result e (omega arith) t l.invariant.1),
    )

pub returns : goal.returns
returns c =
    let a = c.args in
    let l = c.loop-i in
    let e : l.i ≡ 0 = omega arith in
    walked_all (rated a.fees) (asks a.seconds.now a.servers.now) (at a.costs.now) (at a.keeps.now) a.n l.c l.v l.letters a.letters.now c.requires.tabled (rw e at l.invariant.1)
