-- `planner::table::fill` meets its contract. Assumes nothing.
use borrow.Author.Rules.{rules}
use mathlib.Core.Path.{◌≡◌, ap, ◌∙◌}
use native.Mathlib.Numerals.{add-one}
use native.Mathlib.Omega.{arith}
use Prim.Native.Nat.{suc}
use lib.ListN.{length, length-set}
use Rattle.model.proofs.TableLists.{lists}
use Rattle.planner.specs.FillLaws.{set_first, filled_tabled, costs_more, keeps_more}
use Rattle.planner.specs.Asked.{asks}
use Rattle.planner.specs.Fits.{ready_less}
use Rattle.planner.specs.Fees.{rated}
use Rattle.planner.proofs.table.fill.Goals as goal

pub returns-then-n-eq0 : goal.returns-then-n-eq0
unfolding lists
returns-then-n-eq0 c =
    let a = c.args in
    record {
      costs_after = rw c.if-n-eq0.true (set_first a.costs.now 0 (search rules));
      keeps_after = rw c.if-n-eq0.true (set_first a.keeps.now 0 (search rules));
    }

pub own_costs-requires : goal.own_costs-requires
own_costs-requires c =
    record { ready = c.requires.ready; n_in_bounds = omega (arith, c.requires.ready.fits.requests_most) }

pub loop-i-init : goal.loop-i-init
unfolding lists
loop-i-init c =
    let a = c.args in
    (length-set a.costs.now 0 0, length-set a.keeps.now 0 0, set_first a.costs.now 0 (search rules), set_first a.keeps.now 0 (search rules))

pub extend-requires : goal.extend-requires
extend-requires c =
    let a = c.args in
    let l = c.loop-i in
    record {
      ready = ready_less (rated a.fees) a.seconds.now a.servers.now a.previous.now a.n (suc l.i) (search rules) c.requires.ready;
      owned = λ k h. c.own_costs.ensures k (omega arith);
      tabled = filled_tabled (rated a.fees) (asks a.seconds.now a.servers.now) l.i _ _ l.costs l.keeps l.invariant.2 l.invariant.3;
      i_in_bounds = (omega (arith, l.invariant), omega (arith, l.invariant));
    }

pub loop-i-preserved : goal.loop-i-preserved
loop-i-preserved c =
    let a = c.args in
    let l = c.loop-i in
    let q = asks a.seconds.now a.servers.now in
    let e = c.extend.ensures in (
      ap length e.costs_after ∙ length-set l.costs _ _ ∙ l.invariant.0,
      ap length e.keeps_after ∙ length-set l.keeps _ _ ∙ l.invariant.1,
      e.costs_after ∙ rw (add-one l.i) (costs_more (rated a.fees) q l.i a.costs.now a.keeps.now l.costs l.keeps l.invariant.2 l.invariant.3 (omega arith)),
      e.keeps_after ∙ rw (add-one l.i) (keeps_more (rated a.fees) q l.i a.costs.now a.keeps.now l.costs l.keeps l.invariant.2 l.invariant.3 (omega arith)),
    )

pub returns : goal.returns
returns c =
    let l = c.loop-i in
    let e : l.i ≡ c.args.n = omega arith in
    record { costs_after = rw e at l.invariant.2; keeps_after = rw e at l.invariant.3 }
