-- `planner::table::Asked::own_costs` meets its contract. Assumes nothing.
use borrow.Author.Rules.{rules}
use mathlib.Core.Path.{refl, ◌∙◌}
use native.Mathlib.Numerals.{add-one}
use native.Mathlib.Omega.{arith}
use Prim.Native.Nat.{suc}
use lib.ListN.{length-set}
use Rattle.planner.specs.Prepared.{rates_of, asks_of}
use Rattle.planner.specs.Fits.{ready_less}
use Rattle.planner.specs.StepLaws.{owned_more}
use Rattle.planner.proofs.table.Asked.own_costs.Goals as goal

pub loop-i-init : goal.loop-i-init
loop-i-init c = (refl, λ k h. absurd (omega arith))

pub own_cost-requires : goal.own_cost-requires
own_cost-requires c =
    let a = c.args in
    ready_less (rates_of a.self) a.self.seconds.now a.self.servers.now a.self.previous.now a.n (suc c.loop-i.i) (search rules) c.requires.ready

pub loop-i-preserved : goal.loop-i-preserved
loop-i-preserved c =
    let a = c.args in
    let l = c.loop-i in (
      length-set l.owns _ _ ∙ l.invariant.0,
      rw (c.from.ensures, add-one l.i)
          (owned_more (rates_of a.self) (asks_of a.self) l.i l.owns _ l.invariant.1 (omega (arith, l.invariant.0, c.requires.n_in_bounds)) c.own_cost.ensures),
    )
