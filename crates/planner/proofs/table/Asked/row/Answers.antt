-- `planner::table::Asked::row` meets its contract. Assumes nothing.
use mathlib.Core.Path.{◌≡◌, sym, ◌∙◌}
use native.Mathlib.Omega.{arith}
use Rattle.model.proofs.TableLists.{at}
use Rattle.model.proofs.TableRows.{row_start}
use Rattle.planner.specs.Prepared.{rates_of, asks_of}
use Rattle.planner.specs.Fits.{row_small}
use Rattle.planner.specs.StepLaws.{owned_small, row_more}
use Rattle.planner.proofs.table.Asked.row.Goals as goal

pub loop-k-init : goal.loop-k-init
loop-k-init c =
    let a = c.args in
    rw c.from-start.ensures (sym (row_start (rates_of a.self) (asks_of a.self) (at a.costs.now) (at a.keeps.now) a.c))

pub next_cost-v-requires : goal.next_cost-v-requires
next_cost-v-requires c =
    let a = c.args in
    let l = c.loop-k in (
      owned_small (rates_of a.self) a.self.seconds.now a.self.servers.now a.self.previous.now a.owns.now a.i c.requires.ready c.requires.owned l.k (omega arith),
      rw l.invariant
          (row_small (rates_of a.self) (asks_of a.self) a.i c.requires.ready.fits (at a.costs.now) (at a.keeps.now) a.c l.k c.requires.tabled (omega arith) (omega arith)),
    )

pub loop-k-preserved : goal.loop-k-preserved
loop-k-preserved c =
    let a = c.args in
    let l = c.loop-k in
    c.next_cost-v.ensures
    ∙ row_more (rates_of a.self) a.self.seconds.now a.self.servers.now a.self.previous.now a.owns.now a.i c.requires.ready c.requires.owned a.costs.now a.keeps.now c.requires.tabled a.c l.k l.v (omega arith) (omega arith) l.invariant

pub returns : goal.returns
returns c =
    let l = c.loop-k in
    let e : l.k ≡ c.args.i = omega (arith, l.auto.k-end (omega (arith, c.from-start.ensures, c.from-k-end.ensures, c.requires.c_le_i.0))) in
    rw e at l.invariant
