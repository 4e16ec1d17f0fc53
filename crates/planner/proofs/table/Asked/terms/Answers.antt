-- `planner::table::Asked::terms` meets its contract. Assumes nothing.
use native.Mathlib.Omega.{arith}
use mathlib.Core.Path.{◌∙◌}
use Rattle.planner.specs.ReadyLaws.{second_before, link_below, link_second, read_alone, read_after}
use Rattle.planner.specs.Prepared.{rates_of}
use Rattle.planner.proofs.table.Asked.terms.Goals as goal

pub held-gap-requires : goal.held-gap-requires
held-gap-requires c =
    let a = c.args in
    second_before (rates_of a.self) a.self.seconds.now a.self.servers.now a.self.previous.now a.i _ c.from-k.ensures c.requires

pub returns-then-from : goal.returns-then-from
returns-then-from c =
    let a = c.args in
    read_alone (rates_of a.self) a.self.seconds.now a.self.servers.now a.self.previous.now a.i _ c.from-k.ensures c.requires _ _ c.if-from.true c.may_leave-free.ensures c.held-gap.ensures

pub bounds-self-from : goal.bounds-self-from
bounds-self-from c =
    let a = c.args in
    omega (
      arith,
      link_below (rates_of a.self) a.self.seconds.now a.self.servers.now a.self.previous.now a.i _ c.from-k.ensures c.requires c.if-from.false,
      c.from.ensures,
      c.requires.fits.requests_most,
    )

pub held-span-requires : goal.held-span-requires
held-span-requires c =
    let a = c.args in
    rw c.from.ensures
    (link_second (rates_of a.self) a.self.seconds.now a.self.servers.now a.self.previous.now a.i _ c.from-k.ensures c.requires c.if-from.false)

pub returns-else-from : goal.returns-else-from
returns-else-from c =
    let a = c.args in
    read_after (rates_of a.self) a.self.seconds.now a.self.servers.now a.self.previous.now a.i _ c.from-k.ensures c.requires _ _ _ c.if-from.false c.may_leave-free.ensures
    (c.held-span.ensures ∙ rw c.from.ensures) c.held-gap.ensures
