-- `planner::table::Asked::next_keep` meets its contract. Assumes nothing.
use borrow.Author.Rules.{rules}
use mathlib.Core.Path.{sym}
use native.Mathlib.Omega.{arith}
use Prim.Native.Nat.{suc}
use Rattle.model.proofs.TableLists.{at}
use Rattle.planner.specs.Prepared.{rates_of, asks_of}
use Rattle.planner.specs.Fits.{fits_less, ready_less, row_small}
use Rattle.planner.specs.TermLaws.{keep_none, keep_some, from_below, terms_small}
use Rattle.planner.proofs.table.Asked.next_keep.Goals as goal

pub returns-then-a-eq-NONE : goal.returns-then-a-eq-NONE
returns-then-a-eq-NONE c =
    let a = c.args in
    let few = c.requires.ready.fits.requests_most in
    sym (keep_none (rates_of a.self) (asks_of a.self) a.i (omega arith) a.a c.requires.a_value.0 (at a.costs.now) (at a.keeps.now) c.if-a-eq-NONE.true)

pub row-requires : goal.row-requires
row-requires c =
    let a = c.args in
    let few = c.requires.ready.fits.requests_most in record {
      ready = ready_less (rates_of a.self) a.self.seconds.now a.self.servers.now a.self.previous.now (suc a.i) a.i (omega arith) c.requires.ready;
      owned = c.requires.owned;
      tabled = c.requires.tabled;
      c_le_i = (
        from_below (rates_of a.self) (asks_of a.self) a.i (omega arith) a.a c.requires.a_value.0 c.if-a-eq-NONE.false,
        search rules,
        search rules,
      );
    }

pub overflow_add-result : goal.overflow_add-result
overflow_add-result c =
    let a = c.args in
    let q = asks_of a.self in
    let few = c.requires.ready.fits.requests_most in
    let left = c.if-a-eq-NONE.false in
    omega (
      arith,
      c.row.ensures,
      terms_small (rates_of a.self) q a.i (omega arith) a.a c.requires.a_value.0 c.requires.ready.fits,
      row_small (rates_of a.self) q a.i (fits_less (rates_of a.self) q (suc a.i) c.requires.ready.fits a.i (omega arith)) (at a.costs.now) (at a.keeps.now) a.a.from a.i c.requires.tabled (from_below (rates_of a.self) q a.i (omega arith) a.a c.requires.a_value.0 left) (omega arith),
    )

pub returns : goal.returns
returns c =
    let a = c.args in
    let few = c.requires.ready.fits.requests_most in
    rw c.row.ensures
    (sym (keep_some (rates_of a.self) (asks_of a.self) a.i (omega arith) a.a c.requires.a_value.0 (at a.costs.now) (at a.keeps.now) c.if-a-eq-NONE.false))
