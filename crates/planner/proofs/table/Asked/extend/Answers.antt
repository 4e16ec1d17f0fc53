-- `planner::table::Asked::extend` meets its contract. Assumes nothing.
use borrow.Author.Rules.{rules}
use mathlib.Core.Path.{sym, ap}
use native.Mathlib.Numerals.{add-one}
use native.Mathlib.Omega.{arith}
use Prim.Native.Nat.{suc}
use lib.ListN.{set}
use Rattle.planner.specs.Prepared.{rates_of, asks_of}
use Rattle.planner.specs.Fits.{best_small}
use Rattle.planner.specs.TermLaws.{terms_small, cost_terms}
use Rattle.planner.proofs.table.Asked.extend.Goals as goal

pub next_keep-d-requires : goal.next_keep-d-requires
next_keep-d-requires c =
    record { ready = c.requires.ready; owned = c.requires.owned; tabled = c.requires.tabled; a_value = (c.terms-a.ensures, search rules, search rules) }

pub next_least-requires : goal.next_least-requires
next_least-requires c =
    let a = c.args in
    let q = asks_of a.self in
    let few = c.requires.ready.fits.requests_most in (
      (terms_small (rates_of a.self) q a.i (omega arith) _ c.terms-a.ensures c.requires.ready.fits).1,
      omega (arith, c.requires.ready.fits.upload_most),
      rw c.from-k.ensures
          (omega (arith, c.requires.tabled.costs a.i (omega arith), best_small (rates_of a.self) q (suc a.i) c.requires.ready.fits a.i a.i (omega arith) (omega arith))),
    )

pub bounds-costs-k-2 : goal.bounds-costs-k-2
bounds-costs-k-2 c =
    let room = c.requires.i_in_bounds in
    search rules

pub bounds-keeps-k : goal.bounds-keeps-k
bounds-keeps-k c =
    let room = c.requires.i_in_bounds in
    search rules

pub returns : goal.returns
returns c =
    let a = c.args in
    let q = asks_of a.self in
    let few = c.requires.ready.fits.requests_most in
    let d = c.next_keep-d in record {
      costs_after = rw (c.next_least.ensures, c.from-k.ensures, add-one a.i, d.ensures, c.terms-a.ensures)
          (ap (set a.costs.now (suc a.i)) (sym (cost_terms (rates_of a.self) q a.i _ _ (omega arith))));
      keeps_after = rw (c.from-k.ensures, add-one a.i, d.ensures);
    }
