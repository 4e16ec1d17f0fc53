-- `planner::requests::link` meets its contract. Assumes nothing.
use borrow.Author.Rules.{rules}
use mathlib.Core.Path.{◌≡◌, refl, ap, ◌∙◌}
use native.Mathlib.Numerals.{add-one}
use native.Mathlib.Omega.{arith}
use Prim.Native.Nat.{suc}
use lib.ListN.{length, length-set}
use Rattle.base.specs.Lists.{build}
use Rattle.base.specs.LentLaws.{filling_ends}
use Rattle.model.proofs.TableLists.{at}
use Rattle.model.proofs.RecentLaws.{recents_zero, recents_next}
use Rattle.planner.specs.Loading.{links}
use Rattle.planner.specs.Terms.{index}
use Rattle.planner.specs.LinkLaws.{links_front, links_next}
use Rattle.planner.proofs.requests.link.Goals as goal

pub loop-i-init : goal.loop-i-init
unfolding links_front build index
loop-i-init c = (recents_zero (at c.args.servers.now) index, refl, refl)

pub link_one-requires : goal.link_one-requires
link_one-requires c =
    let l = c.loop-i in
    (search rules, c.requires.1 l.i, l.invariant.1 ∙ c.requires.2)

pub loop-i-preserved : goal.loop-i-preserved
unfolding index
loop-i-preserved c =
    let a = c.args in
    let l = c.loop-i in
    let t = at a.servers.now in
    let e = c.link_one.ensures in (
      rw (e.recent_after, l.invariant.0, add-one l.i) (recents_next t index l.i),
      ap length e.previous_after ∙ length-set l.previous _ _ ∙ l.invariant.1,
      rw (e.previous_after, l.invariant.0, l.invariant.2, add-one l.i) (links_next t l.i a.previous.now (omega arith) (c.requires.1 l.i)),
    )

pub returns : goal.returns
unfolding links_front links
returns c =
    let a = c.args in
    let l = c.loop-i in
    let e : l.i ≡ suc a.n = omega arith in
    c.clear.ensures ∙ filling_ends _ a.previous.now l.previous (suc a.n) _ (omega (arith, c.requires)) (rw (c.from.ensures, add-one a.n)) (rw e at l.invariant.2)
