-- `planner::holders::holders` meets its contract: when the loop stands at i, w has the servers kept over gap i + 1, and the words of the gaps above i are in place. Assumes nothing.
use mathlib.Core.Path.{◌≡◌, ◌∙◌}
use Prim.Native.Nat.{suc, ◌+◌, ◌-◌, ◌≤◌, min}
use native.Mathlib.Omega.{arith}
use Rattle.model.proofs.TableLists.{at}
use Rattle.request_log.specs.Sizes.{most_requests}
use Rattle.planner.specs.Sizes.{places}
use Rattle.planner.specs.HolderWords.{kept_word, marking}
use Rattle.planner.specs.GapWordLaws.{words_none, words_back, words_all, kept_none, kept_back}
use Rattle.planner.proofs.holders.holders.Goals as goal

pub loop-before-init : goal.loop-before-init
loop-before-init c =
    let s = at c.args.servers.now in
    let m = marking c.args.letters.now in
    let n = min c.args.n most_requests in
    rw (c.min-end.ensures, c.from.ensures) (kept_none s m n, words_none s m n places)

pub loop-before-preserved : goal.loop-before-preserved
loop-before-preserved c =
    let l = c.loop-before in
    let i = l.before in
    let s = at c.args.servers.now in
    let m = marking c.args.letters.now in
    let n = min c.args.n most_requests in
    let few : i ≤ n = omega arith in
    let e : i - 1 + 1 ≡ i = omega arith in
    let w : c.kept_step-w.result ≡ kept_word s m (suc (i - 1)) (n - (i - 1)) =
    c.kept_step-w.ensures ∙ rw (c.server.ensures, c.kept.ensures, l.invariant.0, e) (kept_back s m n i (omega arith) few) in (
      w,
      rw (c.or_server.ensures, w, c.server-in-loop-before.ensures, c.loaded.ensures, l.invariant.1, e) (words_back s m n places i (omega arith) few (omega arith)),
    )

pub returns : goal.returns
returns c =
    let l = c.loop-before in
    let n = min c.args.n most_requests in
    let e : l.before ≡ 0 = omega arith in
    l.invariant.1 ∙ rw e (words_all (at c.args.servers.now) (marking c.args.letters.now) n places)
