-- `planner::holders::holders` meets its contract: when the loop stands at i, w has the servers kept over gap i + 1, and the words of the gaps above i are in place. Assumes nothing.
use mathlib.Core.Path.{◌≡◌}
use Prim.Native.Nat.{suc, ◌-◌, min}
use Rattle.model.proofs.TableLists.{at}
use Rattle.base.specs.Lists.{build}
use Rattle.request_log.specs.Sizes.{most_requests}
use Rattle.planner.specs.Sizes.{places}
use Rattle.planner.specs.HolderWords.{kept_word, marking}
use Rattle.planner.specs.GapWordLaws.{words_above}
use Rattle.planner.proofs.holders.holders.Given as goal

abbrev pub invariant-loop-before : goal.invariant-loop-before
invariant-loop-before l =
    (l.w ≡ kept_word (at l.servers) (marking l.letters) (suc l.before) (min l.n most_requests - l.before))
    × (l.words ≡ build places (words_above (at l.servers) (marking l.letters) (min l.n most_requests) l.before))
