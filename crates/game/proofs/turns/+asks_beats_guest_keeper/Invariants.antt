-- The measures of the turns, which call each other, and what their loops keep.
use Rattle.std.proofs.Common.{◌≡◌, ◌+◌, ◌-◌, ◌*◌, false}
use Rattle.base.specs.Below.{some_below}
use Rattle.game.specs.Boards.{shown, stays_in}
use Rattle.game.specs.TurnLaws.{beats, asking, found}
use Rattle.game.proofs.turns.+asks_beats_guest_keeper.Given as goal

abbrev pub decreases-asks : goal.decreases-asks
decreases-asks l = 4 * l.left + 2

abbrev pub decreases-beats : goal.decreases-beats
decreases-beats l = 4 * l.left + 1

abbrev pub decreases-guest : goal.decreases-guest
decreases-guest l = 4 * l.left + 3

abbrev pub decreases-keeper : goal.decreases-keeper
decreases-keeper l = 4 * l.left

abbrev pub invariant-asks-loop-x : goal.invariant-asks-loop-x
invariant-asks-loop-x l = some_below l.x (beats l.game (shown l.board) (stays_in l.stays) l.left (l.i + 1)) ≡ false

abbrev pub invariant-guest-loop-i : goal.invariant-guest-loop-i
invariant-guest-loop-i l = some_below l.i (asking l.game (shown l.board) (stays_in l.stays) l.left) ≡ false

abbrev pub invariant-keeper-loop-k : goal.invariant-keeper-loop-k
invariant-keeper-loop-k l = some_below l.k (found l.game l.board (l.left - 1)) ≡ false
