-- The turns of the game, `game::turns`, which call each other, meet their contracts. Assumes nothing.
use Rattle.std.proofs.Common.{◌≡◌, ◌+◌, ◌-◌, ◌<◌, List, ℕ, not, refl, sym, ap, ◌∙◌, add-one, arith}
use Rattle.base.specs.Below.{some_below}
use Rattle.base.specs.BelowLaws.{below_one, below_next}
use Rattle.forcing.specs.Winning.{guest_wins, keeper_wins}
use Rattle.game.specs.BoardLaws.{shown_moved, fits_moved, moved_count}
use Rattle.game.specs.Boards.{shown, stays_in}
use Rattle.game.specs.SettingLaws.{setting_set}
use Rattle.game.specs.Settings.{settings}
use Rattle.game.specs.TurnLaws.{beats, asking, found, beats_rest, beats_end, guest_gaps, keeper_settings}
use Rattle.game.proofs.turns.+asks_beats_guest_keeper.Goals as goal

pub asks-loop-x-init : goal.asks-loop-x-init
unfolding some_below
asks-loop-x-init t c = refl

pub asks-returns-then-beats : goal.asks-returns-then-beats
asks-returns-then-beats t c =
    let a = c.args in
    sym (below_one a.game.servers (beats a.game (shown a.board) (stays_in a.stays) a.left (a.i + 1)) c.loop-x.x c.loop-x-test.true (sym c.beats.ensures ∙ c.if-beats.true))

pub asks-loop-x-preserved : goal.asks-loop-x-preserved
asks-loop-x-preserved t c =
    let a = c.args in
    let l = c.loop-x in
    rw (add-one l.x)
    (below_next l.x (beats a.game (shown a.board) (stays_in a.stays) a.left (a.i + 1)) l.invariant (sym c.beats.ensures ∙ c.if-beats.false))

pub beats-returns-then-left-eq0 : goal.beats-returns-then-left-eq0
beats-returns-then-left-eq0 t c =
    let a = c.args in
    sym (beats_end a.game (shown a.board) (stays_in a.stays) a.left (a.i + 1) a.x (sym c.holds.ensures ∙ c.if-not-holds.false) c.if-left-eq0.true)

pub beats-keeper-requires : goal.beats-keeper-requires
beats-keeper-requires t c =
    let a = c.args in
    let p = c.requires in
    let T = p.0 in (
      omega (arith, c.decreases),
      (
        T.ranged,
        rw c.moved.ensures (fits_moved a.game a.board a.stays (a.i + 1) a.x T.ranged T.fits T.set (omega (arith, p.1)) p.2),
        omega (arith, c.if-left-eq0.false),
        rw (c.moved.ensures, moved_count a.game a.board a.stays (a.i + 1) a.x) (omega (arith, p.1)),
      ),
    )

pub beats-returns : goal.beats-returns
beats-returns t c =
    let a = c.args in
    let p = c.requires in
    let T = p.0 in
    let shows = shown_moved a.game a.board a.stays (a.i + 1) a.x T.ranged T.fits T.set (omega (arith, p.1)) p.2 in
    ap not (c.keeper.ensures ∙ ap (keeper_wins a.game a.left) (ap shown c.moved.ensures ∙ shows))
    ∙ sym (beats_rest a.game (shown a.board) (stays_in a.stays) a.left (a.i + 1) a.x (sym c.holds.ensures ∙ c.if-not-holds.false))

pub guest-loop-i-init : goal.guest-loop-i-init
unfolding some_below
guest-loop-i-init t c = refl

pub guest-returns-then-asks : goal.guest-returns-then-asks
guest-returns-then-asks t c =
    let a = c.args in
    sym (guest_gaps a.game (shown a.board) (stays_in a.stays) a.left ∙ below_one a.game.largest (asking a.game (shown a.board) (stays_in a.stays) a.left) c.loop-i.i c.loop-i-test.true (sym c.asks.ensures ∙ c.if-asks.true))

pub guest-loop-i-preserved : goal.guest-loop-i-preserved
guest-loop-i-preserved t c =
    let a = c.args in
    let l = c.loop-i in
    rw (add-one l.i)
    (below_next l.i (asking a.game (shown a.board) (stays_in a.stays) a.left) l.invariant (sym c.asks.ensures ∙ c.if-asks.false))

pub guest-returns : goal.guest-returns
guest-returns t c =
    let a = c.args in
    let l = c.loop-i in
    let e : l.i ≡ a.game.largest = omega (arith, c.loop-i-test.false) in
    sym (guest_gaps a.game (shown a.board) (stays_in a.stays) a.left ∙ (rw e at l.invariant))

pub keeper-loop-k-init : goal.keeper-loop-k-init
unfolding some_below
keeper-loop-k-init t c = refl

pub keeper-guest-requires : goal.keeper-guest-requires
keeper-guest-requires t c =
    let a = c.args in
    let p = c.requires in
    let in_all : c.loop-k.k < settings a.game a.board = omega (arith, c.loop-k-test.true, c.settings-k-end.ensures.value) in (
      omega (arith, c.decreases, p.2),
      (
        record {
          ranged = p.0;
          fits = p.1;
          set = rw c.setting.ensures (setting_set a.game a.board p.0 p.1 c.loop-k.k in_all);
          allows = c.limits-allowed.ensures;
        },
        omega (arith, p.2, p.3),
      ),
    )

pub keeper-returns-then-not-guest : goal.keeper-returns-then-not-guest
keeper-returns-then-not-guest t c =
    let a = c.args in
    let p = c.requires in
    let in_all : c.loop-k.k < settings a.game a.board = omega (arith, c.loop-k-test.true, c.settings-k-end.ensures.value) in
    sym (keeper_settings a.game a.board p.0 p.1 a.left p.2 ∙ below_one (settings a.game a.board) (found a.game a.board (a.left - 1)) c.loop-k.k in_all (ap not (ap (λ (s : List ℕ). guest_wins a.game (shown a.board) (stays_in s) (keeper_wins a.game (a.left - 1))) (sym c.setting.ensures) ∙ (sym c.guest.ensures ∙ c.if-not-guest.true))))

pub keeper-loop-k-preserved : goal.keeper-loop-k-preserved
keeper-loop-k-preserved t c =
    let a = c.args in
    let l = c.loop-k in
    rw (add-one l.k)
    (below_next l.k (found a.game a.board (a.left - 1)) l.invariant (ap not (ap (λ (s : List ℕ). guest_wins a.game (shown a.board) (stays_in s) (keeper_wins a.game (a.left - 1))) (sym c.setting.ensures) ∙ (sym c.guest.ensures ∙ c.if-not-guest.false))))

pub keeper-returns : goal.keeper-returns
keeper-returns t c =
    let a = c.args in
    let p = c.requires in
    let l = c.loop-k in
    let e : l.k ≡ settings a.game a.board = omega (arith, c.loop-k-test.false, c.settings-k-end.ensures.value) in
    sym (keeper_settings a.game a.board p.0 p.1 a.left p.2 ∙ (rw e at l.invariant))
