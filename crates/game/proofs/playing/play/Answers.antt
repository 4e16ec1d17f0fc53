-- `game::playing::play` meets its contract. Assumes nothing.
use native.Mathlib.Omega.{arith}
use Rattle.std.proofs.Common.{rules}
use mathlib.Core.Path.{◌≡◌, sym, ap, ◌∙◌}
use mathlib.Core.Bool.{Bool}
use Rattle.base.specs.Choice.{pick}
use Rattle.game.specs.BoardLaws.{shown_start, fits_start}
use Rattle.game.specs.Boards.{shown, start_board}
use Rattle.game.specs.AnswerLaws.{ranged, played_winner}
use Rattle.game.specs.Answers.{played}
use Rattle.game.specs.declared.board.Board.{Board}
use Rattle.game.specs.declared.Winner.TheVariants.{Keeper, Guest}
use Rattle.forcing.specs.Winning.{keeper_wins}
use Rattle.forcing.specs.Positions.{start}
use Rattle.forcing.specs.declared.Game.{Game}
use Rattle.game.proofs.playing.play.Goals as goal
use Rattle.std.specs.Prelude.{Ok}

-- the keeper's turn from the start
wins : (g : Game) (b : Board) (r : Bool) → b ≡ start_board → r ≡ keeper_wins g g.requests (shown b) → keeper_wins g g.requests start ≡ r
wins g b r e h = sym (h ∙ ap (keeper_wins g g.requests) (ap shown e ∙ shown_start))

pub returns-in_err-play_fault : goal.returns-in_err-play_fault
unfolding played
returns-in_err-play_fault c = rw (← c.play_fault.ensures, c.in_err-play_fault.was) (search rules)

pub keeper-requires : goal.keeper-requires
unfolding start_board
keeper-requires c =
    let g = c.args.game in
    let R = (ranged g).0 (sym c.play_fault.ensures ∙ c.in_ok-play_fault.was) in
    (R, rw c.start.ensures (fits_start g), R.requests_least, rw c.start.ensures (omega (arith, R.requests_most)))

pub returns-then-keeper : goal.returns-then-keeper
returns-then-keeper c =
    let g = c.args.game in
    sym (played_winner g (sym c.play_fault.ensures ∙ c.in_ok-play_fault.was) ∙ ap (λ (b : Bool). pick b (Ok Keeper) (Ok Guest)) (wins g c.start.result c.keeper.result c.start.ensures c.keeper.ensures ∙ c.if-keeper.true))

pub returns : goal.returns
returns c =
    let g = c.args.game in
    sym (played_winner g (sym c.play_fault.ensures ∙ c.in_ok-play_fault.was) ∙ ap (λ (b : Bool). pick b (Ok Keeper) (Ok Guest)) (wins g c.start.result c.keeper.result c.start.ensures c.keeper.ensures ∙ c.if-keeper.false))
