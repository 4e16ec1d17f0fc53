-- `game::settings::setting` meets its contract. Assumes nothing.
use native.Mathlib.Numerals.{add-one}
use Rattle.game.specs.Settings.{free, setting}
use Rattle.game.proofs.settings.setting.Goals as goal

pub returns : goal.returns
unfolding setting
returns c =
    let a = c.args in
    rw (c.stay.ensures, c.stay-2.ensures, c.stay-3.ensures, c.free-a.ensures.value, c.free-b.ensures.value, add-one (free a.game a.board 0), add-one (free a.game a.board 1))
