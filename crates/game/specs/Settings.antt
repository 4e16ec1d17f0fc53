-- The settings of the stays that differ on a board, numbered: the stay at server 0 changes fastest. Assumes nothing.
use Rattle.std.specs.Prelude.{false, List, [], ◌∷◌, ℕ, suc, ◌*◌, ◌/◌, ◌%◌, eqb, get_or}
use Rattle.base.specs.Choice.{pick}
use Rattle.forcing.specs.declared.Game.{Game}
use Rattle.game.specs.declared.board.Board.{Board}
use Rattle.game.specs.Costs.{last_of}

-- how long the copy at y can be set to stay: 0 where none stands, and where it is the last one's
unfoldable pub free : Game → Board → ℕ → ℕ
free g b y = pick (get_or b.copies y false) (pick (eqb y (last_of b)) 0 g.largest) 0

-- how many settings there are
unfoldable pub settings : Game → Board → ℕ
settings g b = suc (free g b 2) * suc (free g b 1) * suc (free g b 0)

-- the stay at y where d is what is set: the last one's copy stays for any gap
unfoldable pub stay : Game → Board → ℕ → ℕ → ℕ
stay g b y d = pick (eqb y (last_of b)) g.largest d

-- setting k
unfoldable pub setting : Game → Board → ℕ → List ℕ
setting g b k =
    stay g b 0 (k % suc (free g b 0))
    ∷ stay g b 1 (k / suc (free g b 0) % suc (free g b 1))
    ∷ stay g b 2 (k / suc (free g b 0) / suc (free g b 1))
    ∷ []
