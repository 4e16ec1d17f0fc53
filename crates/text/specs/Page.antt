-- A text that is written byte by byte. Assumes nothing.
use Rattle.std.specs.Prelude.{List, [], ◌∷◌, ℕ, suc, ltb, length, set}
use Rattle.base.specs.Choice.{pick}

-- its bytes, and the place of the next one
pub record Page : Type 0 where
  pub at : ℕ
  pub bytes : List ℕ

abbrev pub page : ℕ → List ℕ → Page
page at bytes = record { at = at; bytes = bytes }

-- one more byte; past the end nothing is changed
unfoldable pub add_byte : ℕ → Page → Page
add_byte b p = pick (ltb p.at (length p.bytes)) (page (suc p.at) (set p.bytes p.at b)) p

-- more bytes, one after the other
unfoldable pub added : List ℕ → Page → Page
added [] p = p
added (b ∷ bs) p = added bs (add_byte b p)
