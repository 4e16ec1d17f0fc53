-- A printed line: fields parted by one space, and a newline; and a number that fills its columns. Assumes nothing.
use Rattle.std.specs.Prelude.{List, [], ◌∷◌, ◌++◌, map, ℕ, ◌-◌, length, replicate}
use Prim.Native.Char.{code}
use Prim.Native.String.{String}
use Prim.Native.String as string
use Rattle.text.specs.Decimal.{decimal}

-- the codes of a text's characters
unfoldable pub ascii : String → List ℕ
ascii string.[] = []
ascii (string.◌∷◌ c s) = code c ∷ ascii s

-- the fields after the first
unfoldable pub line_end : List (List ℕ) → List ℕ
line_end [] = ascii "\n"
line_end (f ∷ fs) = ascii " " ++ (f ++ line_end fs)

-- all of them
unfoldable pub line : List (List ℕ) → List ℕ
line [] = ascii "\n"
line (f ∷ fs) = f ++ line_end fs

-- a line with a word and numbers
unfoldable pub figure_line : List ℕ → List ℕ → List ℕ
figure_line word ns = line (word ∷ map decimal ns)

-- a number right-aligned in so many columns, with spaces (32) before it; one with more digits stands as it is
unfoldable pub aligned : ℕ → ℕ → List ℕ
aligned width n = replicate (width - length (decimal n)) 32 ++ decimal n
