-- Little-endian numbers in a list of bytes; 0 stands for what is past the list's end. Assumes nothing.
use Rattle.std.specs.Prelude.{List, [], ◌∷◌, ℕ, zero, suc, ◌+◌, ◌*◌, ◌/◌, ◌%◌, ◌<◌, get_or}

-- the byte at i
abbrev pub byte : List ℕ → ℕ → ℕ
byte s i = get_or s i 0

-- the number in the two bytes from i on
abbrev pub le16 : List ℕ → ℕ → ℕ
le16 s i = byte s i + 256 * byte s (i + 1)

-- the number in the four bytes from i on
abbrev pub le32 : List ℕ → ℕ → ℕ
le32 s i = le16 s i + 65536 * le16 s (i + 2)

-- the n lowest bytes of x, the lowest first
abbrev pub bytes : ℕ → ℕ → List ℕ
bytes zero x = []
bytes (suc n) x = x % 256 ∷ bytes n (x / 256)

-- every element is a byte
abbrev pub AreBytes : List ℕ → Type 0
AreBytes s = (i : ℕ) → byte s i < 256
