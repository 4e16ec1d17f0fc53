-- What is written as bytes is read back, and the other way round. Assumes nothing.
use Rattle.std.specs.Prelude.{List, ◌∷◌, ◌++◌, ◌≡◌, refl, ℕ, zero, suc, ◌+◌, ◌*◌, ◌/◌, ◌^◌, ◌≤◌, ◌<◌, length, take, drop}
use Rattle.std.proofs.Common.{ap, ap₂, ◌∙◌, add_assoc, add-one, arith, get_or-append-add, get_or-take, get_or-drop, drop-cons}
use Rattle.std.proofs.Math.ListN.{get_or-eq_default}
use Rattle.base.specs.Bytes.{byte, le16, le32, bytes, AreBytes}

-- bytes n x has n elements
pub bytes_length : (n x : ℕ) → length (bytes n x) ≡ n
bytes_length zero x = refl
bytes_length (suc n) x = ap suc (bytes_length n (x / 256))

-- each of them a byte
pub bytes_small : (n x : ℕ) → AreBytes (bytes n x)
bytes_small zero x i = omega arith
bytes_small (suc n) x zero = omega arith
bytes_small (suc n) x (suc i) = bytes_small n (x / 256) i

-- past the end a number of two bytes is 0
pub le16_past : (s : List ℕ) (i : ℕ) → length s ≤ i → le16 s i ≡ 0
le16_past s i h = omega (arith, get_or-eq_default s 0 {n = i} h, get_or-eq_default s 0 {n = i + 1} (omega arith))

-- and one of four
pub le32_past : (s : List ℕ) (i : ℕ) → length s ≤ i → le32 s i ≡ 0
le32_past s i h = omega (arith, le16_past s i h, le16_past s (i + 2) (omega arith))

-- a number of two bytes is read back
pub le16_bytes : (x : ℕ) (rest : List ℕ) → x < 65536 → le16 (bytes 2 x ++ rest) 0 ≡ x
le16_bytes x rest h = omega arith

-- a number of four bytes is read back
pub le32_bytes : (x : ℕ) (rest : List ℕ) → x < 2 ^ 32 → le32 (bytes 4 x ++ rest) 0 ≡ x
le32_bytes x rest h = omega arith

-- a byte behind a list's first part is read in the rest
pub byte_behind : (xs ys : List ℕ) (i : ℕ) → byte (xs ++ ys) (length xs + i) ≡ byte ys i
byte_behind xs ys i = get_or-append-add xs ys i 0

-- and so is a number of two bytes
pub le16_behind : (xs ys : List ℕ) (i : ℕ) → le16 (xs ++ ys) (length xs + i) ≡ le16 ys i
le16_behind xs ys i = rw (add_assoc, byte_behind xs ys i, byte_behind xs ys (i + 1))

-- and one of four
pub le32_behind : (xs ys : List ℕ) (i : ℕ) → le32 (xs ++ ys) (length xs + i) ≡ le32 ys i
le32_behind xs ys i = simp (add_assoc, get_or-append-add)

-- a byte of a part is read in the whole
byte_part : (s : List ℕ) (i n j : ℕ) → j < n → byte (take n (drop i s)) j ≡ byte s (i + j)
byte_part s i n j h = get_or-take n (drop i s) j 0 h ∙ get_or-drop i s j 0

-- and so is a number of two bytes
pub le16_part : (s : List ℕ) (i n j : ℕ) → j + 2 ≤ n → le16 (take n (drop i s)) j ≡ le16 s (i + j)
le16_part s i n j h = rw (byte_part s i n j (omega arith), byte_part s i n (j + 1) (omega arith), ← add_assoc i j 1)

-- and one of four
pub le32_part : (s : List ℕ) (i n j : ℕ) → j + 4 ≤ n → le32 (take n (drop i s)) j ≡ le32 s (i + j)
le32_part s i n j h = rw (le16_part s i n j (omega arith), le16_part s i n (j + 2) (omega arith), ← add_assoc i j 2)

-- the number in the n bytes from i on
unfoldable number : ℕ → List ℕ → ℕ → ℕ
number zero s i = 0
number (suc n) s i = byte s i + 256 * number n s (suc i)

-- n bytes that were read are those that stood there
bytes_number : (n : ℕ) (s : List ℕ) (i : ℕ) → AreBytes s → i + n ≤ length s → bytes n (number n s i) ≡ take n (drop i s)
unfolding number
bytes_number zero s i b h = refl
bytes_number (suc n) s i b h =
    let low = b i in
    rw (drop-cons s i 0 (omega arith))
    (ap₂ (λ (x : ℕ) (l : List ℕ). x ∷ l) (omega arith) (ap (bytes n) (omega arith) ∙ bytes_number n s (suc i) b (omega arith)))

-- so for two bytes
pub bytes_le16 : (s : List ℕ) (i : ℕ) → AreBytes s → i + 2 ≤ length s → bytes 2 (le16 s i) ≡ take 2 (drop i s)
unfolding number
bytes_le16 s i b h = ap (bytes 2) (rw (add-one i) (omega arith)) ∙ bytes_number 2 s i b h

-- and for four
pub bytes_le32 : (s : List ℕ) (i : ℕ) → AreBytes s → i + 4 ≤ length s → bytes 4 (le32 s i) ≡ take 4 (drop i s)
unfolding number
bytes_le32 s i b h = ap (bytes 4) same ∙ bytes_number 4 s i b h
  where
    same : le32 s i ≡ number 4 s i
    same =
        let e : i + 2 ≡ suc (suc i) = omega arith in
        rw (e, add-one i, add-one (suc (suc i))) (omega arith)
