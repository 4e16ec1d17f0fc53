-- The sum over a log's two parts.
use Rattle.std.specs.Prelude.{◌≡◌, ℕ, zero, suc, ◌+◌, ◌*◌, ◌/◌, ◌%◌, ◌^◌, ◌<◌, ◌≤◌, List, [], ◌∷◌, ◌++◌, length, take, drop, get_or, slice_index, refl}
use Rattle.std.proofs.Common.{sym, ap, ◌∙◌, arith, take-append-drop, drop_of_length-le, take_all, drop-cons, get_or-take, get_or-drop, drop-drop}
use Rattle.std.specs.Simd.{first_chunks}
use Rattle.std.proofs.Math.Nat.{add-mul-mod_self_right}
use Rattle.checksum.specs.Sum.{sum_from, sum_of}

-- the sum goes on from what it is after the first part
pub sum_from_append : (s : ℕ) (a b : List ℕ) → sum_from s (a ++ b) ≡ sum_from (sum_from s a) b
unfolding sum_from
sum_from_append s [] b = refl
sum_from_append s (x ∷ a) b = sum_from_append ((31 * s + x) % 2 ^ 32) a b

-- some bytes and the rest
pub sum_cut : (s w : ℕ) (bytes : List ℕ) → sum_from s bytes ≡ sum_from (sum_from s (take w bytes)) (drop w bytes)
sum_cut s w bytes = ap (sum_from s) (sym (take-append-drop w bytes)) ∙ sum_from_append s (take w bytes) (drop w bytes)

-- the two parts of a log
pub sum_parts : (log : List ℕ) → sum_of log ≡ sum_from (sum_from 0 (take 20 log)) (drop 24 log)
unfolding sum_of
sum_parts log = sum_from_append 0 (take 20 log) (drop 24 log)

-- where nothing stands past the sum's place
pub sum_head : (log : List ℕ) → length log ≤ 24 → sum_of log ≡ sum_from 0 (take 20 log)
unfolding sum_from
sum_head log h = sum_parts log ∙ ap (sum_from (sum_from 0 (take 20 log))) (drop_of_length-le log {i = 24} h)

pub sum_short : (log : List ℕ) → length log ≤ 20 → sum_of log ≡ sum_from 0 log
sum_short log h = sum_head log (omega arith) ∙ ap (sum_from 0) (take_all 20 log h)

-- what is multiplied may be cut to 32 bits before
times_mod : (x b : ℕ) → (31 * (x % 2 ^ 32) + b) % 2 ^ 32 ≡ (31 * x + b) % 2 ^ 32
times_mod x b =
    let parts : 31 * x + b ≡ 31 * (x % 2 ^ 32) + b + 31 * (x / 2 ^ 32) * 2 ^ 32 = omega arith in
    sym (ap (λ (n : ℕ). n % 2 ^ 32) parts ∙ add-mul-mod_self_right (31 * (x % 2 ^ 32) + b) (31 * (x / 2 ^ 32)) (2 ^ 32))

-- four bytes folded at once are four steps
pub four_steps : (s a b c d : ℕ) (bs : List ℕ) → sum_from s (a ∷ b ∷ c ∷ d ∷ bs) ≡ sum_from ((923521 * s + (29791 * a + 961 * b + 31 * c + d)) % 2 ^ 32) bs
unfolding sum_from
four_steps s a b c d bs =
    let together : 31 * (31 * (31 * (31 * s + a) + b) + c) + d ≡ 923521 * s + (29791 * a + 961 * b + 31 * c + d) = omega arith in
    ap (λ (n : ℕ). sum_from n bs) (simp times_mod (ap (λ (n : ℕ). n % 2 ^ 32) together))

-- four bytes from i on, with four places left
pub four_on : (s : ℕ) (bytes : List ℕ) (i : ℕ) → i + 3 < length bytes →
    sum_from s (drop i bytes)
    ≡ sum_from ((923521 * s + (29791 * slice_index bytes i + 961 * slice_index bytes (i + 1) + 31 * slice_index bytes (i + 2) + slice_index bytes (i + 3))) % 2 ^ 32) (drop (i + 4) bytes)
four_on s bytes i h =
    let at : (k j : ℕ) → j ≡ suc k → k < length bytes → drop k bytes ≡ slice_index bytes k ∷ drop j bytes = λ k j e small. rw e (drop-cons bytes k 0 small) in
    rw (at i (i + 1) (omega arith) (omega arith), at (i + 1) (i + 2) (omega arith) (omega arith), at (i + 2) (i + 3) (omega arith) (omega arith), at (i + 3) (i + 4) (omega arith) (omega arith))
    (four_steps s _ _ _ _ _)

module _ (w : ℕ) where
  -- a group of w bytes where it stands
  group_at : (i k : ℕ) (bytes d : List ℕ) → i < k → get_or (first_chunks w k bytes) i d ≡ take w (drop (i * w) bytes)
  group_at i zero bytes d h = absurd (omega arith)
  group_at zero (suc k) bytes d h = let e : 0 * w ≡ 0 = omega arith in rw e refl
  group_at (suc i) (suc k) bytes d h =
      let e : suc i * w ≡ w + i * w = omega arith in
      rw e (group_at i k (drop w bytes) d (omega arith) ∙ ap (take w) (drop-drop (i * w) w bytes))

  -- and a byte of it
  group_byte : (bytes : List ℕ) (groups : List (List ℕ)) (n i j k : ℕ) → groups ≡ first_chunks w n bytes → i < n → j < w → k ≡ i * w + j
      → get_or (get_or groups i []) j 0 ≡ slice_index bytes k
  group_byte bytes groups n i j k e h l f = rw (e, group_at i n bytes [] h, f) (get_or-take w (drop (i * w) bytes) j 0 l ∙ get_or-drop (i * w) bytes j 0)

-- the groups from the i-th on: its four bytes, then the others
pub group_on : (s : ℕ) (bytes : List ℕ) (groups : List (List ℕ)) (i : ℕ) → groups ≡ first_chunks 4 (length bytes / 4) bytes → i < length bytes / 4 →
    sum_from ((923521 * s + (29791 * get_or (get_or groups i []) 0 0 + 961 * get_or (get_or groups i []) 1 0 + 31 * get_or (get_or groups i []) 2 0 + get_or (get_or groups i []) 3 0)) % 2 ^ 32) (drop ((i + 1) * 4) bytes)
    ≡ sum_from s (drop (i * 4) bytes)
group_on s bytes groups i e h =
    let at : (j k : ℕ) → k ≡ i * 4 + j → j < 4 → get_or (get_or groups i []) j 0 ≡ slice_index bytes k = λ j k f l. group_byte 4 bytes groups (length bytes / 4) i j k e h l f in
    let next : (i + 1) * 4 ≡ i * 4 + 4 = omega arith in
    rw (at 0 (i * 4) (omega arith) (omega arith), at 1 (i * 4 + 1) refl (omega arith), at 2 (i * 4 + 2) refl (omega arith), at 3 (i * 4 + 3) refl (omega arith), next)
    (sym (four_on s bytes (i * 4) (omega arith)))

-- the same for groups of eight: four bytes, and four more
pub pair_on : (s u v : ℕ) (bytes : List ℕ) (pairs : List (List ℕ)) (i : ℕ) → pairs ≡ first_chunks 8 (length bytes / 8) bytes → i < length bytes / 8
    → u ≡ (923521 * s + (29791 * get_or (get_or pairs i []) 0 0 + 961 * get_or (get_or pairs i []) 1 0 + 31 * get_or (get_or pairs i []) 2 0 + get_or (get_or pairs i []) 3 0)) % 2 ^ 32
    → v ≡ (923521 * u + (29791 * get_or (get_or pairs i []) 4 0 + 961 * get_or (get_or pairs i []) 5 0 + 31 * get_or (get_or pairs i []) 6 0 + get_or (get_or pairs i []) 7 0)) % 2 ^ 32
    → sum_from v (drop ((i + 1) * 8) bytes) ≡ sum_from s (drop (i * 8) bytes)
pair_on s u v bytes pairs i e h f g =
    let at : (j k : ℕ) → k ≡ i * 8 + j → j < 8 → get_or (get_or pairs i []) j 0 ≡ slice_index bytes k = λ j k f l. group_byte 8 bytes pairs (length bytes / 8) i j k e h l f in
    let first : sum_from s (drop (i * 8) bytes) ≡ sum_from u (drop (i * 8 + 4) bytes) =
    rw (f, at 0 (i * 8) (omega arith) (omega arith), at 1 (i * 8 + 1) refl (omega arith), at 2 (i * 8 + 2) refl (omega arith), at 3 (i * 8 + 3) refl (omega arith))
    (four_on s bytes (i * 8) (omega arith)) in
    let next : (i + 1) * 8 ≡ i * 8 + 4 + 4 = omega arith in
    rw (g, at 4 (i * 8 + 4) refl (omega arith), at 5 (i * 8 + 4 + 1) (omega arith) (omega arith), at 6 (i * 8 + 4 + 2) (omega arith) (omega arith), at 7 (i * 8 + 4 + 3) (omega arith) (omega arith), next)
    (sym (first ∙ four_on u bytes (i * 8 + 4) (omega arith)))
