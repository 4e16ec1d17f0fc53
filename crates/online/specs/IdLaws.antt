-- Two ids compared four bytes at a time: they are the same exactly if each of their four numbers is. Assumes nothing.
use Rattle.std.specs.Prelude.{true, false, not, List, ◌⊎◌, ◌≡◌, ℕ, ◌+◌, ◌-◌, ◌≤◌, ◌<◌, eqb, length, take, drop}
use Rattle.std.proofs.Common.{inl, inr, sym, ap, ◌∙◌, arith, ext_get_or, get_or-take, get_or-drop, eqb-true}
use Rattle.std.proofs.lemmas.Bool.{eqb-false, not-true, not-false}
use Rattle.base.specs.Choice.{le_or_lt, true_or_false}
use Rattle.base.specs.Lists.{same}
use Rattle.base.specs.SameLaws.{equal_same, unequal_same}
use Rattle.base.specs.Bytes.{byte, le32, bytes, AreBytes}
use Rattle.base.specs.BytesLaws.{bytes_le32}

-- lists that differ in four bytes are not the same
pub words_apart : (a b : List ℕ) (k : ℕ) → not (eqb (le32 a k) (le32 b k)) ≡ true → not (same a b) ≡ true
words_apart a b k d = ap not (unequal_same a b (λ e. eqb-false _ _ (not-true _ d) (ap (λ (x : List ℕ). le32 x k) e)))

module _ (a b : List ℕ) (long : length a ≡ 16) (wide : length b ≡ 16) (small : AreBytes a) (low : AreBytes b) where
  -- where the numbers of four bytes are the same, so is each byte
  agree : (k : ℕ) → k + 4 ≤ 16 → le32 a k ≡ le32 b k → (i : ℕ) → k ≤ i → i < k + 4 → byte a i ≡ byte b i
  agree k h e i l m = sym (of a) ∙ ap (λ (x : List ℕ). byte x (i - k)) four ∙ of b
    where
      four : take 4 (drop k a) ≡ take 4 (drop k b)
      four = sym (bytes_le32 a k small (omega arith)) ∙ ap (bytes 4) e ∙ bytes_le32 b k low (omega arith)

      of : (x : List ℕ) → byte (take 4 (drop k x)) (i - k) ≡ byte x i
      of x =
          get_or-take 4 (drop k x) (i - k) 0 (omega arith)
          ∙ get_or-drop k x (i - k) 0
          ∙ ap (byte x) (let z : k + (i - k) ≡ i = omega arith in z)

  -- so four numbers say all of sixteen bytes
  same_words : le32 a 0 ≡ le32 b 0 → le32 a 4 ≡ le32 b 4 → le32 a 8 ≡ le32 b 8 → le32 a 12 ≡ le32 b 12 → a ≡ b
  same_words e f g h = ext_get_or 0 a b (long ∙ sym wide) (λ i l. go i (omega arith) (le_or_lt 4 i) (le_or_lt 8 i) (le_or_lt 12 i))
    where
      go : (i : ℕ) → i < 16 → (4 ≤ i) ⊎ (i < 4) → (8 ≤ i) ⊎ (i < 8) → (12 ≤ i) ⊎ (i < 12) → byte a i ≡ byte b i
      go i l (inr p) q r = agree 0 (omega arith) e i (omega arith) (omega arith)
      go i l (inl p) (inr q) r = agree 4 (omega arith) f i p (omega arith)
      go i l (inl p) (inl q) (inr r) = agree 8 (omega arith) g i q (omega arith)
      go i l (inl p) (inl q) (inl r) = agree 12 (omega arith) h i r (omega arith)

  -- and where three are the same, the last one decides
  pub last_word : not (eqb (le32 a 0) (le32 b 0)) ≡ false → not (eqb (le32 a 4) (le32 b 4)) ≡ false → not (eqb (le32 a 8) (le32 b 8)) ≡ false
      → not (eqb (le32 a 12) (le32 b 12)) ≡ not (same a b)
  last_word e f g = go (true_or_false (not (eqb (le32 a 12) (le32 b 12))))
    where
      equal : (k : ℕ) → not (eqb (le32 a k) (le32 b k)) ≡ false → le32 a k ≡ le32 b k
      equal k h = eqb-true _ _ (not-false _ h)

      go : (not (eqb (le32 a 12) (le32 b 12)) ≡ true) ⊎ (not (eqb (le32 a 12) (le32 b 12)) ≡ false)
          → not (eqb (le32 a 12) (le32 b 12)) ≡ not (same a b)
      go (inl h) = h ∙ sym (words_apart a b 12 h)
      go (inr h) =
          let z = same_words (equal 0 e) (equal 4 f) (equal 8 g) (equal 12 h) in
          h ∙ sym (ap not (ap (same a) (sym z) ∙ equal_same a))
