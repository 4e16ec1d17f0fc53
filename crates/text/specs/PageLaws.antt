-- Bytes written one after the other: the parts of a text come together, and a text that fits is there whole.
use Rattle.std.specs.Prelude.{List, [], ◌∷◌, ◌++◌, ◌≡◌, refl, ℕ, zero, suc, ◌+◌, ◌≤◌, ◌<◌, length, get_or, take, drop, replicate}
use Rattle.std.proofs.Common.{append_assoc, sym, ap, ap₂, ◌∙◌, arith, length-append, take-suc, lt-ltb}
use Rattle.std.proofs.lemmas.List.{set_at}
use Rattle.text.specs.Page.{Page, page, add_byte, added}

-- bytes and then others
pub added_append : (xs ys : List ℕ) (p : Page) → added (xs ++ ys) p ≡ added ys (added xs p)
unfolding added
added_append [] ys p = refl
added_append (x ∷ xs) ys p = added_append xs ys (add_byte x p)

-- the next byte of a list
pub added_next : (xs : List ℕ) (i : ℕ) (p : Page) → i < length xs → add_byte (get_or xs i 0) (added (take i xs) p) ≡ added (take (suc i) xs) p
unfolding added
added_next xs i p h =
    rw (take-suc xs i 0 h) (sym (added_append (take i xs) (get_or xs i 0 ∷ []) p))

-- bytes that fit stand after those that stood there
pub added_fits : (xs a o : List ℕ) (n : ℕ) → length a ≡ n → length xs ≤ length o
    → added xs (page n (a ++ o)) ≡ page (n + length xs) (a ++ (xs ++ drop (length xs) o))
unfolding added add_byte
added_fits [] a o n e h = ap (λ (k : ℕ). page k (a ++ o)) (omega arith)
added_fits (x ∷ xs) a [] n e h = absurd (omega arith)
added_fits (x ∷ xs) a (y ∷ o) n e h =
    let room : n < length (a ++ y ∷ o) = simp length-append (omega arith) in
    let long : length (a ++ (x ∷ [])) ≡ suc n = simp length-append (omega arith) in
    rw (lt-ltb _ _ room, set_at a y o x n e, ← append_assoc a (x ∷ []) o)
    (added_fits xs (a ++ (x ∷ [])) o (suc n) long (omega arith) ∙ ap₂ page (omega arith) (append_assoc a (x ∷ []) (xs ++ drop (length xs) o)))

-- one more of the same byte
pub added_again : (b n : ℕ) (p : Page) → added (replicate (suc n) b) p ≡ add_byte b (added (replicate n b) p)
unfolding added
added_again b zero p = refl
added_again b (suc n) p = added_again b n (add_byte b p)
