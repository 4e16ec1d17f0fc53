-- A list built from a function, a run of elements put over a list, a test of every element, two lists compared. Assumes nothing.
use Rattle.std.specs.Prelude.{Bool, true, false, List, [], ◌∷◌, ◌++◌, ◌⊎◌, ◌≢◌, ◌≡◌, refl, ℕ, zero, suc, ◌+◌, ◌-◌, ◌≤◌, ◌<◌, leb, eqb, length, get_or, set, take, drop, replicate}
use Rattle.std.proofs.Common.{append_assoc, inl, inr, sym, ap, ap₂, ◌∙◌, arith, length-append, length-set, length-take, length-drop, ext_get_or, get_or-set_same, get_or-set_other, take-suc, take_all, le-leb}
use Rattle.std.proofs.Math.ListN.{get_or-append}
use Rattle.std.proofs.Math.Seq.{paste, take-length}
use Rattle.std.proofs.lemmas.List.{take-append-le, get_or_at}
use Rattle.std.proofs.lemmas.Bool.{lt-leb}
use Rattle.base.specs.Choice.{pick, both, le_or_lt, same_or_not}
use Rattle.base.specs.ChoiceLaws.{both_true}

-- the n values f 0, f 1, .. in order
unfoldable pub build : {A : Type 0} → ℕ → (ℕ → A) → List A
build zero f = []
build (suc n) f = build n f ++ (f n ∷ [])

-- a list with the elements of another put over it from a place on, or as it was where they do not fit
unfoldable pub splice : {A : Type 0} → ℕ → List A → List A → List A
splice at xs o = pick (leb (at + length xs) (length o)) (take at o ++ (xs ++ drop (at + length xs) o)) o

-- a list with one value in the place of every element from a place on
abbrev pub filled : {A : Type 0} → A → ℕ → List A → List A
filled z from o = take from o ++ replicate (length o - from) z

-- a list of numbers with 0 there
abbrev pub cleared : ℕ → List ℕ → List ℕ
cleared = filled 0

-- a test passes at every element
unfoldable pub every : {A : Type 0} → (A → Bool) → List A → Bool
every f [] = true
every f (x ∷ xs) = both (f x) (every f xs)

-- two lists of numbers are the same
unfoldable pub same : List ℕ → List ℕ → Bool
same [] [] = true
same [] (y ∷ ys) = false
same (x ∷ xs) [] = false
same (x ∷ xs) (y ∷ ys) = both (eqb x y) (same xs ys)

-- n values are built
pub build_length : {A : Type 0} (n : ℕ) (f : ℕ → A) → length (build n f) ≡ n
unfolding build
build_length zero f = refl
build_length (suc n) f = simp length-append (omega (arith, build_length n f))

-- the value at i is f i
pub build_at : {A : Type 0} (n : ℕ) (f : ℕ → A) (i : ℕ) (d : A) → i < n → get_or (build n f) i d ≡ f i
unfolding build
build_at zero f i d h = absurd (omega arith)
build_at (suc n) f i d h = go (le_or_lt n i) (build_at n f i d)
  where
    go : (n ≤ i) ⊎ (i < n) → (i < n → get_or (build n f) i d ≡ f i) → get_or (build n f ++ (f n ∷ [])) i d ≡ f i
    go (inl l) r =
        let e : n ≡ i = omega arith in
        rw (← e) (get_or_at (build n f) (f n) [] d n (build_length n f))
    go (inr l) r = get_or-append (build n f) (f n ∷ []) d i (omega (arith, build_length n f)) ∙ r l

-- a built list with one value set
pub build_set : {A : Type 0} (n y : ℕ) (v : A) (f g : ℕ → A) → g y ≡ v → ((k : ℕ) → k ≢ y → g k ≡ f k) → set (build n f) y v ≡ build n g
build_set n y v f g e d =
    ext_get_or v (set (build n f) y v) (build n g) (length-set (build n f) y v ∙ build_length n f ∙ sym (build_length n g))
    (λ k h.
    let l : k < n = omega (arith, length-set (build n f) y v, build_length n f) in
    go k l (same_or_not k y) ∙ sym (build_at n g k v l))
  where
    go : (k : ℕ) → k < n → (k ≡ y) ⊎ (k ≢ y) → get_or (set (build n f) y v) k v ≡ g k
    go k l (inl z) = rw z (get_or-set_same (build n f) y v v (omega (arith, build_length n f)) ∙ sym e)
    go k l (inr z) = get_or-set_other (build n f) y k v v z ∙ build_at n f k v l ∙ sym (d k z)

-- the first k of them are built from the same function
pub build_take : {A : Type 0} (k n : ℕ) (f : ℕ → A) → k ≤ n → take k (build n f) ≡ build k f
unfolding build
build_take zero zero f h = refl
build_take (suc k) zero f h = absurd (omega arith)
build_take k (suc n) f h = go (le_or_lt k n) (build_take k n f)
  where
    go : (k ≤ n) ⊎ (n < k) → (k ≤ n → take k (build n f) ≡ build k f) → take k (build (suc n) f) ≡ build k f
    go (inl l) r = take-append-le k (build n f) (f n ∷ []) (omega (arith, build_length n f)) ∙ r l
    go (inr l) r =
        let e : k ≡ suc n = omega arith in
        rw e (take_all (suc n) (build (suc n) f) (omega (arith, build_length (suc n) f)))

-- functions that agree below n build the same list
pub build_same : {A : Type 0} (n : ℕ) (f g : ℕ → A) → ((i : ℕ) → i < n → f i ≡ g i) → build n f ≡ build n g
unfolding build
build_same zero f g h = refl
build_same (suc n) f g h = ap₂ (λ (x y : List _). x ++ y) (build_same n f g (λ i l. h i (omega arith))) (ap (λ x. x ∷ []) (h n (omega arith)))

-- the first n elements of a list, built by reading them
pub build_read : {A : Type 0} (n : ℕ) (xs : List A) (d : A) → n ≤ length xs → build n (λ i. get_or xs i d) ≡ take n xs
unfolding build
build_read zero xs d h = refl
build_read (suc n) xs d h = rw (build_read n xs d (omega arith)) (sym (take-suc xs n d h))

-- elements that fit are put in place
pub splice_fits : {A : Type 0} (at : ℕ) (xs o : List A) → at + length xs ≤ length o
    → splice at xs o ≡ take at o ++ (xs ++ drop (at + length xs) o)
unfolding splice
splice_fits at xs o h = rw (le-leb _ _ h)

-- elements that do not fit change nothing
pub splice_over : {A : Type 0} (at : ℕ) (xs o : List A) → length o < at + length xs → splice at xs o ≡ o
unfolding splice
splice_over at xs o h = rw (lt-leb _ _ h)

-- element by element they come to stand in place
pub splice_paste : {A : Type 0} (at : ℕ) (xs o : List A) → at + length xs ≤ length o → paste o at xs (length xs) ≡ splice at xs o
splice_paste at xs o h = rw (take-length xs, append_assoc) (sym (splice_fits at xs o h))

-- the length stays
pub splice_length : {A : Type 0} (at : ℕ) (xs o : List A) → length (splice at xs o) ≡ length o
splice_length at xs o = go (le_or_lt (at + length xs) (length o))
  where
    go : (at + length xs ≤ length o) ⊎ (length o < at + length xs) → length (splice at xs o) ≡ length o
    go (inl h) =
        ap length (splice_fits at xs o h)
        ∙ simp (length-append, length-take, length-drop) (omega arith)
    go (inr h) = ap length (splice_over at xs o h)

-- a test that passes at every element passes at each
pub every_at : {A : Type 0} (f : A → Bool) (xs : List A) (d : A) (k : ℕ) → every f xs ≡ true → k < length xs → f (get_or xs k d) ≡ true
unfolding every
every_at f [] d k e l = absurd (omega arith)
every_at f (x ∷ xs) d zero e l = (both_true (f x) (every f xs) e).0
every_at f (x ∷ xs) d (suc k) e l = every_at f xs d k (both_true (f x) (every f xs) e).1 (omega arith)
