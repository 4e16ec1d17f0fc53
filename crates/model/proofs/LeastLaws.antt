-- The first of a list at which a number is least, in a list in order: none has less, and those with as much come after it.
use mathlib.Core.List.Memᴰ
use mathlib.Core.List.{
  List,
  [],
  ◌∷◌,
  ◌++◌,
  map,
  Memᴰ,
}
use Rattle.std.specs.Prelude.{◌⊎◌, ◌≡◌, refl, ℕ, ◌≤◌, ◌<◌, ltb}
use Rattle.std.proofs.Math.Logic.{inl, inr}
use Rattle.std.proofs.Math.Path.{ap}
use Rattle.std.proofs.Common.{arith, lt-ltb, le-ltb}
use Rattle.base.specs.Choice.{pick, le_or_lt}
use Rattle.model.specs.Plan.{first_least, least_of}

-- each element stands in a relation to all that come after it
abbrev pub Sorted : {A : Type 0} → (A → A → Type 0) → List A → Type 0
Sorted R [] = Unit {0}
Sorted {A} R (x ∷ xs) = ((y : A) → Memᴰ y xs → R x y) × Sorted R xs

-- two such lists, one after the other
pub sorted_append : {A : Type 0} (R : A → A → Type 0) (xs ys : List A) → Sorted R xs → Sorted R ys
    → ((x y : A) → Memᴰ x xs → Memᴰ y ys → R x y) → Sorted R (xs ++ ys)
sorted_append R [] ys s t h = t
sorted_append {A} R (x ∷ xs) ys s t h = (ahead, sorted_append R xs ys s.1 t (λ a b m n. h a b (Memᴰ.tail m) n))
  where
    ahead : (y : A) → Memᴰ y (xs ++ ys) → R x y
    ahead y m = elim (Memᴰ.append_cases xs m) [ inl a ↦ s.0 y a | inr b ↦ h x y (Memᴰ.head refl) b ]

-- the images of one
pub sorted_map : {A B : Type 0} (R : A → A → Type 0) (T : B → B → Type 0) (g : A → B) → ((x y : A) → R x y → T (g x) (g y))
    → (xs : List A) → Sorted R xs → Sorted T (map g xs)
sorted_map R T g h [] s = tt
sorted_map {A} {B} R T g h (x ∷ xs) s = (ahead, sorted_map R T g h xs s.1)
  where
    ahead : (y : B) → Memᴰ y (map g xs) → T (g x) y
    ahead y m = let a = Memᴰ.of_map g xs m in rw (← a.2) (h x a.0 (s.0 a.0 a.1))

module _ {A : Type 0} (f : A → ℕ) (R : A → A → Type 0) (same : (a : A) → R a a) where
  -- of the least ones of a list it comes first
  pub record Foremost (xs : List A) (a : A) : Type 0 where
    pub inside : Memᴰ a xs
    pub least : (b : A) → Memᴰ b xs → f a ≤ f b
    pub before : (b : A) → Memᴰ b xs → f b ≡ f a → R a b

  -- such an element of a list that begins with a, and another than a only where it has less
  record Found (a : A) (bs : List A) (r : A) : Type 0 where
    foremost : Foremost (a ∷ bs) r
    moved : (r ≡ a) ⊎ (f r < f a)

  -- the second element has less: one that is found from it on
  on : (a b r : A) (bs : List A) → f b < f a → Found b bs r → Found a (b ∷ bs) r
  on a b r bs h F =
      record {
        foremost = record {
          inside = Memᴰ.tail F.foremost.inside;
          least = λ c m. least c (Memᴰ.cases_cons m);
          before = λ c m e. before c e (Memᴰ.cases_cons m);
        };
        moved = inr (omega (arith, low));
      }
    where
      low : f r ≤ f b
      low = F.foremost.least b (Memᴰ.head refl)

      least : (c : A) → (c ≡ a) ⊎ Memᴰ c (b ∷ bs) → f r ≤ f c
      least c (inl e) = omega (arith, low, ap f e)
      least c (inr m) = F.foremost.least c m

      before : (c : A) → f c ≡ f r → (c ≡ a) ⊎ Memᴰ c (b ∷ bs) → R r c
      before c z (inl e) = absurd (omega (arith, low, ap f e))
      before c z (inr m) = F.foremost.before c m z

  -- it has not: one that is found without it
  stay : (a b r : A) (bs : List A) → f a ≤ f b → R a b → Found a bs r → Found a (b ∷ bs) r
  stay a b r bs h s F =
      record {
        foremost = record {
          inside = inside (Memᴰ.cases_cons F.foremost.inside);
          least = λ c m. least c (Memᴰ.cases_cons m);
          before = λ c m e. before c e (Memᴰ.cases_cons m);
        };
        moved = F.moved;
      }
    where
      low : f r ≤ f a
      low = F.foremost.least a (Memᴰ.head refl)

      inside : (r ≡ a) ⊎ Memᴰ r bs → Memᴰ r (a ∷ b ∷ bs)
      inside (inl e) = Memᴰ.head e
      inside (inr m) = Memᴰ.tail (Memᴰ.tail m)

      least : (c : A) → (c ≡ a) ⊎ Memᴰ c (b ∷ bs) → f r ≤ f c
      least c (inl e) = omega (arith, low, ap f e)
      least c (inr m) = elim (Memᴰ.cases_cons m) [
        | inl e ↦ omega (arith, low, ap f e)
        | inr k ↦ F.foremost.least c (Memᴰ.tail k)
      ]

      second : (c : A) → c ≡ b → f c ≡ f r → (r ≡ a) ⊎ (f r < f a) → R r c
      second c e z (inl k) = rw (k, e) s
      second c e z (inr k) = absurd (omega (arith, ap f e))

      before : (c : A) → f c ≡ f r → (c ≡ a) ⊎ Memᴰ c (b ∷ bs) → R r c
      before c z (inl e) = F.foremost.before c (Memᴰ.head e) z
      before c z (inr m) = elim (Memᴰ.cases_cons m) [
        | inl e ↦ second c e z F.moved
        | inr k ↦ F.foremost.before c (Memᴰ.tail k) z
      ]

  -- the first least is found
  found : (a : A) (bs : List A) → Sorted R (a ∷ bs) → Found a bs (first_least f a bs)
  unfolding first_least
  found a [] s =
      record {
        foremost = record {
          inside = Memᴰ.head refl;
          least = λ b m. omega (arith, ap f (only b m));
          before = λ b m e. rw (only b m) (same a);
        };
        moved = inl refl;
      }
    where
      only : (b : A) → Memᴰ b (a ∷ []) → b ≡ a
      only b m = elim (Memᴰ.cases_cons m) [ inl e ↦ e | inr k ↦ absurd (Memᴰ.not-nil k) ]
  found a (b ∷ bs) s = go (le_or_lt (f a) (f b)) (found a bs (λ y m. s.0 y (Memᴰ.tail m), s.1.1)) (found b bs s.1)
    where
      go : (f a ≤ f b) ⊎ (f b < f a) → Found a bs (first_least f a bs) → Found b bs (first_least f b bs)
          → Found a (b ∷ bs) (first_least f (pick (ltb (f b) (f a)) b a) bs)
      go (inl h) F G = rw (le-ltb (f b) (f a) h) (stay a b (first_least f a bs) bs h (s.0 b (Memᴰ.head refl)) F)
      go (inr h) F G = rw (lt-ltb (f b) (f a) h) (on a b (first_least f b bs) bs h G)

  -- so for a list that has an element
  pub least_foremost : (d x : A) (xs : List A) → Memᴰ x xs → Sorted R xs → Foremost xs (least_of f d xs)
  unfolding least_of
  least_foremost d x [] m s = absurd (Memᴰ.not-nil m)
  least_foremost d x (a ∷ bs) m s = (found a bs s).foremost
