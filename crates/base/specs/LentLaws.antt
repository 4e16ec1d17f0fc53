-- A lent list filled from its front, then zeroed beyond.
use Rattle.std.specs.Prelude.{List, [], ◌∷◌, ◌++◌, ◌≡◌, refl, ℕ, suc, ◌+◌, ◌-◌, ◌≤◌, ◌<◌, length, drop, get_or, set, Ok}
use Rattle.std.proofs.Common.{append_assoc, sym, ◌∙◌, add-one, arith, length-append, length-set, length-drop, drop-cons, take_at}
use Rattle.std.proofs.lemmas.List.{set_at}
use Rattle.base.specs.Lent.{lent}
use Rattle.base.specs.Lists.{build, build_length, cleared}

-- one more element
pub fill_next : (f : ℕ → ℕ) (i : ℕ) (o : List ℕ) → i < length o → set (build i f ++ drop i o) i (f i) ≡ build (suc i) f ++ drop (suc i) o
unfolding build
fill_next f i o h =
    rw (drop-cons o i 0 h, set_at (build i f) (get_or o i 0) (drop (suc i) o) (f i) i (build_length i f))
    (sym (append_assoc (build i f) (f i ∷ []) (drop (suc i) o)))

-- an answer at the front of a list, and zeros after it
pub lent_front : (xs o : List ℕ) (n : ℕ) → length xs ≡ n → n ≤ length o → cleared n (xs ++ drop n o) ≡ lent (Ok tt) xs o
unfolding lent
lent_front xs o n e h =
    let a : length (xs ++ drop n o) - n ≡ length o - length xs = simp (length-append, length-drop) (omega arith) in
    rw (a, take_at xs (drop n o) n e)

-- ---- a loop that fills a list from its front

-- the list o, when the loop has put the first i values of f
pub record Filling (f : ℕ → ℕ) (o out : List ℕ) (i : ℕ) : Type 0 where
  pub as_long : length out ≡ length o
  pub front : out ≡ build i f ++ drop i o

-- before the loop
pub filling_begins : (f : ℕ → ℕ) (o : List ℕ) → Filling f o o 0
unfolding build
filling_begins f o = record { as_long = refl; front = refl }

-- after a turn, which puts x at k
pub filling_next : (f : ℕ → ℕ) (o out : List ℕ) (i k x : ℕ) → Filling f o out i → i < length o → k ≡ i → x ≡ f k → Filling f o (set out k x) (i + 1)
filling_next f o out i k x c l e v = record {
  as_long = length-set out k x ∙ c.as_long;
  front = rw (v, e, c.front, add-one i) (fill_next f i o l);
}

-- after the loop, with zeros beyond
pub filling_ends : (f : ℕ → ℕ) (o out : List ℕ) (n k : ℕ) → n ≤ length o → k ≡ n → out ≡ build n f ++ drop n o → cleared k out ≡ lent (Ok tt) (build n f) o
filling_ends f o out n k l e front = rw (e, front) (lent_front (build n f) o n (build_length n f) l)
