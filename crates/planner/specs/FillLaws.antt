-- Two lists filled from their fronts with C and D: what stands there after each request.
use Rattle.std.specs.Prelude.{List, [], ◌∷◌, ◌++◌, ◌≡◌, refl, ℕ, suc, ◌≤◌, ◌<◌, get_or, length, drop, set}
use Rattle.std.proofs.Common.{sym, arith, drop-cons}
use Rattle.std.proofs.Math.ListN.{get_or-append}
use Rattle.std.proofs.lemmas.List.{set_at}
use Rattle.std.proofs.Math.Seq.{append_snoc}
use Rattle.model.specs.Rates.{Rates}
use Rattle.model.specs.Requests.{Requests}
use Rattle.model.proofs.TableRows.{next_D, next_C, Tabled, next_D_same, tabled_same}
use Rattle.model.proofs.TableLists.{at, lists, lists_length, lists_tabled}

-- one more element after those at the front
pub set_next : (xs o : List ℕ) (k v : ℕ) → length xs ≡ k → k < length o → set (xs ++ drop k o) k v ≡ (xs ++ (v ∷ [])) ++ drop (suc k) o
set_next xs o k v e h = rw (drop-cons o k 0 h, set_at xs (get_or o k 0) (drop (suc k) o) v k e) (sym (append_snoc xs v (drop (suc k) o)))

-- the first element
pub set_first : (o : List ℕ) (v : ℕ) → 0 < length o → set o 0 v ≡ v ∷ drop 1 o
set_first [] v h = absurd (omega arith)
set_first (x ∷ o) v h = refl

module _ (p : Rates) (q : Requests) where
  -- C(0) to C(i) at the front of a list
  abbrev pub costs_front : ℕ → List ℕ → List ℕ
  costs_front i o = (lists p q i).costs ++ drop (suc i) o

  -- and D(0) to D(i)
  abbrev pub keeps_front : ℕ → List ℕ → List ℕ
  keeps_front i o = (lists p q i).keeps ++ drop (suc i) o

  -- what stands at the front, whatever follows
  module _ (i : ℕ) (xs ys : List ℕ) where
    costs_same : (l : ℕ) → l ≤ i → at (lists p q i).costs l ≡ at ((lists p q i).costs ++ xs) l
    costs_same l h = sym (get_or-append (lists p q i).costs xs 0 l (omega (arith, lists_length p q i)))

    keeps_same : (l : ℕ) → l ≤ i → at (lists p q i).keeps l ≡ at ((lists p q i).keeps ++ ys) l
    keeps_same l h = sym (get_or-append (lists p q i).keeps ys 0 l (omega (arith, lists_length p q i)))

    -- is right
    front_tabled : Tabled p q i (at ((lists p q i).costs ++ xs)) (at ((lists p q i).keeps ++ ys))
    front_tabled =
        tabled_same p q (at (lists p q i).costs) (at (lists p q i).keeps) (at ((lists p q i).costs ++ xs)) (at ((lists p q i).keeps ++ ys)) i costs_same keeps_same (lists_tabled p q i)

    -- and gives the next D
    next_same : next_D p q (at ((lists p q i).costs ++ xs)) (at ((lists p q i).keeps ++ ys)) i ≡ next_D p q (at (lists p q i).costs) (at (lists p q i).keeps) i
    next_same = sym (next_D_same p q _ _ _ _ i costs_same keeps_same)

    -- so do lists that are equal to these
    pub filled_tabled : (C D : List ℕ) → C ≡ (lists p q i).costs ++ xs → D ≡ (lists p q i).keeps ++ ys → Tabled p q i (at C) (at D)
    filled_tabled C D e f = rw (e, f) front_tabled

  module _ (i : ℕ) (o o' C D : List ℕ) (e : C ≡ costs_front i o) (f : D ≡ keeps_front i o') where
    -- one more C
    pub costs_more : suc i < length o → set C (suc i) (next_C p q i (next_D p q (at C) (at D) i) (at C i)) ≡ costs_front (suc i) o
    unfolding lists
    costs_more h =
        rw (e, f, next_same i (drop (suc i) o) (drop (suc i) o'), ← costs_same i (drop (suc i) o) (drop (suc i) o') i (omega arith))
        (set_next (lists p q i).costs o (suc i) _ (lists_length p q i).0 h)

    -- and one more D
    pub keeps_more : suc i < length o' → set D (suc i) (next_D p q (at C) (at D) i) ≡ keeps_front (suc i) o'
    unfolding lists
    keeps_more h = rw (e, f, next_same i (drop (suc i) o) (drop (suc i) o')) (set_next (lists p q i).keeps o' (suc i) _ (lists_length p q i).1 h)
