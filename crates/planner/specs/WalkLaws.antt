-- The letters that the walk back writes, from the last to the first.
use mathlib.Core.List.{List, [], ◌∷◌, ◌++◌, map}
use Rattle.std.specs.Prelude.{◌≡◌, refl, ℕ, zero, suc, ◌<◌, length, set}
use Rattle.std.proofs.Common.{sym, ◌∙◌, arith}
use Rattle.std.proofs.Math.Path.{ap}
use Rattle.std.proofs.Math.ListN.{drop}
use Rattle.std.proofs.Math.Seq.{append_snoc}
use Rattle.base.specs.Lists.{build}
use Rattle.model.specs.Rates.{Rates}
use Rattle.model.specs.Requests.{Requests}
use Rattle.model.specs.Marking.{Mark}
use Rattle.model.specs.Plan.{plan}
use Rattle.model.proofs.TableRows.{Tabled}
use Rattle.model.proofs.Walk.{turn, turn_mark, turn_c, turn_v, walk, walk_plan, listed}
use Rattle.planner.specs.declared.walk.Turn.{Turn}
use Rattle.planner.specs.Answers.{letter}
use Rattle.planner.specs.Walked.{turned, walked}

-- a function over a list with one more element
map_snoc : (f : Mark → ℕ) (xs : List Mark) (a : Mark) → map f (xs ++ (a ∷ [])) ≡ map f xs ++ (f a ∷ [])
map_snoc f [] a = refl
map_snoc f (x ∷ xs) a = ap (λ (r : List ℕ). f x ∷ r) (map_snoc f xs a)

-- the elements from a place on, after one is set there
drop_set : (xs : List ℕ) (k x : ℕ) → k < length xs → drop k (set xs k x) ≡ x ∷ drop (suc k) xs
drop_set [] k x h = absurd (omega arith)
drop_set (y ∷ ys) zero x h = refl
drop_set (y ∷ ys) (suc k) x h = drop_set ys k x (omega arith)

-- the letters of a marking's list
listed_letters : (m : ℕ → Mark) (n : ℕ) → map letter (listed m n) ≡ build n (λ i. letter (m (suc i)))
unfolding listed build
listed_letters m zero = refl
listed_letters m (suc n) = map_snoc letter (listed m n) (m (suc n)) ∙ ap (λ (r : List ℕ). r ++ (letter (m (suc n)) ∷ [])) (listed_letters m n)

module _ (p : Rates) (q : Requests) where
  module _ (D : ℕ → ℕ) (k c v : ℕ) where
    -- one step back: its letter is put before those that stand
    walked_back : (L : List ℕ) (t : Turn) → k < length L → t ≡ turned p q k c (D (suc k)) v
        → walked p q D k t.c t.v ++ drop k (set L k t.letter) ≡ walked p q D (suc k) c v ++ drop (suc k) L
    unfolding walked walk turned
    walked_back L t h e =
        let o = turn p q k c (D (suc k)) v in
        let w = walk p q D k (turn_c o k c) (turn_v p q o k c v) in
        rw (e, drop_set L k (letter (turn_mark p q o k c)) h, map_snoc letter w (turn_mark p q o k c)) (sym (append_snoc (map letter w) (letter (turn_mark p q o k c)) (drop (suc k) L)))

    -- and together they stay
    pub walked_step : (i : ℕ) (L X : List ℕ) (t : Turn) → suc k ≡ i → k < length L → t ≡ turned p q k c (D (suc k)) v
        → walked p q D i c v ++ drop i L ≡ X → walked p q D k t.c t.v ++ drop k (set L k t.letter) ≡ X
    walked_step i L X t e h f g = walked_back L t h f ∙ ap (λ (x : ℕ). walked p q D x c v ++ drop x L) e ∙ g

  -- at the first request all stand, and they are the plan's
  pub walked_all : (C D : ℕ → ℕ) (n c v : ℕ) (L o : List ℕ) → Tabled p q n C D → walked p q D 0 c v ++ drop 0 L ≡ walked p q D n n (C n) ++ drop n o
      → L ≡ build n (λ i. letter (plan p q n (suc i))) ++ drop n o
  unfolding walked walk
  walked_all C D n c v L o r e = e ∙ ap (λ (x : List ℕ). x ++ drop n o) (ap (map letter) (walk_plan p q C D n r) ∙ listed_letters (plan p q n) n)
