-- Lists that read alike at every place, 0 standing for what is past their ends: the sheet and the online cache cannot tell them apart.
use Rattle.std.specs.Prelude.{List, [], ◌∷◌, ◌++◌, ◌≡◌, refl, ℕ, zero, suc, ◌-◌, length, get_or, replicate, Ok}
use Rattle.std.proofs.Math.Path.{ap}
use Rattle.base.specs.Lent.{lent}
use Rattle.base.specs.Lists.{build_same}
use Rattle.online.specs.declared.Cache.{Cache}
use Rattle.bounds.specs.Calls.{scan, run}
use Rattle.report.specs.declared.Entry.{Entry}
use Rattle.live.specs.Live.{scans, state_after, live_mark, live_cost}
use Rattle.report.specs.Text.{Columns, entry_of, sheet_text}

abbrev pub Alike : List ℕ → List ℕ → Type 0
Alike xs ys = (i : ℕ) → get_or xs i 0 ≡ get_or ys i 0

-- zeros read as nothing
zeros_alike : (k : ℕ) → Alike (replicate k 0) []
zeros_alike zero i = refl
zeros_alike (suc k) zero = refl
zeros_alike (suc k) (suc i) = zeros_alike k i

-- and so they do after a list
padded_alike : (xs : List ℕ) (k : ℕ) → Alike (xs ++ replicate k 0) xs
padded_alike [] k i = zeros_alike k i
padded_alike (x ∷ xs) k zero = refl
padded_alike (x ∷ xs) k (suc i) = padded_alike xs k i

-- what a call leaves in a list that it was lent reads as its answer
pub lent_alike : (xs o o' : List ℕ) → o' ≡ lent (Ok tt) xs o → Alike o' xs
unfolding lent
lent_alike xs o o' e i = rw e (padded_alike xs (length o - length xs) i)

-- the sheet
pub sheet_alike : (c d : Columns) (n rows closing : ℕ) → Alike c.seconds d.seconds → Alike c.servers d.servers → Alike c.plan d.plan
    → Alike c.live d.live → Alike c.least d.least → Alike c.costs d.costs
    → sheet_text (entry_of c) n rows closing ≡ sheet_text (entry_of d) n rows closing
unfolding entry_of
sheet_alike c d n rows closing h k l m p q = ap (λ (e : ℕ → Entry). sheet_text e n rows closing) (λ j i. same i j)
  where
    same : (i : ℕ) → entry_of c i ≡ entry_of d i
    same i = rw (h i, k i, l i, m i, p (suc i), q i)

module _ (c : Cache) (id a b a' b' : List ℕ) (h : Alike a a') (k : Alike b b') where
  -- the state after requests
  pub state_alike : (n : ℕ) → state_after c id a b n ≡ state_after c id a' b' n
  unfolding state_after scans
  state_alike n =
      ap (run c) (build_same n (λ i. scan id (get_or a i 0) (get_or b i 0)) (λ i. scan id (get_or a' i 0) (get_or b' i 0)) (λ i l. rw (h i, k i)))

  -- the marks
  pub mark_alike : (i : ℕ) → live_mark c id a b i ≡ live_mark c id a' b' i
  unfolding live_mark
  mark_alike i = rw (state_alike i, h i, k i)

  -- the running costs
  pub cost_alike : (i : ℕ) → live_cost c id a b i ≡ live_cost c id a' b' i
  unfolding live_cost
  cost_alike i = rw (state_alike (suc i))
