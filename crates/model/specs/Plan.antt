-- The plan: of all legal markings with the least cost, at the latest request where two differ, the K, then the S, then the U (01's 'The plan', 02's Req 11). Assumes nothing.
use Rattle.std.specs.Prelude.{List, [], ◌∷◌, ◌++◌, map, ◌≢◌, ◌≡◌, ℕ, zero, suc, ◌≤◌, ◌<◌, ltb, eqb}
use Rattle.base.specs.Choice.{pick}
use Rattle.model.specs.Rates.{Rates}
use Rattle.model.specs.Requests.{Requests}
use Rattle.model.specs.Schedule.{Row}
use Rattle.model.specs.Marking.{Mark, K, S, U, legal, Valid, cost, rows}

-- m with mark a at request i
unfoldable pub put_mark : (ℕ → Mark) → ℕ → Mark → ℕ → Mark
put_mark m i a j = pick (eqb j i) a (m j)

-- the legal markings of the first n requests, the latest request most significant, K before S before U
unfoldable pub markings : Rates → Requests → ℕ → List (ℕ → Mark)
markings p q zero = (λ i. S) ∷ []
markings p q (suc n) =
    pick (legal p q (suc n) K) (map (λ m. put_mark m (suc n) K) (markings p q n)) []
    ++ (pick (legal p q (suc n) S) (map (λ m. put_mark m (suc n) S) (markings p q n)) []
    ++ pick (legal p q (suc n) U) (map (λ m. put_mark m (suc n) U) (markings p q n)) [])

-- the first of a and a list at which a number is least
unfoldable pub first_least : {A : Type 0} → (A → ℕ) → A → List A → A
first_least f a [] = a
first_least f a (b ∷ bs) = first_least f (pick (ltb (f b) (f a)) b a) bs

-- the same for a list, or d where it is empty (no list of markings is)
unfoldable pub least_of : {A : Type 0} → (A → ℕ) → A → List A → A
least_of f d [] = d
least_of f d (a ∷ bs) = first_least f a bs

-- the plan's marks for the first n requests
unfoldable pub plan : Rates → Requests → ℕ → ℕ → Mark
plan p q n = least_of (λ m. cost p q m n) (λ i. S) (markings p q n)

-- what the plan costs
unfoldable pub plan_cost : Rates → Requests → ℕ → ℕ
plan_cost p q n = cost p q (plan p q n) n

-- the plan's rows, with servers below the count
unfoldable pub plan_rows : Rates → Requests → ℕ → ℕ → List Row
plan_rows p q count n = rows q count (plan p q n) n

-- two markings agree on the first n requests
abbrev pub Agree : ℕ → (ℕ → Mark) → (ℕ → Mark) → Type 0
Agree n m m' = (i : ℕ) → 1 ≤ i → i ≤ n → m i ≡ m' i

-- the mark that a tie goes to: K, then S, then U
unfoldable pub rank : Mark → ℕ
rank K = 0
rank S = 1
rank U = 2

-- at the latest of the first n requests where two markings differ, a tie goes to the mark of the first of them
unfoldable pub Before : ℕ → (ℕ → Mark) → (ℕ → Mark) → Type 0
Before n m m' = (d : ℕ) → 1 ≤ d → d ≤ n → m d ≢ m' d → ((i : ℕ) → d < i → i ≤ n → m i ≡ m' i) → rank (m d) < rank (m' d)

-- 01's plan of n requests: a legal marking, of the least cost of all legal ones, and before all others of that cost
pub record Planned (p : Rates) (q : Requests) (n : ℕ) (m : ℕ → Mark) : Type 0 where
  pub lawful : Valid p q m n
  pub least : (m' : ℕ → Mark) → Valid p q m' n → cost p q m n ≤ cost p q m' n
  pub before : (m' : ℕ → Mark) → Valid p q m' n → cost p q m' n ≡ cost p q m n → Before n m m'
