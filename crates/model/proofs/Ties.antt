-- The tie rule: a plan's marks are unique, and how they grow request by request.
use Rattle.std.proofs.Math.Bool.{true}
use Rattle.std.specs.Prelude.{false, ◌⊎◌, ◌≢◌, ◌≡◌}
use Rattle.std.proofs.Common.{inl, inr, ◌∙◌}
use Rattle.std.proofs.Math.Option.{some}
use Rattle.std.proofs.Math.Path.{refl, sym, ap}
use native.Mathlib.Omega.{arith}
use Prim.Native.Nat.{ℕ, zero, suc, ◌+◌, ◌≤◌, ◌<◌, min}
use Rattle.base.specs.Choice.{le_or_lt}
use Rattle.model.specs.Rates.{Rates}
use Rattle.model.specs.Sums.{sum}
use Rattle.model.specs.Requests.{Requests, previous}
use Rattle.model.specs.Marking.{Mark, K, S, U, keeps, legal, Valid, cost}
use Rattle.model.specs.Plan.{Agree, rank, Before, Planned}
use Rattle.model.proofs.MarkLaws.{same_mark, rank_K}
use Rattle.model.proofs.LegalLaws.{kept_from}
use Rattle.model.specs.Table.{table, away_mark, may_leave, best}
use Rattle.model.proofs.Leaving.{away_leaves, away_paid, away_legal, away_first}
use Rattle.model.proofs.BestLaws.{legal_K, with_away, with_K}
use Rattle.model.proofs.PartCost.{part, part_cost, part_leave, part_K, part_same, best_part, best_cost}

-- two markings that are each before the other agree
before_both : (n : ℕ) (m m' : ℕ → Mark) → Before n m m' → Before n m' m → Agree n m m'
unfolding Before
before_both n m m' f g i a b = down n i a b (omega arith)
  where
    down : (k i : ℕ) → 1 ≤ i → i ≤ n → n < k + i → m i ≡ m' i
    down zero i a b h = absurd (omega arith)
    down (suc k) i a b h = go (same_mark (m i) (m' i)) (λ l u w. down k l (omega arith) w (omega arith))
      where
        go : (m i ≡ m' i) ⊎ (m i ≢ m' i) → ((l : ℕ) → i < l → l ≤ n → m l ≡ m' l) → m i ≡ m' i
        go (inl e) above = e
        go (inr e) above = absurd (omega (arith, f i a b e above, g i a b (λ x. e (sym x)) (λ l u w. sym (above l u w))))

-- a plan's marks are unique
pub planned_once : (p : Rates) (q : Requests) (n : ℕ) (m m' : ℕ → Mark) → Planned p q n m → Planned p q n m' → Agree n m m'
planned_once p q n m m' P Q =
    let e : cost p q m' n ≡ cost p q m n = omega (arith, P.least m' Q.lawful, Q.least m P.lawful) in
    before_both n m m' (P.before m' Q.lawful e) (Q.before m P.lawful (sym e))

module _ (p : Rates) (q : Requests) where
  -- the same for the first i marks when the gaps above c are covered, with the table's cost
  pub record First (i c : ℕ) (m : ℕ → Mark) : Type 0 where
    pub lawful : Valid p q m i
    pub least : part p q m i c ≡ best p q i c
    pub before : (m' : ℕ → Mark) → Valid p q m' i → part p q m' i c ≡ best p q i c → Before i m m'

  -- no requests: any marking
  pub first_zero : (c : ℕ) (m : ℕ → Mark) → First zero c m
  unfolding part sum best table Before
  first_zero c m = record { lawful = λ i a b. absurd (omega arith); least = refl; before = λ m' l e d a b. absurd (omega arith) }

  -- only the marks up to i count
  pub first_same : (i c : ℕ) (m m' : ℕ → Mark) → Agree i m m' → First i c m → First i c m'
  unfolding Before
  first_same i c m m' e f =
      record {
        lawful = λ l a b. rw (← (e l a b)) (f.lawful l a b);
        least = sym (part_same p q m m' i c e) ∙ f.least;
        before =
            λ x l s d a b u v.
            omega (arith, ap rank (e d a b), f.before x l s d a b (λ w. u (sym (e d a b) ∙ w)) (λ k y z. e k (omega arith) z ∙ v k y z));
      }

  -- one more request, with a mark that attains the table, to which a tie with any other goes
  grow : (i c d : ℕ) (a : Mark) (m : ℕ → Mark) → m (suc i) ≡ a → legal p q (suc i) a ≡ true
      → ((m' : ℕ → Mark) → m' (suc i) ≡ a → part p q m' (suc i) c + best p q i d ≡ best p q (suc i) c + part p q m' i d)
      → ((m' : ℕ → Mark) → Valid p q m' (suc i) → part p q m' (suc i) c ≡ best p q (suc i) c → a ≢ m' (suc i) → rank a < rank (m' (suc i)))
      → First i d m → First (suc i) c m
  unfolding Before
  grow i c d a m e l step tie f =
      record {
        lawful = λ k u w. law k u w (le_or_lt k i);
        least = omega (arith, step m e, f.least);
        before = λ m' l' s k u w x y. go m' l' s k u w x y (le_or_lt k i);
      }
    where
      law : (k : ℕ) → 1 ≤ k → k ≤ suc i → (k ≤ i) ⊎ (i < k) → legal p q k (m k) ≡ true
      law k u w (inl h) = f.lawful k u h
      law k u w (inr h) = let z : suc i ≡ k = omega arith in rw (← z, e) l

      go : (m' : ℕ → Mark) → Valid p q m' (suc i) → part p q m' (suc i) c ≡ best p q (suc i) c → (k : ℕ) → 1 ≤ k → k ≤ suc i → m k ≢ m' k
          → ((l : ℕ) → k < l → l ≤ suc i → m l ≡ m' l) → (k ≤ i) ⊎ (i < k) → rank (m k) < rank (m' k)
      go m' l' s k u w x y (inl h) =
          f.before m' (λ r v z. l' r v (omega arith)) (omega (arith, s, step m' (sym (y (suc i) (omega arith) (omega arith)) ∙ e))) k u h x (λ r v z. y r v (omega arith))
      go m' l' s k u w x y (inr h) =
          let z : k ≡ suc i = omega arith in
          omega (arith, ap (λ (l : ℕ). rank (m l)) z, ap (λ (l : ℕ). rank (m' l)) z, ap rank e, tie m' l' s (λ v. x (ap m z ∙ (e ∙ (v ∙ ap m' (sym z))))))

  -- K, where it is among the least
  pub first_K : (i c j : ℕ) (m : ℕ → Mark) → m (suc i) ≡ K → previous q (suc i) ≡ some j
      → best p q (suc i) c ≡ with_K p q i c j → First i (min c j) m → First (suc i) c m
  first_K i c j m e z x f =
      grow i c (min c j) K m e (legal_K p q (suc i) j z) (λ m' e'. omega (arith, part_K p q m' i c j e' z)) (λ m' l s d. rank_K (m' (suc i)) d) f

  -- the mark of not keeping, where that is among the least and K is not
  pub first_away : (i c : ℕ) (m : ℕ → Mark) → m (suc i) ≡ away_mark p q i c → may_leave p q (suc i) ≡ true
      → best p q (suc i) c ≡ with_away p q i c
      → ((j : ℕ) → previous q (suc i) ≡ some j → best p q (suc i) c < with_K p q i c j) → First i (min c i) m → First (suc i) c m
  unfolding keeps
  first_away i c m e l x dear f =
      grow i c (min c i) (away_mark p q i c) m e (away_legal p q i c l)
      (λ m' e'. omega (arith, part_leave p q m' i c (away_mark p q i c) e' (away_leaves p q i c), away_paid p q i c))
      (λ m' l' s d. tie m' l' s (m' (suc i)) refl d) f
    where
      -- the first i marks of a legal marking cost at least what the table says
      rest : (m' : ℕ → Mark) → Valid p q m' (suc i) → (d : ℕ) → best p q i d ≤ part p q m' i d
      rest m' l' d = best_part p q m' i d (λ k a b. l' k a (omega arith))

      law : (m' : ℕ → Mark) → Valid p q m' (suc i) → (a : Mark) → m' (suc i) ≡ a → legal p q (suc i) a ≡ true
      law m' l' a e' = rw e' at (l' (suc i) (omega arith) (omega arith))

      away : (m' : ℕ → Mark) → Valid p q m' (suc i) → part p q m' (suc i) c ≡ best p q (suc i) c → (a : Mark) → m' (suc i) ≡ a → keeps a ≡ false
          → away_mark p q i c ≢ a → rank (away_mark p q i c) < rank a
      away m' l' s a e' k d =
          away_first p q i c a k (law m' l' a e') (omega (arith, part_leave p q m' i c a e' k, rest m' l' (min c i))) d

      tie : (m' : ℕ → Mark) → Valid p q m' (suc i) → part p q m' (suc i) c ≡ best p q (suc i) c → (a : Mark) → m' (suc i) ≡ a
          → away_mark p q i c ≢ m' (suc i) → rank (away_mark p q i c) < rank (m' (suc i))
      tie m' l' s S e' d = rw e' (away m' l' s S e' refl (λ z. d (z ∙ sym e')))
      tie m' l' s U e' d = rw e' (away m' l' s U e' refl (λ z. d (z ∙ sym e')))
      tie m' l' s K e' d =
          let j = kept_from p q (suc i) (law m' l' K e') in
          absurd (omega (arith, s, dear j.0 j.1, part_K p q m' i c j.0 e' j.1, rest m' l' (min c j.0)))

  -- with no gap covered by later marks it is 01's plan
  pub first_planned : (n : ℕ) (m : ℕ → Mark) → First n n m → Planned p q n m
  first_planned n m f =
      let e : cost p q m n ≡ best p q n n = sym (part_cost p q m n) ∙ f.least in
      record {
        lawful = f.lawful;
        least = λ m' l. omega (arith, best_cost p q m' n l);
        before = λ m' l s. f.before m' l (part_cost p q m' n ∙ (s ∙ e));
      }
