-- The plan is 01's: a legal marking, of the least cost of all, before all others of that cost; it costs what the table says, and no other marking is such.
-- The list of legal markings has each of them and is in the order of the tie rule, so the first of its least ones is the plan.
use Rattle.std.specs.Prelude.{Bool, ◌⊎◌, ◌≡◌}
use Rattle.std.proofs.Math.Bool.{true, false}
use mathlib.Core.List.Memᴰ
use mathlib.Core.List.{List, [], ◌++◌, map, Memᴰ}
use Rattle.std.proofs.Common.{inl, inr, ap, ◌∙◌, eq-eqb, ne_eqb}
use Rattle.std.proofs.Math.Option.{Option, none, some}
use Rattle.std.proofs.Math.Path.{refl, sym}
use native.Mathlib.Omega.{arith}
use Prim.Native.Nat.{ℕ, zero, suc, ◌≤◌, ◌<◌, min}
use Rattle.base.specs.Choice.{pick, le_or_lt}
use Rattle.model.specs.Rates.{Rates}
use Rattle.model.specs.Requests.{Requests, previous}
use Rattle.model.proofs.RequestLaws.{none_some}
use Rattle.model.specs.Marking.{Mark, K, S, U, legal, Valid, cost}
use Rattle.model.specs.Plan.{put_mark, markings, plan, plan_cost, Agree, rank, Before, Planned}
use Rattle.model.specs.Table.{away_mark, may_leave, best}
use Rattle.model.proofs.BestLaws.{may_none, with_away, with_K, best_none, best_forced, best_both}
use Rattle.model.proofs.PartCost.{part_cost, part_same}
use Rattle.model.proofs.Ties.{planned_once, First, first_zero, first_same, first_K, first_away, first_planned}
use Rattle.model.proofs.LeastLaws.{Sorted, sorted_append, sorted_map, Foremost, least_foremost}

-- the mark put there
put_at : (m : ℕ → Mark) (i : ℕ) (a : Mark) → put_mark m i a i ≡ a
unfolding put_mark
put_at m i a = rw (eq-eqb i i refl)

-- the others stay
put_below : (m : ℕ → Mark) (i : ℕ) (a : Mark) → Agree i (put_mark m (suc i) a) m
unfolding put_mark
put_below m i a l u w = rw (ne_eqb l (suc i) (λ e. omega arith))

-- ---- the order of the tie rule

-- with the same mark put after them, two markings stay in order
before_put : (n : ℕ) (a : Mark) (m m' : ℕ → Mark) → Before n m m' → Before (suc n) (put_mark m (suc n) a) (put_mark m' (suc n) a)
unfolding Before
before_put n a m m' f d u w x y = go (le_or_lt d n)
  where
    go : (d ≤ n) ⊎ (n < d) → rank (put_mark m (suc n) a d) < rank (put_mark m' (suc n) a d)
    go (inl h) =
        let e = put_below m n a d u h in
        let e' = put_below m' n a d u h in
        omega (
          arith,
          ap rank e,
          ap rank e',
          f d u h (λ z. x (e ∙ (z ∙ sym e')))
              (λ i k l. sym (put_below m n a i (omega arith) l) ∙ (y i k (omega arith) ∙ put_below m' n a i (omega arith) l)),
        )
    go (inr h) = let z : d ≡ suc n = omega arith in absurd (x (rw z (put_at m (suc n) a ∙ sym (put_at m' (suc n) a))))

-- with marks of which a tie goes to the first, they are in order
before_marks : (n : ℕ) (a b : Mark) → rank a < rank b → (m m' : ℕ → Mark) → m (suc n) ≡ a → m' (suc n) ≡ b → Before (suc n) m m'
unfolding Before
before_marks n a b h m m' e e' d u w x y = go (le_or_lt d n)
  where
    go : (d ≤ n) ⊎ (n < d) → rank (m d) < rank (m' d)
    go (inl k) = absurd (omega (arith, ap rank (sym e ∙ (y (suc n) (omega arith) (omega arith) ∙ e'))))
    go (inr k) = let z : d ≡ suc n = omega arith in omega (arith, ap (λ (l : ℕ). rank (m l)) z, ap (λ (l : ℕ). rank (m' l)) z, ap rank e, ap rank e')

-- no marking differs from itself
before_same : (n : ℕ) (m : ℕ → Mark) → Before n m m
unfolding Before
before_same n m d u w x y = absurd (x refl)

-- only the marks up to n count
before_agree : (n : ℕ) (m m' m'' : ℕ → Mark) → Agree n m'' m' → Before n m m' → Before n m m''
unfolding Before
before_agree n m m' m'' g f d u w x y =
    omega (arith, ap rank (g d u w), f d u w (λ z. x (z ∙ sym (g d u w))) (λ i k l. y i k l ∙ g i (omega arith) l))

module _ (p : Rates) (q : Requests) where
  -- ---- the list of the legal markings

  -- those with mark a at request n + 1
  abbrev block : ℕ → Mark → List (ℕ → Mark)
  block n a = pick (legal p q (suc n) a) (map (λ m. put_mark m (suc n) a) (markings p q n)) []

  -- what is in it
  record Put (n : ℕ) (a : Mark) (m : ℕ → Mark) : Type 0 where
    lawful : legal p q (suc n) a ≡ true
    start : ℕ → Mark
    inside : Memᴰ start (markings p q n)
    is : put_mark start (suc n) a ≡ m

  in_block : (n : ℕ) (a : Mark) {m : ℕ → Mark} → Memᴰ m (block n a) → Put n a m
  in_block n a {m} x = go (legal p q (suc n) a) refl x
    where
      go : (b : Bool) → legal p q (suc n) a ≡ b → Memᴰ m (pick b (map (λ m. put_mark m (suc n) a) (markings p q n)) []) → Put n a m
      go true e y =
          let r = Memᴰ.of_map (λ m. put_mark m (suc n) a) (markings p q n) y in
          record { lawful = e; start = r.0; inside = r.1; is = r.2 }
      go false e y = absurd (Memᴰ.not-nil y)

  to_block : (n : ℕ) (a : Mark) {m : ℕ → Mark} → legal p q (suc n) a ≡ true → Memᴰ m (markings p q n) → Memᴰ (put_mark m (suc n) a) (block n a)
  to_block n a e x = rw e (Memᴰ.map (λ m. put_mark m (suc n) a) x)

  -- a mark that is legal there can be put
  grown_in : (n : ℕ) (a : Mark) {m : ℕ → Mark} → legal p q (suc n) a ≡ true → Memᴰ m (markings p q n)
      → Memᴰ (put_mark m (suc n) a) (markings p q (suc n))
  unfolding markings
  grown_in n K e x = Memᴰ.append_left (block n S ++ block n U) (to_block n K e x)
  grown_in n S e x = Memᴰ.append_right (block n K) (Memᴰ.append_left (block n U) (to_block n S e x))
  grown_in n U e x = Memᴰ.append_right (block n K) (Memᴰ.append_right (block n S) (to_block n U e x))

  -- and nothing else is in the list
  grown_from : (n : ℕ) {m : ℕ → Mark} → Memᴰ m (markings p q (suc n)) → (a : Mark) × Put n a m
  unfolding markings
  grown_from n {m} x = go (Memᴰ.append_cases (block n K) x)
    where
      rest : Memᴰ m (block n S) ⊎ Memᴰ m (block n U) → (a : Mark) × Put n a m
      rest (inl y) = (S, in_block n S y)
      rest (inr y) = (U, in_block n U y)

      go : Memᴰ m (block n K) ⊎ Memᴰ m (block n S ++ block n U) → (a : Mark) × Put n a m
      go (inl y) = (K, in_block n K y)
      go (inr y) = rest (Memᴰ.append_cases (block n S) y)

  -- each of the list is legal
  listed_valid : (n : ℕ) {m : ℕ → Mark} → Memᴰ m (markings p q n) → Valid p q m n
  listed_valid zero x i u w = absurd (omega arith)
  listed_valid (suc n) {m} x i u w = go (grown_from n x) (le_or_lt i n) (λ m' y h. listed_valid n y i u h)
    where
      go : (a : Mark) × Put n a m → (i ≤ n) ⊎ (n < i) → ((m' : ℕ → Mark) → Memᴰ m' (markings p q n) → i ≤ n → legal p q i (m' i) ≡ true)
          → legal p q i (m i) ≡ true
      go (a, P) (inl h) ih = rw (← P.is, put_below P.start n a i u h) (ih P.start P.inside h)
      go (a, P) (inr h) ih = let z : suc n ≡ i = omega arith in rw (← z, ← P.is, put_at P.start (suc n) a) P.lawful

  -- each legal marking is in it, as far as its first n marks go
  pub listed : (n : ℕ) (m : ℕ → Mark) → Valid p q m n → (m' : ℕ → Mark) × Memᴰ m' (markings p q n) × Agree n m m'
  unfolding markings
  listed zero m v = ((λ i. S), Memᴰ.head refl, λ i u w. absurd (omega arith))
  listed (suc n) m v = go (listed n m (λ i u w. v i u (omega arith)))
    where
      agree : (m' : ℕ → Mark) → Agree n m m' → (i : ℕ) → 1 ≤ i → i ≤ suc n → (i ≤ n) ⊎ (n < i) → m i ≡ put_mark m' (suc n) (m (suc n)) i
      agree m' g i u w (inl h) = g i u h ∙ sym (put_below m' n (m (suc n)) i u h)
      agree m' g i u w (inr h) = let z : i ≡ suc n = omega arith in rw z (sym (put_at m' (suc n) (m (suc n))))

      go : (m' : ℕ → Mark) × Memᴰ m' (markings p q n) × Agree n m m' → (m' : ℕ → Mark) × Memᴰ m' (markings p q (suc n)) × Agree (suc n) m m'
      go (m', x, g) = (
        put_mark m' (suc n) (m (suc n)),
        grown_in n (m (suc n)) (v (suc n) (omega arith) (omega arith)) x,
        λ i u w. agree m' g i u w (le_or_lt i n),
      )

  -- the list is in order
  markings_sorted : (n : ℕ) → Sorted (Before n) (markings p q n)
  unfolding markings rank
  markings_sorted zero = (λ y x. absurd (Memᴰ.not-nil x), tt)
  markings_sorted (suc n) =
      let sorted = markings_sorted n in
      sorted_append (Before (suc n)) (block n K) (block n S ++ block n U) (within sorted K)
      (sorted_append (Before (suc n)) (block n S) (block n U) (within sorted S) (within sorted U) (λ x y k l. apart S U (omega arith) (in_block n S k) (in_block n U l)))
      (λ x y k l. others (in_block n K k) (Memᴰ.append_cases (block n S) l))
    where
      within : Sorted (Before n) (markings p q n) → (a : Mark) → Sorted (Before (suc n)) (block n a)
      within sorted a = go (legal p q (suc n) a)
        where
          go : (b : Bool) → Sorted (Before (suc n)) (pick b (map (λ m. put_mark m (suc n) a) (markings p q n)) [])
          go true = sorted_map (Before n) (Before (suc n)) (λ m. put_mark m (suc n) a) (before_put n a) (markings p q n) sorted
          go false = tt

      apart : (a b : Mark) → rank a < rank b → {x y : ℕ → Mark} → Put n a x → Put n b y → Before (suc n) x y
      apart a b h {x} {y} P Q =
          before_marks n a b h x y (rw (← P.is) (put_at P.start (suc n) a)) (rw (← Q.is) (put_at Q.start (suc n) b))

      others : {x y : ℕ → Mark} → Put n K x → Memᴰ y (block n S) ⊎ Memᴰ y (block n U) → Before (suc n) x y
      others P (inl l) = apart K S (omega arith) P (in_block n S l)
      others P (inr l) = apart K U (omega arith) P (in_block n U l)

  -- ---- what the table says is attained

  -- one request more
  attained_next : (i c : ℕ) → ((d : ℕ) → (m : ℕ → Mark) × First p q i d m) → (m : ℕ → Mark) × First p q (suc i) c m
  attained_next i c ih = go (previous q (suc i)) (may_leave p q (suc i)) refl refl
    where
      grown : (d : ℕ) (a : Mark) → First p q i d (put_mark (ih d).0 (suc i) a)
      grown d a =
          first_same p q i d (ih d).0 (put_mark (ih d).0 (suc i) a)
          (λ l u w. sym (put_below (ih d).0 i a l u w)) (ih d).1

      keep : (j : ℕ) → previous q (suc i) ≡ some j → best p q (suc i) c ≡ with_K p q i c j → (m : ℕ → Mark) × First p q (suc i) c m
      keep j e x = (
        put_mark (ih (min c j)).0 (suc i) K,
        first_K p q i c j (put_mark (ih (min c j)).0 (suc i) K) (put_at (ih (min c j)).0 (suc i) K) e x (grown (min c j) K),
      )

      leave : may_leave p q (suc i) ≡ true → best p q (suc i) c ≡ with_away p q i c
          → ((j : ℕ) → previous q (suc i) ≡ some j → best p q (suc i) c < with_K p q i c j) → (m : ℕ → Mark) × First p q (suc i) c m
      leave l x dear =
          let a = away_mark p q i c in
          let m = put_mark (ih (min c i)).0 (suc i) a in
          (m, first_away p q i c m (put_at (ih (min c i)).0 (suc i) a) l x dear (grown (min c i) a))

      two : (j : ℕ) → previous q (suc i) ≡ some j → may_leave p q (suc i) ≡ true
          → (with_K p q i c j ≤ with_away p q i c) ⊎ (with_away p q i c < with_K p q i c j) → (m : ℕ → Mark) × First p q (suc i) c m
      two j e l (inl h) = keep j e (omega (arith, best_both p q i c j e l))
      two j e l (inr h) =
          leave l (omega (arith, best_both p q i c j e l))
          (λ k z. let w : j ≡ k = cc in omega (arith, best_both p q i c j e l, ap (λ (x : ℕ). with_K p q i c x) w))

      go : (o : Option ℕ) (b : Bool) → previous q (suc i) ≡ o → may_leave p q (suc i) ≡ b → (m : ℕ → Mark) × First p q (suc i) c m
      go none b e l = leave (may_none p q i e) (best_none p q i c e) (λ j z. absurd (none_some e z))
      go (some j) false e l = keep j e (best_forced p q i c j e l)
      go (some j) true e l = two j e l (le_or_lt (with_K p q i c j) (with_away p q i c))

  -- there are marks of the first i requests that attain it, with the gaps above c covered, and come before all others that do
  attained : (i c : ℕ) → (m : ℕ → Mark) × First p q i c m
  attained zero c = ((λ i. S), first_zero p q c (λ i. S))
  attained (suc i) c = attained_next i c (attained i)

  -- ---- the plan

  -- only the first n marks cost
  cost_same : (n : ℕ) (m m' : ℕ → Mark) → Agree n m m' → cost p q m n ≡ cost p q m' n
  cost_same n m m' g = sym (part_cost p q m n) ∙ (part_same p q m m' n n g ∙ part_cost p q m' n)

  -- the plan is 01's
  pub plan_planned : (n : ℕ) → Planned p q n (plan p q n)
  unfolding plan
  plan_planned n =
      record { lawful = listed_valid n F.inside; least = λ m v. least (listed n m v); before = λ m v e. before (listed n m v) e }
    where
      some_listed : (m' : ℕ → Mark) × Memᴰ m' (markings p q n) × Agree n (attained n n).0 m'
      some_listed = listed n (attained n n).0 (attained n n).1.lawful

      F : Foremost (λ m. cost p q m n) (Before n) (before_same n) (markings p q n) (plan p q n)
      F = least_foremost (λ m. cost p q m n) (Before n) (before_same n) (λ i. S) some_listed.0 (markings p q n) some_listed.1 (markings_sorted n)

      least : {m : ℕ → Mark} → (m' : ℕ → Mark) × Memᴰ m' (markings p q n) × Agree n m m' → cost p q (plan p q n) n ≤ cost p q m n
      least {m} (m', x, g) = omega (arith, F.least m' x, cost_same n m m' g)

      before : {m : ℕ → Mark} → (m' : ℕ → Mark) × Memᴰ m' (markings p q n) × Agree n m m' → cost p q m n ≡ cost p q (plan p q n) n
          → Before n (plan p q n) m
      before {m} (m', x, g) e = before_agree n (plan p q n) m' m g (F.before m' x (sym (cost_same n m m' g) ∙ e))

  -- and it is the only one
  pub plan_only : (n : ℕ) (m : ℕ → Mark) → Planned p q n m → Agree n m (plan p q n)
  plan_only n m P = planned_once p q n m (plan p q n) P (plan_planned n)

  -- it costs what the table says
  pub plan_best : (n : ℕ) → plan_cost p q n ≡ best p q n n
  unfolding plan_cost
  plan_best n =
      let m = attained n n in
      sym (cost_same n m.0 (plan p q n) (plan_only n m.0 (first_planned p q n m.0 m.1))) ∙ (sym (part_cost p q m.0 n) ∙ m.1.least)
