-- The plan's marks from the last request to the first, by a walk back through D: K wherever K attains the least cost, else S wherever S does.
use Rattle.std.specs.Prelude.{Bool, true, false, not, List, [], ◌∷◌, ◌++◌, ◌⊎◌, ◌≢◌, ◌≡◌, leb, ltb, eqb, get_or, length}
use Rattle.std.proofs.Common.{inl, inr, ap, ◌∙◌, arith, lt-ltb, le-ltb, le-leb, eq-eqb, ne_eqb}
use Rattle.std.proofs.Math.Option.{Option, none, some}
use Rattle.std.proofs.Math.Path.{refl, sym}
use Rattle.std.proofs.Math.Nat.{min-eq_right}
use Prim.Native.Nat.{ℕ, zero, suc, pred, ◌+◌, ◌-◌, ◌≤◌, ◌<◌, min}
use Rattle.std.proofs.Math.ListN.{length-append, get_or-append}
use Rattle.std.proofs.lemmas.List.{get_or_at}
use Rattle.std.proofs.Math.Seq.{ext_get_or}
use Rattle.std.proofs.lemmas.Bool.{lt-leb}
use Rattle.base.specs.Choice.{pick, either, le_or_lt, same_or_not}
use Rattle.model.specs.Rates.{Rates}
use Rattle.model.specs.Requests.{Requests, previous}
use Rattle.model.proofs.RequestLaws.{previous_some, none_some}
use Rattle.model.specs.Marking.{Mark, K, S}
use Rattle.model.specs.Plan.{plan, Agree}
use Rattle.model.specs.Table.{away_price, away_mark, shut_price, may_leave, best}
use Rattle.model.proofs.TableLaws.{span}
use Rattle.model.proofs.Leaving.{away_shut}
use Rattle.model.proofs.BestLaws.{may_none, with_away, with_K, best_none, best_forced, best_both}
use Rattle.model.proofs.TableRows.{Tabled, kept_best}
use Rattle.model.proofs.TableLists.{at, lists, lists_tabled}
use Rattle.model.proofs.Ties.{First, first_zero, first_same, first_K, first_away, first_planned}
use Rattle.model.proofs.PlanLaws.{plan_only}

-- the marking of a list of marks, those of request 1 and on
unfoldable pub marks : List Mark → ℕ → Mark
marks xs i = get_or xs (pred i) S

-- the list of a marking's marks, those of requests 1 to n
unfoldable pub listed : (ℕ → Mark) → ℕ → List Mark
listed m zero = []
listed m (suc n) = listed m n ++ (m (suc n) ∷ [])

-- one more mark leaves those before it
marks_before : (xs : List Mark) (a : Mark) (i : ℕ) → length xs ≡ i → Agree i (marks xs) (marks (xs ++ (a ∷ [])))
unfolding marks
marks_before xs a i e l u w = sym (get_or-append xs (a ∷ []) S (pred l) (omega arith))

-- and is the last
marks_last : (xs : List Mark) (a : Mark) (i : ℕ) → length xs ≡ i → marks (xs ++ (a ∷ [])) (suc i) ≡ a
unfolding marks
marks_last xs a i e = get_or_at xs a [] S i e

-- a mark for each of n requests
pub listed_length : (m : ℕ → Mark) (n : ℕ) → length (listed m n) ≡ n
unfolding listed
listed_length m zero = refl
listed_length m (suc n) = simp length-append (omega (arith, listed_length m n))

-- its places count from 0
pub listed_at : (m : ℕ → Mark) (n i : ℕ) → i < n → get_or (listed m n) i S ≡ m (suc i)
unfolding listed
listed_at m zero i h = absurd (omega arith)
listed_at m (suc n) i h = go (le_or_lt n i) (listed_at m n i)
  where
    go : (n ≤ i) ⊎ (i < n) → (i < n → get_or (listed m n) i S ≡ m (suc i)) → get_or (listed m n ++ (m (suc n) ∷ [])) i S ≡ m (suc i)
    go (inl a) ih = let e : i ≡ n = omega arith in rw e (get_or_at (listed m n) (m (suc n)) [] S n (listed_length m n))
    go (inr a) ih = get_or-append (listed m n) (m (suc n) ∷ []) S i (omega (arith, listed_length m n)) ∙ ih a

-- c for the requests before request i + 1
unfoldable pub turn_c : Option ℕ → ℕ → ℕ → ℕ
turn_c none i c = min c i
turn_c (some j) i c = min c j

module _ (p : Rates) (q : Requests) where
  -- the mark of request i + 1, by where it is kept from, if it is
  unfoldable pub turn_mark : Option ℕ → ℕ → ℕ → Mark
  turn_mark none i c = away_mark p q i c
  turn_mark (some j) i c = K

  -- is request i + 1 K, when its previous request is j and the gaps above c are covered: v is H(i + 1, c) and d is D(i + 1)
  unfoldable pub kept_here : ℕ → ℕ → ℕ → ℕ → ℕ → Bool
  kept_here i c d v j = pick (ltb j c) (eqb d v) (either (not (may_leave p q (suc i))) (leb (span p q j (suc i)) (shut_price p q i)))

  -- where it is kept from, if it is
  unfoldable pub turn : ℕ → ℕ → ℕ → ℕ → Option ℕ
  turn i c d v = elim (previous q (suc i)) [ none ↦ none | some j ↦ pick (kept_here i c d v j) (some j) none ]

  -- what its mark costs
  unfoldable pub turn_price : Option ℕ → ℕ → ℕ → ℕ
  turn_price none i c = away_price p q i c
  turn_price (some j) i c = span p q j (suc i)

  -- and v for the requests before it
  unfoldable pub turn_v : Option ℕ → ℕ → ℕ → ℕ → ℕ
  turn_v o i c v = v - turn_price o i c

  -- the marks of requests 1 to i, found from i down
  unfoldable pub walk : (ℕ → ℕ) → ℕ → ℕ → ℕ → List Mark
  walk D zero c v = []
  walk D (suc i) c v = let o = turn i c (D (suc i)) v in walk D i (turn_c o i c) (turn_v o i c v) ++ (turn_mark o i c ∷ [])

  -- what the test tells: whether K attains the table
  data Told (i c j : ℕ) (b : Bool) : Type 0 where
    yes : b ≡ true → best p q (suc i) c ≡ with_K p q i c j → Told i c j b
    no : b ≡ false → may_leave p q (suc i) ≡ true → best p q (suc i) c < with_K p q i c j → Told i c j b

  -- and it does, where v and d are right
  kept_told : (i c d v j : ℕ) → v ≡ best p q (suc i) c → d ≡ kept_best p q i j → previous q (suc i) ≡ some j → Told i c j (kept_here i c d v j)
  unfolding kept_here
  kept_told i c d v j e f z = go (le_or_lt c j) (may_leave p q (suc i)) refl
    where
      price_low : j < c → with_K p q i c j ≡ d
      price_low h = rw (min-eq_right {n = j} {m = c} (omega arith)) (sym f)

      low : j < c → (b : Bool) → may_leave p q (suc i) ≡ b → (d ≡ v) ⊎ (d ≢ v) → Told i c j (kept_here i c d v j)
      low h b l (inl x) = yes (rw (lt-ltb j c h, eq-eqb d v x)) (omega (arith, price_low h))
      low h false l (inr x) = absurd (x (omega (arith, price_low h, best_forced p q i c j z l)))
      low h true l (inr x) = no (rw (lt-ltb j c h, ne_eqb d v x)) l (omega (arith, price_low h, best_both p q i c j z l))

      shut : c ≤ j → away_price p q i c ≡ shut_price p q i
      shut h = away_shut p q i c (omega (arith, (previous_some q (suc i) j z).below))

      same : c ≤ j → best p q i (min c i) ≡ best p q i (min c j)
      same h = ap (best p q i) (omega (arith, (previous_some q (suc i) j z).below))

      high : c ≤ j → may_leave p q (suc i) ≡ true → (span p q j (suc i) ≤ shut_price p q i) ⊎ (shut_price p q i < span p q j (suc i)) → Told i c j (kept_here i c d v j)
      high h l (inl x) = yes (rw (le-ltb j c h, l, le-leb _ _ x)) (omega (arith, best_both p q i c j z l, shut h, same h))
      high h l (inr x) = no (rw (le-ltb j c h, l, lt-leb _ _ x)) l (omega (arith, best_both p q i c j z l, shut h, same h))

      go : (c ≤ j) ⊎ (j < c) → (b : Bool) → may_leave p q (suc i) ≡ b → Told i c j (kept_here i c d v j)
      go (inl h) true l = high h l (le_or_lt (span p q j (suc i)) (shut_price p q i))
      go (inl h) false l = yes (rw (le-ltb j c h, l)) (best_forced p q i c j z l)
      go (inr h) b l = low h b l (same_or_not d v)

  -- v is right again for the requests before, and was no less than the mark's price
  pub turn_right : (i c d v : ℕ) → v ≡ best p q (suc i) c → ((j : ℕ) → previous q (suc i) ≡ some j → d ≡ kept_best p q i j)
      → turn_price (turn i c d v) i c + best p q i (turn_c (turn i c d v) i c) ≡ v
  unfolding turn turn_price turn_c
  turn_right i c d v e f = go (previous q (suc i)) refl
    where
      told : (j : ℕ) → previous q (suc i) ≡ some j → Told i c j (kept_here i c d v j) → turn_price (turn i c d v) i c + best p q i (turn_c (turn i c d v) i c) ≡ v
      told j z (yes t x) = rw (z, turn, t) (omega arith)
      told j z (no t l x) = rw (z, turn, t) (omega (arith, best_both p q i c j z l))

      go : (o : Option ℕ) → previous q (suc i) ≡ o → turn_price (turn i c d v) i c + best p q i (turn_c (turn i c d v) i c) ≡ v
      go none z = rw (z, turn) (omega (arith, best_none p q i c z))
      go (some j) z = told j z (kept_told i c d v j e (f j z) z)

  -- a mark for each request
  pub walk_length : (D : ℕ → ℕ) (i c v : ℕ) → length (walk D i c v) ≡ i
  unfolding walk
  walk_length D zero c v = refl
  walk_length D (suc i) c v =
      let o = turn i c (D (suc i)) v in simp length-append (omega (arith, walk_length D i (turn_c o i c) (turn_v o i c v)))

  -- one more request: its mark is the table's choice, K where that attains it too
  walk_step : (D : ℕ → ℕ) (i c v : ℕ) → v ≡ best p q (suc i) c → ((j : ℕ) → previous q (suc i) ≡ some j → D (suc i) ≡ kept_best p q i j)
      → ((d w : ℕ) → w ≡ best p q i d → First p q i d (marks (walk D i d w))) → First p q (suc i) c (marks (walk D (suc i) c v))
  unfolding walk turn turn_mark turn_c turn_v turn_price
  walk_step D i c v e f ih = go (previous q (suc i)) refl
    where
      grown : (a : Mark) (d w : ℕ) → w ≡ best p q i d → First p q i d (marks (walk D i d w ++ (a ∷ [])))
      grown a d w x = first_same p q i d (marks (walk D i d w)) (marks (walk D i d w ++ (a ∷ []))) (marks_before (walk D i d w) a i (walk_length D i d w)) (ih d w x)

      last : (a : Mark) (d w : ℕ) → marks (walk D i d w ++ (a ∷ [])) (suc i) ≡ a
      last a d w = marks_last (walk D i d w) a i (walk_length D i d w)

      leave : turn i c (D (suc i)) v ≡ none → may_leave p q (suc i) ≡ true → best p q (suc i) c ≡ with_away p q i c
          → ((j : ℕ) → previous q (suc i) ≡ some j → best p q (suc i) c < with_K p q i c j) → First p q (suc i) c (marks (walk D (suc i) c v))
      leave t l x dear =
          let a = away_mark p q i c in
          rw t (first_away p q i c _ (last a (min c i) (v - away_price p q i c)) l x dear (grown a (min c i) (v - away_price p q i c) (omega arith)))

      stay : (j : ℕ) → previous q (suc i) ≡ some j → turn i c (D (suc i)) v ≡ some j → best p q (suc i) c ≡ with_K p q i c j
          → First p q (suc i) c (marks (walk D (suc i) c v))
      stay j z t x = rw t (first_K p q i c j _ (last K (min c j) (v - span p q j (suc i))) z x (grown K (min c j) (v - span p q j (suc i)) (omega arith)))

      told : (j : ℕ) → previous q (suc i) ≡ some j → Told i c j (kept_here i c (D (suc i)) v j) → First p q (suc i) c (marks (walk D (suc i) c v))
      told j z (yes t x) = stay j z (rw (z, turn, t)) x
      told j z (no t l x) =
          leave (rw (z, turn, t)) l (omega (arith, best_both p q i c j z l)) (λ k w. let u : j ≡ k = cc in rw (← u) x)

      go : (o : Option ℕ) → previous q (suc i) ≡ o → First p q (suc i) c (marks (walk D (suc i) c v))
      go none z = leave (rw (z, turn)) (may_none p q i z) (best_none p q i c z) (λ j w. absurd (none_some z w))
      go (some j) z = told j z (kept_told i c (D (suc i)) v j e (f j z) z)

  -- so the walk's marks are those that a plan must have
  walk_first : (C D : ℕ → ℕ) (n : ℕ) → Tabled p q n C D → (i c v : ℕ) → i ≤ n → v ≡ best p q i c → First p q i c (marks (walk D i c v))
  walk_first C D n r zero c v h e = first_zero p q c (marks (walk D zero c v))
  walk_first C D n r (suc i) c v h e = walk_step D i c v e (λ j z. r.keeps i j h z) (λ d w x. walk_first C D n r i d w (omega arith) x)

  -- the walk from the last request gives the plan's marks
  pub walk_plan : (C D : ℕ → ℕ) (n : ℕ) → Tabled p q n C D → walk D n n (C n) ≡ listed (plan p q n) n
  unfolding marks
  walk_plan C D n r =
      ext_get_or S (walk D n n (C n)) (listed (plan p q n) n) (walk_length D n n (C n) ∙ sym (listed_length (plan p q n) n))
      (λ i h.
      let a : i < n = omega (arith, walk_length D n n (C n)) in
      plan_only p q n (marks (walk D n n (C n))) (first_planned p q n (marks (walk D n n (C n))) (walk_first C D n r n n (C n) (omega arith) (r.costs n (omega arith)))) (suc i) (omega arith) a
      ∙ sym (listed_at (plan p q n) n i a))

  -- so they are computed from the lists of C and D
  pub plan_marks : (n : ℕ) → walk (at (lists p q n).keeps) n n (at (lists p q n).costs n) ≡ listed (plan p q n) n
  plan_marks n = walk_plan (at (lists p q n).costs) (at (lists p q n).keeps) n (lists_tabled p q n)
