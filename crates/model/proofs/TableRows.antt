-- The table row by row, as a program computes it. H(k, c) is `best p q k c`; C(i) is H(i, i), the least cost of i requests; D(i) is that with K at request i.
use Rattle.std.specs.Prelude.{Bool, true, false, ◌⊎◌, ◌≡◌, ltb}
use Rattle.std.proofs.Common.{inl, inr, sym, ◌∙◌, lt-ltb, le-ltb}
use Rattle.std.proofs.Math.Option.{Option, none, some}
use Rattle.std.proofs.Math.Path.{refl, ap}
use Rattle.std.proofs.Math.Nat.{min-eq_left, min-eq_right}
use native.Mathlib.Omega.{arith}
use Prim.Native.Nat.{ℕ, zero, suc, ◌+◌, ◌≤◌, ◌<◌, min}
use Rattle.base.specs.Choice.{pick, le_or_lt}
use Rattle.model.specs.Rates.{Rates}
use Rattle.model.specs.Requests.{Requests, previous}
use Rattle.model.proofs.RequestLaws.{previous_some}
use Rattle.model.specs.Table.{table, shut_price, open_price, may_leave, best}
use Rattle.model.proofs.TableLaws.{span}
use Rattle.model.proofs.Leaving.{away_shut, away_open}
use Rattle.model.proofs.BestLaws.{with_away, with_K, best_none, best_forced, best_both}

-- the least of what not keeping and K cost, over what is legal at request i with a previous request
abbrev pub least_legal : Rates → Requests → ℕ → ℕ → ℕ → ℕ
least_legal p q i gone kept = pick (may_leave p q i) (min gone kept) kept

module _ (p : Rates) (q : Requests) where
  -- from H(k, c) to H(k + 1, c), for c ≤ k: d is D(k + 1)
  unfoldable pub row_step : ℕ → ℕ → ℕ → ℕ → ℕ
  row_step c k d v =
      elim (previous q (suc k)) [
        | none ↦ shut_price p q k + v
        | some j ↦ least_legal p q (suc k) (shut_price p q k + v) (pick (ltb j c) d (span p q j (suc k) + v))
      ]

  -- H(k, c) for c ≤ k: begun at C(c), and stepped to k
  unfoldable pub row : (ℕ → ℕ) → (ℕ → ℕ) → ℕ → ℕ → ℕ
  row C D c zero = C c
  row C D c (suc k) = pick (ltb k c) (C c) (row_step c k (D (suc k)) (row C D c k))

  -- D(i + 1), from C and D up to i; 0 where there is no previous request
  unfoldable pub next_D : (ℕ → ℕ) → (ℕ → ℕ) → ℕ → ℕ
  next_D C D i = elim (previous q (suc i)) [ none ↦ 0 | some j ↦ span p q j (suc i) + row C D j i ]

  -- C(i + 1), from d, which is D(i + 1), and v, which is C(i)
  unfoldable pub next_C : ℕ → ℕ → ℕ → ℕ
  next_C i d v =
      elim (previous q (suc i)) [
        | none ↦ open_price p q i + v
        | some j ↦ least_legal p q (suc i) (open_price p q i + v) d
      ]

  -- D(i + 1) by the table, where there is a previous request
  abbrev pub kept_best : ℕ → ℕ → ℕ
  kept_best i j = span p q j (suc i) + best p q i j

  -- C and D are right up to n
  pub record Tabled (n : ℕ) (C D : ℕ → ℕ) : Type 0 where
    pub costs : (i : ℕ) → i ≤ n → C i ≡ best p q i i
    pub keeps : (i j : ℕ) → i < n → previous q (suc i) ≡ some j → D (suc i) ≡ kept_best i j

  -- a step of a row is the table's
  pub row_step_is : (c k d v : ℕ) → c ≤ k → v ≡ best p q k c → ((j : ℕ) → previous q (suc k) ≡ some j → d ≡ kept_best k j) → row_step c k d v ≡ best p q (suc k) c
  unfolding row_step
  row_step_is c k d v h e f = go (previous q (suc k)) (may_leave p q (suc k)) refl refl
    where
      via : (j : ℕ) → previous q (suc k) ≡ some j → (c ≤ j) ⊎ (j < c) → pick (ltb j c) d (span p q j (suc k) + v) ≡ with_K p q k c j
      via j z (inl a) = rw (le-ltb j c a, min-eq_left a, e)
      via j z (inr a) = rw (lt-ltb j c a, min-eq_right {n = j} {m = c} (omega arith), f j z)

      gone : shut_price p q k + v ≡ with_away p q k c
      gone = omega (arith, e, away_shut p q k c h, ap (best p q k) (min-eq_left h))

      go : (o : Option ℕ) (b : Bool) → previous q (suc k) ≡ o → may_leave p q (suc k) ≡ b → row_step c k d v ≡ best p q (suc k) c
      go none b z l = rw (z, row_step, gone) (sym (best_none p q k c z))
      go (some j) true z l = rw (z, row_step, l, gone, via j z (le_or_lt c j)) (sym (best_both p q k c j z l))
      go (some j) false z l = rw (z, row_step, l, via j z (le_or_lt c j)) (sym (best_forced p q k c j z l))

  -- a row begins at C(c)
  pub row_start : (C D : ℕ → ℕ) (c : ℕ) → row C D c c ≡ C c
  unfolding row
  row_start C D zero = refl
  row_start C D (suc c) = rw (lt-ltb c (suc c) (omega arith))

  -- and goes on by its step
  pub row_next : (C D : ℕ → ℕ) (c k : ℕ) → c ≤ k → row C D c (suc k) ≡ row_step c k (D (suc k)) (row C D c k)
  unfolding row
  row_next C D c k h = rw (le-ltb k c h)

  -- it asks only for C(c), and for D up to k
  pub row_same : (C D C' D' : ℕ → ℕ) (c k : ℕ) → C c ≡ C' c → ((i : ℕ) → i ≤ k → D i ≡ D' i) → row C D c k ≡ row C' D' c k
  unfolding row
  row_same C D C' D' c zero e f = e
  row_same C D C' D' c (suc k) e f = rw (e, f (suc k) (omega arith), row_same C D C' D' c k e (λ i h. f i (omega arith)))

  -- a row is the table's
  pub row_is : (C D : ℕ → ℕ) (k c : ℕ) → Tabled k C D → c ≤ k → row C D c k ≡ best p q k c
  row_is C D zero c r h = let z : 0 ≡ c = omega arith in rw (← z) (row_start C D 0 ∙ r.costs 0 (omega arith))
  row_is C D (suc k) c r h = go (le_or_lt c k) (λ a. row_is C D k c (record { costs = λ i a. r.costs i (omega arith); keeps = λ i j a. r.keeps i j (omega arith) }) a)
    where
      go : (c ≤ k) ⊎ (k < c) → (c ≤ k → row C D c k ≡ best p q k c) → row C D c (suc k) ≡ best p q (suc k) c
      go (inl a) ih = row_next C D c k a ∙ row_step_is c k (D (suc k)) (row C D c k) a (ih a) (λ j z. r.keeps k j (omega arith) z)
      go (inr a) ih = let z : c ≡ suc k = omega arith in rw z (row_start C D (suc k) ∙ r.costs (suc k) (omega arith))

  -- the next D asks only for C and D up to i
  pub next_D_same : (C D C' D' : ℕ → ℕ) (i : ℕ) → ((l : ℕ) → l ≤ i → C l ≡ C' l) → ((l : ℕ) → l ≤ i → D l ≡ D' l) → next_D C D i ≡ next_D C' D' i
  unfolding next_D
  next_D_same C D C' D' i e f = go (previous q (suc i)) refl
    where
      go : (o : Option ℕ) → previous q (suc i) ≡ o → next_D C D i ≡ next_D C' D' i
      go none z = rw (z, next_D)
      go (some j) z = rw (z, next_D, row_same C D C' D' j i (e j (omega (arith, (previous_some q (suc i) j z).below))) f)

  -- the next D is right
  pub next_D_is : (C D : ℕ → ℕ) (i j : ℕ) → Tabled i C D → previous q (suc i) ≡ some j → next_D C D i ≡ kept_best i j
  unfolding next_D
  next_D_is C D i j r z = rw (z, next_D, row_is C D i j r (omega (arith, (previous_some q (suc i) j z).below)))

  -- and the next C
  pub next_C_is : (i d v : ℕ) → v ≡ best p q i i → ((j : ℕ) → previous q (suc i) ≡ some j → d ≡ kept_best i j) → next_C i d v ≡ best p q (suc i) (suc i)
  unfolding next_C
  next_C_is i d v e f = go (previous q (suc i)) (may_leave p q (suc i)) refl refl
    where
      gone : open_price p q i + v ≡ with_away p q i (suc i)
      gone = omega (arith, e, away_open p q i (suc i) (omega arith), ap (best p q i) (min-eq_right {n = i} {m = suc i} (omega arith)))

      via : (j : ℕ) → previous q (suc i) ≡ some j → d ≡ with_K p q i (suc i) j
      via j z = rw (min-eq_right {n = j} {m = suc i} (omega (arith, (previous_some q (suc i) j z).below))) (f j z)

      go : (o : Option ℕ) (b : Bool) → previous q (suc i) ≡ o → may_leave p q (suc i) ≡ b → next_C i d v ≡ best p q (suc i) (suc i)
      go none b z l = rw (z, next_C, gone) (sym (best_none p q i (suc i) z))
      go (some j) true z l = rw (z, next_C, l, gone, via j z) (sym (best_both p q i (suc i) j z l))
      go (some j) false z l = rw (z, next_C, l, via j z) (sym (best_forced p q i (suc i) j z l))

  -- only C and D up to n count
  pub tabled_same : (C D C' D' : ℕ → ℕ) (n : ℕ) → ((i : ℕ) → i ≤ n → C i ≡ C' i) → ((i : ℕ) → i ≤ n → D i ≡ D' i) → Tabled n C D → Tabled n C' D'
  tabled_same C D C' D' n e f r =
      record { costs = λ i a. sym (e i a) ∙ r.costs i a; keeps = λ i j a z. sym (f (suc i) a) ∙ r.keeps i j a z }

  -- C and D are right for no requests
  pub tabled_zero : (C D : ℕ → ℕ) → C 0 ≡ 0 → Tabled 0 C D
  unfolding best table
  tabled_zero C D e = record { costs = λ i a. (let z : i ≡ 0 = omega arith in rw z e); keeps = λ i j a. absurd (omega arith) }

  -- and for one more, with the next of each
  pub tabled_suc : (C D C' D' : ℕ → ℕ) (n : ℕ) → Tabled n C D → ((i : ℕ) → i ≤ n → C i ≡ C' i) → ((i : ℕ) → i ≤ n → D i ≡ D' i)
      → D' (suc n) ≡ next_D C D n → C' (suc n) ≡ next_C n (next_D C D n) (C n) → Tabled (suc n) C' D'
  tabled_suc C D C' D' n r u w e f = record { costs = λ i a. cost i a (le_or_lt i n); keeps = λ i j a z. keep i j a z (le_or_lt (suc i) n) }
    where
      old : Tabled n C' D'
      old = tabled_same C D C' D' n u w r

      cost : (i : ℕ) → i ≤ suc n → (i ≤ n) ⊎ (n < i) → C' i ≡ best p q i i
      cost i a (inl b) = old.costs i b
      cost i a (inr b) =
          let z : i ≡ suc n = omega arith in rw z (f ∙ next_C_is n (next_D C D n) (C n) (r.costs n (omega arith)) (λ j. next_D_is C D n j r))

      keep : (i j : ℕ) → i < suc n → previous q (suc i) ≡ some j → (suc i ≤ n) ⊎ (n < suc i) → D' (suc i) ≡ kept_best i j
      keep i j a z (inl b) = old.keeps i j b z
      keep i j a z (inr b) = let v : i ≡ n = omega arith in rw v (e ∙ next_D_is C D n j r (rw v at z))
