-- Laws of the table: what each choice bounds, which choice attains it, and how it rises with c.
use Rattle.std.specs.Prelude.{Bool, ◌⊎◌, ◌≡◌}
use Rattle.std.proofs.Math.Bool.{true, false}
use Rattle.std.proofs.Common.{inl, inr, mul-le-mul_left, le-leb}
use Rattle.std.proofs.Math.Option.{Option, none, some}
use Rattle.std.proofs.Math.Path.{refl}
use Rattle.std.proofs.Math.Nat.{mul-sub, min-eq_left, min-eq_right}
use native.Mathlib.Omega.{arith}
use Prim.Native.Nat.{ℕ, zero, suc, ◌+◌, ◌-◌, ◌*◌, ◌≤◌, ◌<◌, min}
use Rattle.std.proofs.lemmas.Bool.{lt-leb}
use Rattle.base.specs.Choice.{le_or_lt}
use Rattle.model.specs.Rates.{Rates}
use Rattle.model.specs.Requests.{Requests, previous}
use Rattle.model.specs.Marking.{gap}
use Rattle.model.specs.Table.{open_gap, table, send_price}

module _ (p : Rates) (q : Requests) where
  -- what it costs to hold from second 0 to request i
  abbrev pub held : ℕ → ℕ
  held i = p.hold * q.time i

  -- what it costs to hold from request j to request i
  abbrev pub span : ℕ → ℕ → ℕ
  span j i = p.hold * (q.time i - q.time j)

  -- a gap above c costs nothing
  pub open_gap_shut : (i c : ℕ) → c ≤ i → open_gap p q i c ≡ 0
  unfolding open_gap
  open_gap_shut i c h = rw (lt-leb (suc i) c (omega arith))

  -- a gap up to c costs its length
  pub open_gap_open : (i c : ℕ) → i < c → open_gap p q i c ≡ span i (suc i)
  unfolding open_gap gap
  open_gap_open i c h = rw (le-leb (suc i) c (omega arith))

  -- the open gap rises with c
  pub open_gap_rises : (i c d : ℕ) → c ≤ d → open_gap p q i c ≤ open_gap p q i d
  open_gap_rises i c d h = go (le_or_lt c i)
    where
      go : (c ≤ i) ⊎ (i < c) → open_gap p q i c ≤ open_gap p q i d
      go (inl a) = omega (arith, open_gap_shut i c a)
      go (inr a) = omega (arith, open_gap_open i c a, open_gap_open i d (omega arith))

  -- what a price of not keeping obeys: it rises with c, by no more than the open gap does
  pub record Fair (away : ℕ → ℕ → ℕ) : Type 0 where
    pub rises : (i c d : ℕ) → c ≤ d → away i c ≤ away i d
    pub slope : (i c d : ℕ) → c ≤ d → away i d + open_gap p q i c ≤ away i c + open_gap p q i d

  -- the price of S obeys it
  pub send_fair : Fair (send_price p q)
  unfolding send_price
  send_fair = record { rises = λ i c d h. omega (arith, open_gap_rises i c d h); slope = λ i c d h. omega arith }

  -- request i may be other than K: it is allowed, or it has no previous request
  unfoldable pub May : (ℕ → Bool) → ℕ → Type 0
  May allow i = (allow i ≡ true) ⊎ (previous q i ≡ none)

  module _ (allow : ℕ → Bool) (away : ℕ → ℕ → ℕ) where
    -- the table
    abbrev t : ℕ → ℕ → ℕ
    t = table p q allow away

    -- at most what not keeping costs, where it is allowed
    pub table_away : (i c : ℕ) → May allow (suc i) → t (suc i) c ≤ away i c + t i (min c i)
    unfolding table May
    table_away i c (inr e) = rw (e, table) (omega arith)
    table_away i c (inl a) = go (previous q (suc i)) refl
      where
        go : (o : Option ℕ) → previous q (suc i) ≡ o → t (suc i) c ≤ away i c + t i (min c i)
        go none e = rw (e, table) (omega arith)
        go (some j) e = rw (e, a, table) (omega arith)

    -- at most what keeping costs, where there is a previous request
    pub table_kept : (i c j : ℕ) → previous q (suc i) ≡ some j → t (suc i) c ≤ span j (suc i) + t i (min c j)
    unfolding table
    table_kept i c j e = go (allow (suc i)) refl
      where
        go : (b : Bool) → allow (suc i) ≡ b → t (suc i) c ≤ span j (suc i) + t i (min c j)
        go true a = rw (e, a, table) (omega arith)
        go false a = rw (e, a, table) (omega arith)

    -- the choice that attains it
    pub data Attained (i c : ℕ) : Type 0 where
      gone : May allow (suc i) → t (suc i) c ≡ away i c + t i (min c i) → Attained i c
      kept : (j : ℕ) → previous q (suc i) ≡ some j → t (suc i) c ≡ span j (suc i) + t i (min c j) → Attained i c

    -- one of the two attains it
    pub table_cases : (i c : ℕ) → Attained i c
    unfolding table May
    table_cases i c = go (previous q (suc i)) (allow (suc i)) refl refl
      where
        least : (j : ℕ) → previous q (suc i) ≡ some j → allow (suc i) ≡ true
            → (away i c + t i (min c i) ≤ span j (suc i) + t i (min c j)) ⊎ (span j (suc i) + t i (min c j) < away i c + t i (min c i)) → Attained i c
        least j e a (inl h) = gone (inl a) (rw (e, a, table) (omega arith))
        least j e a (inr h) = kept j e (rw (e, a, table) (omega arith))

        go : (o : Option ℕ) (b : Bool) → previous q (suc i) ≡ o → allow (suc i) ≡ b → Attained i c
        go none b e a = gone (inr e) (rw (e, table))
        go (some j) true e a = least j e a (le_or_lt (away i c + t i (min c i)) (span j (suc i) + t i (min c j)))
        go (some j) false e a = kept j e (rw (e, a, table))

    module _ (fair : Fair away) where
      -- the table rises with c
      pub table_rises : (i c d : ℕ) → c ≤ d → t i c ≤ t i d
      unfolding table
      table_rises zero c d h = omega arith
      table_rises (suc i) c d h = go (table_cases i d) (table_rises i)
        where
          go : Attained i d → ((c d : ℕ) → c ≤ d → t i c ≤ t i d) → t (suc i) c ≤ t (suc i) d
          go (gone may e) ih = omega (arith, table_away i c may, fair.rises i c d h, ih (min c i) (min d i) (omega arith))
          go (kept j e x) ih = omega (arith, table_kept i c j e, ih (min c j) (min d j) (omega arith))

      module _ (n : ℕ) (rise : (a b : ℕ) → a ≤ b → b ≤ n → q.time a ≤ q.time b) where
        -- holding longer costs no less
        held_rises : (a b : ℕ) → a ≤ b → b ≤ n → held a ≤ held b
        held_rises a b h k = mul-le-mul_left p.hold (rise a b h k)

        -- the least of a number and j rises by no more than the number does
        min_slope : (c d j : ℕ) → c ≤ d → d ≤ n → held (min d j) + held c ≤ held (min c j) + held d
        min_slope c d j h k = go (le_or_lt d j) (le_or_lt c j)
          where
            go : (d ≤ j) ⊎ (j < d) → (c ≤ j) ⊎ (j < c) → held (min d j) + held c ≤ held (min c j) + held d
            go (inl a) b = rw (min-eq_left a, min-eq_left {n = c} {m = j} (omega arith)) (omega arith)
            go (inr a) (inl b) =
                rw (min-eq_right {n = j} {m = d} (omega arith), min-eq_left b) (omega (arith, held_rises j d (omega arith) k))
            go (inr a) (inr b) =
                rw (min-eq_right {n = j} {m = d} (omega arith), min-eq_right {n = j} {m = c} (omega arith)) (omega (arith, held_rises c d h k))

        -- and the open gap with the times up to i
        gap_slope : (i c d : ℕ) → c ≤ d → d ≤ n → open_gap p q i d + held (min d i) + held c ≤ open_gap p q i c + held (min c i) + held d
        gap_slope i c d h k = go (le_or_lt d i) (le_or_lt c i)
          where
            go : (d ≤ i) ⊎ (i < d) → (c ≤ i) ⊎ (i < c)
                → open_gap p q i d + held (min d i) + held c ≤ open_gap p q i c + held (min c i) + held d
            go (inl a) b = omega (arith, open_gap_shut i d a, min_slope c d i h k)
            go (inr a) (inl b) =
                rw (min-eq_right {n = i} {m = d} (omega arith), min-eq_left b)
                (omega (arith, open_gap_open i d a, mul-sub p.hold (q.time (suc i)) (q.time i), held_rises i (suc i) (omega arith) (omega arith), held_rises (suc i) d a k))
            go (inr a) (inr b) = omega (arith, open_gap_open i d a, open_gap_open i c b, min_slope c d i h k)

        -- to uncover the gaps from c to d costs at most what they are long: for times that rise up to n
        pub table_slope_upto : (i c d : ℕ) → c ≤ d → d ≤ n → t i d + held c ≤ t i c + held d
        unfolding table
        table_slope_upto zero c d h k = omega (arith, held_rises c d h k)
        table_slope_upto (suc i) c d h k = go (table_cases i c) (table_slope_upto i)
          where
            go : Attained i c → ((c d : ℕ) → c ≤ d → d ≤ n → t i d + held c ≤ t i c + held d) → t (suc i) d + held c ≤ t (suc i) c + held d
            go (gone may e) ih =
                omega (arith, table_away i d may, fair.slope i c d h, gap_slope i c d h k, ih (min c i) (min d i) (omega arith) (omega arith))
            go (kept j e x) ih =
                omega (arith, table_kept i d j e, min_slope c d j h k, ih (min c j) (min d j) (omega arith) (omega arith))

      -- the same, for times that rise for ever
      pub table_slope : ((a b : ℕ) → a ≤ b → q.time a ≤ q.time b) → (i c d : ℕ) → c ≤ d → t i d + held c ≤ t i c + held d
      table_slope rise i c d h = table_slope_upto d (λ a b l u. rise a b l) i c d h (omega arith)
