-- The exchange: a table that allows less costs no more, where what it forbids can be kept over the gap instead. So to force K at the
-- server of the request before costs nothing.
use Rattle.std.specs.Prelude.{Bool, true, false, ◌⊎◌, ◌≡◌}
use Rattle.std.proofs.Math.Logic.{inl}
use Rattle.std.proofs.Common.{inr, ◌∙◌, mul-le-mul_left}
use Rattle.std.proofs.Math.Option.{some}
use Rattle.std.proofs.Math.Path.{refl, ap}
use Rattle.std.proofs.Math.Nat.{mul-sub, min-eq_left, min-eq_right}
use native.Mathlib.Omega.{arith}
use Prim.Native.Nat.{ℕ, zero, suc, ◌+◌, ◌≤◌, ◌<◌, min}
use Rattle.base.specs.Choice.{le_or_lt, true_or_false}
use Rattle.model.specs.Rates.{Rates, upload_fee}
use Rattle.model.specs.Requests.{Requests, previous, Rising}
use Rattle.model.proofs.RequestLaws.{previous_some, rises_le}
use Rattle.model.specs.Marking.{S, U, keeps, legal}
use Rattle.model.specs.Table.{open_gap, table, send_price, away_price, free_price, may_leave, free, best}
use Rattle.model.proofs.TableLaws.{
  held,
  span,
  Fair,
  May,
  Attained,
  gone,
  kept,
  table_away,
  table_kept,
  table_cases,
  table_rises,
  table_slope_upto,
  open_gap_open,
  open_gap_rises,
}
use Rattle.model.proofs.Leaving.{cheaper_fair, may_by, away_S, away_U, free_away, free_cases}
use Rattle.model.proofs.BestLaws.{forced_next}

-- one table, with prices `to`, against another, with prices `from`
module _ (p : Rates) (q : Requests) (allow : ℕ → Bool) (to from : ℕ → ℕ → ℕ) where
  -- request i + 1 is not kept in the other table: the one may follow it, whatever is covered above c, or it is a transfer and could be kept over the gap
  pub data KeepsUp (i c : ℕ) : Type 0 where
    same : May p q allow (suc i) → ((d : ℕ) → c ≤ d → to i d + open_gap p q i c ≤ from i c + open_gap p q i d) → KeepsUp i c
    turned : previous q (suc i) ≡ some i → p.transfer + open_gap p q i c ≤ from i c → KeepsUp i c

  -- request i + 1 can be had for a transfer, or kept over the gap
  pub data ComesNear (i c : ℕ) : Type 0 where
    gets : May p q allow (suc i) → to i c ≤ p.transfer + open_gap p q i c → ComesNear i c
    stays : previous q (suc i) ≡ some i → ComesNear i c

module _ (p : Rates) (q : Requests) (n : ℕ) (r : Rising q n) (allow any : ℕ → Bool) (to from : ℕ → ℕ → ℕ) (fair : Fair p q to)
    (follows : (i c : ℕ) → KeepsUp p q allow to from i c) (reached : (i c : ℕ) → ComesNear p q allow to from i c) where
  -- the table that allows less
  abbrev f : ℕ → ℕ → ℕ
  f = table p q allow to

  -- the other table
  abbrev g : ℕ → ℕ → ℕ
  g = table p q any from

  -- what it costs to hold from second 0 to a request
  abbrev w : ℕ → ℕ
  w = held p q

  -- a span is a difference of those
  span_is : (a b : ℕ) → a ≤ b → b ≤ n → span p q a b + w a ≡ w b
  span_is a b h k = omega (arith, mul-sub p.hold (q.time b) (q.time a), mul-le-mul_left p.hold (rises_le r a b h k))

  -- f is no dearer, or it is no dearer once the span that covers the gaps above c is sent instead
  abbrev Near : ℕ → ℕ → Type 0
  Near i c = (f i c ≤ g i c) ⊎ (f i i + p.transfer + w c ≤ g i c + w i)

  -- either way, f with the gaps above c open costs at most those gaps more than g
  near_open : (i c : ℕ) → i ≤ n → c ≤ i → Near i c → f i i + w c ≤ g i c + w i
  near_open i c k h (inl a) = omega (arith, table_slope_upto p q allow to fair n (rises_le r) i c i h k)
  near_open i c k h (inr a) = omega arith

  -- a request kept over the gap before it
  f_gap : (i c : ℕ) → previous q (suc i) ≡ some i → f (suc i) c ≤ span p q i (suc i) + f i i
  f_gap i c e = omega (arith, table_kept p q allow to i c i e, table_rises p q allow to fair i (min c i) i (omega arith))

  -- one request more costs at most a transfer and its gap
  f_next : (i c : ℕ) → f (suc i) c ≤ p.transfer + span p q i (suc i) + f i i
  f_next i c = go (reached i c)
    where
      go : ComesNear p q allow to from i c → f (suc i) c ≤ p.transfer + span p q i (suc i) + f i i
      go (stays e) = omega (arith, f_gap i c e)
      go (gets may h) =
          omega (
            arith,
            table_away p q allow to i c may,
            table_rises p q allow to fair i (min c i) i (omega arith),
            open_gap_rises p q i c (c + suc i) (omega arith),
            open_gap_open p q i (c + suc i) (omega arith),
          )

  -- request i + 1 is not kept in g, and its gap is open
  gone_open : (i c : ℕ) → i < c → f i i ≤ g i i → g (suc i) c ≡ from i c + g i i → KeepsUp p q allow to from i c → f (suc i) c ≤ g (suc i) c
  gone_open i c h top e (same may fol) =
      omega (arith, table_away p q allow to i c may, fol c (omega arith), table_rises p q allow to fair i (min c i) i (omega arith))
  gone_open i c h top e (turned a dear) = omega (arith, f_gap i c a, open_gap_open p q i c h)

  -- request i + 1 is not kept in g, and its gap is covered
  gone_shut : (i c : ℕ) → suc i ≤ n → c ≤ i → Near i c → g (suc i) c ≡ from i c + g i c → KeepsUp p q allow to from i c → Near (suc i) c
  gone_shut i c k h (inl a) e (same may fol) =
      inl (omega (arith, table_away p q allow to i c may, fol c (omega arith), ap (f i) (min-eq_left h)))
  gone_shut i c k h (inr a) e (same may fol) =
      inr (omega (
        arith,
        table_away p q allow to i (suc i) may,
        table_rises p q allow to fair i (min (suc i) i) i (omega arith),
        fol (suc i) (omega arith),
        open_gap_open p q i (suc i) (omega arith),
        span_is i (suc i) (omega arith) k,
      ))
  gone_shut i c k h a e (turned b dear) =
      inr (omega (arith, f_gap i (suc i) b, near_open i c (omega arith) h a, span_is i (suc i) (omega arith) k))

  -- request i + 1 is kept in g
  kept_near : (i c j : ℕ) → suc i ≤ n → previous q (suc i) ≡ some j → j ≤ i → g (suc i) c ≡ span p q j (suc i) + g i (min c j) → Near i (min c j)
      → (j ≤ c) ⊎ (c < j) → Near (suc i) c
  kept_near i c j k e h x (inl a) z = inl (omega (arith, table_kept p q allow to i c j e))
  kept_near i c j k e h x (inr a) (inl z) =
      inl (omega (arith, f_next i c, span_is i (suc i) (omega arith) k, span_is j (suc i) (omega arith) k, ap w (min-eq_right z)))
  kept_near i c j k e h x (inr a) (inr z) =
      inr (omega (
        arith,
        table_kept p q allow to i (suc i) j e,
        table_rises p q allow to fair i (min (suc i) j) i (omega arith),
        span_is i (suc i) (omega arith) k,
        ap w (min-eq_left {n = c} {m = j} (omega arith)),
      ))

  -- it holds for all of the first n requests
  near : (i c : ℕ) → i ≤ n → c ≤ i → Near i c
  unfolding table
  near zero c k h = inl (omega arith)
  near (suc i) c k h = go (λ c. near i c (omega arith)) (table_cases p q any from i c) (le_or_lt c i)
    where
      go : ((c : ℕ) → c ≤ i → Near i c) → Attained p q any from i c → (c ≤ i) ⊎ (i < c) → Near (suc i) c
      go ih (kept j e x) b =
          let d : j ≤ i = omega (arith, (previous_some q (suc i) j e).below) in
          kept_near i c j k e d x (ih (min c j) (omega arith)) (le_or_lt j c)
      go ih (gone may e) (inl b) = gone_shut i c k b (ih c b) (e ∙ ap (λ (x : ℕ). from i c + g i x) (min-eq_left b)) (follows i c)
      go ih (gone may e) (inr b) =
          let top : f i i ≤ g i i = omega (arith, near_open i i (omega arith) (omega arith) (ih i (omega arith))) in
          inl (gone_open i c b top (e ∙ ap (λ (x : ℕ). from i c + g i x) (min-eq_right {n = i} {m = c} (omega arith))) (follows i c))

  -- the table that allows less is no dearer
  pub no_dearer : f n n ≤ g n n
  no_dearer = omega (arith, near_open n n (omega arith) (omega arith) (near n n (omega arith) (omega arith)))

-- where S is allowed everywhere a table is no dearer than one that allows less, at no lower a price
pub free_least : (p : Rates) (q : Requests) (allow : ℕ → Bool) (low high : ℕ → ℕ → ℕ) → ((i c : ℕ) → low i c ≤ high i c)
    → (i c : ℕ) → table p q (λ i. true) low i c ≤ table p q allow high i c
unfolding table May
free_least p q allow low high below zero c = omega arith
free_least p q allow low high below (suc i) c = go (table_cases p q allow high i c) (free_least p q allow low high below i)
  where
    go : Attained p q allow high i c → ((c : ℕ) → table p q (λ i. true) low i c ≤ table p q allow high i c)
        → table p q (λ i. true) low (suc i) c ≤ table p q allow high (suc i) c
    go (gone may e) ih = omega (arith, table_away p q (λ i. true) low i c (inl refl), below i c, ih (min c i))
    go (kept j e x) ih = omega (arith, table_kept p q (λ i. true) low i c j e, ih (min c j))

module _ (p : Rates) (q : Requests) where
  -- the table where S is allowed everywhere is no dearer than that of the legal markings
  pub free_best : (i c : ℕ) → free p q i c ≤ best p q i c
  unfolding free best
  free_best = free_least p q (may_leave p q) (free_price p q) (away_price p q) (free_away p q)

  -- and not cheaper for all requests with no gap covered
  pub best_free : (n : ℕ) → Rising q n → best p q n n ≡ free p q n n
  unfolding best free away_price free_price send_price May keeps
  best_free n r =
      omega (
        arith,
        free_best n n,
        no_dearer p q n r (may_leave p q) (λ i. true) (away_price p q) (free_price p q) (cheaper_fair p q (λ i. legal p q (suc i) S))
            (λ i c. follows i c (true_or_false (legal p q (suc i) S)) (free_cases p q i c))
            (λ i c. reached i c (true_or_false (legal p q (suc i) S))),
      )
    where
      follows : (i c : ℕ) → (legal p q (suc i) S ≡ true) ⊎ (legal p q (suc i) S ≡ false)
          → (free_price p q i c ≡ send_price p q i c) ⊎ ((legal p q (suc i) U ≡ true) × (free_price p q i c ≡ upload_fee p))
          → KeepsUp p q (may_leave p q) (away_price p q) (free_price p q) i c
      follows i c (inl l) (inl e) = same (inl (may_by p q (suc i) S refl l)) (λ d h. omega (arith, e, away_S p q i d l))
      follows i c (inr l) (inl e) = turned (forced_next p q i l) (omega (arith, e))
      follows i c l (inr e) =
          same (inl (may_by p q (suc i) U refl e.0)) (λ d h. omega (arith, e.1, away_U p q i d e.0, open_gap_rises p q i c d h))

      reached : (i c : ℕ) → (legal p q (suc i) S ≡ true) ⊎ (legal p q (suc i) S ≡ false)
          → ComesNear p q (may_leave p q) (away_price p q) (free_price p q) i c
      reached i c (inl l) = gets (inl (may_by p q (suc i) S refl l)) (omega (arith, away_S p q i c l))
      reached i c (inr l) = stays (forced_next p q i l)
