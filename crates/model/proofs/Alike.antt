-- Requests that agree up to the n-th have the same previous requests, legal marks and tables up to there: the table asks only for the first n requests.
use Rattle.std.specs.Prelude.{Bool, true, false, ◌≡◌, eqb}
use Rattle.std.proofs.Math.Bool.{not}
use Rattle.std.proofs.Math.Option.{Option, none, some}
use Rattle.std.proofs.Math.Path.{refl}
use Rattle.std.proofs.Common.{arith}
use Prim.Native.Nat.{ℕ, zero, suc, pred, ◌-◌, ◌*◌, ◌≤◌, ◌<◌, min}
use Rattle.model.specs.Rates.{Rates}
use Rattle.model.specs.Requests.{Requests, latest, previous}
use Rattle.model.proofs.RequestLaws.{previous_some}
use Rattle.model.specs.Marking.{Mark, K, S, U, legal, gap}
use Rattle.model.specs.Table.{open_gap, table, send_price, away_price, may_leave, best}

-- they agree up to request n
pub record Alike (q q' : Requests) (n : ℕ) : Type 0 where
  pub times : (i : ℕ) → i ≤ n → q.time i ≡ q'.time i
  pub servers : (i : ℕ) → i ≤ n → q.server i ≡ q'.server i

-- the same latest index at a server
latest_alike : (s s' : ℕ → ℕ) (y n : ℕ) → ((i : ℕ) → i < n → s i ≡ s' i) → latest s y n ≡ latest s' y n
unfolding latest
latest_alike s s' y zero h = refl
latest_alike s s' y (suc n) h = rw (h n (omega arith), latest_alike s s' y n (λ i a. h i (omega arith)))

module _ (q q' : Requests) (n : ℕ) (alike : Alike q q' n) where
  -- the same previous requests
  pub previous_alike : (i : ℕ) → i ≤ n → previous q i ≡ previous q' i
  unfolding previous
  previous_alike i h =
      rw (alike.servers i h) (latest_alike q.server q'.server (q'.server i) i (λ l a. alike.servers l (omega arith)))

  -- the same legal marks
  pub legal_alike : (p : Rates) (i : ℕ) (a : Mark) → i ≤ n → legal p q i a ≡ legal p q' i a
  unfolding legal
  legal_alike p i K h = rw (previous_alike i h)
  legal_alike p i U h = refl
  legal_alike p i S h =
      let e : not (eqb (q.server i) (q.server (pred i))) ≡ not (eqb (q'.server i) (q'.server (pred i))) = rw (alike.servers i h, alike.servers (pred i) (omega arith)) in
      e

  -- the same open gaps
  pub open_gap_alike : (p : Rates) (i c : ℕ) → i < n → open_gap p q i c ≡ open_gap p q' i c
  unfolding open_gap gap
  open_gap_alike p i c h = rw (alike.times (suc i) h, alike.times i (omega arith))

  -- the tables are the same where their prices and what they allow are
  pub table_alike : (p : Rates) (allow allow' : ℕ → Bool) (away away' : ℕ → ℕ → ℕ) → ((i : ℕ) → i ≤ n → allow i ≡ allow' i)
      → ((i c : ℕ) → i < n → away i c ≡ away' i c) → (i c : ℕ) → i ≤ n → table p q allow away i c ≡ table p q' allow' away' i c
  unfolding table
  table_alike p allow allow' away away' may pays zero c h = refl
  table_alike p allow allow' away away' may pays (suc i) c h =
      go (previous q' (suc i)) (allow' (suc i)) refl refl (λ c. table_alike p allow allow' away away' may pays i c (omega arith))
    where
      spans : (j : ℕ) → previous q' (suc i) ≡ some j → p.hold * (q.time (suc i) - q.time j) ≡ p.hold * (q'.time (suc i) - q'.time j)
      spans j e = rw (alike.times (suc i) h, alike.times j (omega (arith, (previous_some q' (suc i) j e).below)))

      go : (o : Option ℕ) (b : Bool) → previous q' (suc i) ≡ o → allow' (suc i) ≡ b
          → ((c : ℕ) → table p q allow away i c ≡ table p q' allow' away' i c) → table p q allow away (suc i) c ≡ table p q' allow' away' (suc i) c
      go none b e a ih = rw (previous_alike (suc i) h, e, table) (omega (arith, pays i c h, ih (min c i)))
      go (some j) true e a ih =
          rw (previous_alike (suc i) h, e, may (suc i) h, a, table) (omega (arith, pays i c h, spans j e, ih (min c i), ih (min c j)))
      go (some j) false e a ih = rw (previous_alike (suc i) h, e, may (suc i) h, a, table) (omega (arith, spans j e, ih (min c j)))

  -- the same table of the legal markings
  pub best_alike : (p : Rates) (i c : ℕ) → i ≤ n → best p q i c ≡ best p q' i c
  unfolding best send_price away_price may_leave
  best_alike p =
      table_alike p (may_leave p q) (may_leave p q') (away_price p q) (away_price p q') (λ i h. rw (legal_alike p i S h, legal_alike p i U h))
      (λ i c h. rw (legal_alike p (suc i) S h, open_gap_alike p i c h))
