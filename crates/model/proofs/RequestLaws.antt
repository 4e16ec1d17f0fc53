-- Laws of the latest index at a server, of the previous request, and of rising seconds.
use Rattle.std.specs.Prelude.{◌⊎◌, ◌≢◌, ◌≡◌, refl, ℕ, zero, suc, ◌≤◌, ◌<◌}
use Rattle.std.proofs.Common.{inl, inr, sym, ap, ◌∙◌, arith, eq-eqb, ne_eqb}
use Rattle.std.proofs.Math.Option.{Option, none, some}
use Rattle.base.specs.Choice.{le_or_lt, same_or_not}
use Rattle.model.specs.Requests.{Requests, latest, previous, Rising}

-- nothing is none and some at once
pub none_some : {A : Type 0} {o : Option A} {a : A} → o ≡ none → o ≡ some a → ⊥
none_some p q = let z : ◌≡◌ {A = ℕ} 0 1 = cc in omega arith

-- index n itself is at the server
pub latest_hit : (s : ℕ → ℕ) (y n : ℕ) → s n ≡ y → latest s y (suc n) ≡ some n
unfolding latest
latest_hit s y n e = rw (eq-eqb (s n) y e)

-- index n is elsewhere
pub latest_miss : (s : ℕ → ℕ) (y n : ℕ) → s n ≢ y → latest s y (suc n) ≡ latest s y n
unfolding latest
latest_miss s y n e = rw (ne_eqb (s n) y e)

-- j is the latest of the indices below n that is at server y
pub record Latest (s : ℕ → ℕ) (y n j : ℕ) : Type 0 where
  pub below : j < n
  pub there : s j ≡ y
  pub last : (l : ℕ) → j < l → l < n → s l ≢ y

-- some: it is that index
pub latest_some : (s : ℕ → ℕ) (y n j : ℕ) → latest s y n ≡ some j → Latest s y n j
unfolding latest
latest_some s y zero j e = absurd (none_some refl e)
latest_some s y (suc n) j e = go (same_or_not (s n) y) (latest_some s y n j)
  where
    late : ((l : ℕ) → j < l → l < n → s l ≢ y) → s n ≢ y → (l : ℕ) → j < l → l < suc n → (l ≡ n) ⊎ (l ≢ n) → s l ≢ y
    late h d l a b (inl z) w = d (ap s (sym z) ∙ w)
    late h d l a b (inr z) w = h l a (omega arith) w

    go : (s n ≡ y) ⊎ (s n ≢ y) → (latest s y n ≡ some j → Latest s y n j) → Latest s y (suc n) j
    go (inl h) ih =
        let z : n ≡ j = cc (latest_hit s y n h) in
        record { below = omega arith; there = ap s (sym z) ∙ h; last = λ l a b. absurd (omega arith) }
    go (inr h) ih =
        let r = ih (cc (latest_miss s y n h)) in
        record { below = omega (arith, r.below); there = r.there; last = λ l a b. late r.last h l a b (same_or_not l n) }

-- none: no index below n is at the server
pub latest_none : (s : ℕ → ℕ) (y n : ℕ) → latest s y n ≡ none → (l : ℕ) → l < n → s l ≢ y
latest_none s y zero e l h w = omega arith
latest_none s y (suc n) e l h w = go (same_or_not (s n) y) (latest_none s y n)
  where
    go : (s n ≡ y) ⊎ (s n ≢ y) → (latest s y n ≡ none → (l : ℕ) → l < n → s l ≢ y) → ⊥
    go (inl d) ih = none_some e (latest_hit s y n d)
    go (inr d) ih = ih (cc (latest_miss s y n d)) l (let z : l ≢ n = λ x. d (ap s (sym x) ∙ w) in omega arith) w

-- an index at the server is no later than the latest
pub latest_from : (s : ℕ → ℕ) (y n i : ℕ) → s i ≡ y → i < n → (j : ℕ) × (latest s y n ≡ some j) × (i ≤ j)
latest_from s y n i w h = go (latest s y n) refl
  where
    by : (j : ℕ) → latest s y n ≡ some j → (i ≤ j) ⊎ (j < i) → (j : ℕ) × (latest s y n ≡ some j) × (i ≤ j)
    by j e (inl d) = (j, e, d)
    by j e (inr d) = absurd ((latest_some s y n j e).last i d h w)

    go : (o : Option ℕ) → latest s y n ≡ o → (j : ℕ) × (latest s y n ≡ some j) × (i ≤ j)
    go none e = absurd (latest_none s y n e i h w)
    go (some j) e = by j e (le_or_lt i j)

-- the previous request comes before, at the same server, and none there in between
pub previous_some : (q : Requests) (i j : ℕ) → previous q i ≡ some j → Latest q.server (q.server i) i j
unfolding previous
previous_some q i j e = latest_some q.server (q.server i) i j e

-- no previous request: none before is at the server
pub previous_none : (q : Requests) (i : ℕ) → previous q i ≡ none → (l : ℕ) → l < i → q.server l ≢ q.server i
unfolding previous
previous_none q i e l h = latest_none q.server (q.server i) i e l h

-- an earlier request at the same server is no later than the previous one
pub previous_from : (q : Requests) (i l : ℕ) → q.server l ≡ q.server i → l < i → (j : ℕ) × (previous q i ≡ some j) × (l ≤ j)
unfolding previous
previous_from q i l w h = latest_from q.server (q.server i) i l w h

-- where the request before is at the same server, it is the previous one
pub previous_next : (q : Requests) (i : ℕ) → q.server (suc i) ≡ q.server i → previous q (suc i) ≡ some i
unfolding previous
previous_next q i e = latest_hit q.server (q.server (suc i)) i (sym e)

-- of two of the first n requests the later has the later second
pub rises : {q : Requests} {n : ℕ} → Rising q n → (i j : ℕ) → i < j → j ≤ n → q.time i < q.time j
rises r i zero a b = absurd (omega arith)
rises {q} {n} r i (suc j) a b = go (same_or_not i j) (rises r i j)
  where
    go : (i ≡ j) ⊎ (i ≢ j) → (i < j → j ≤ n → q.time i < q.time j) → q.time i < q.time (suc j)
    go (inl e) ih = omega (arith, r.rise j (omega arith), ap q.time e)
    go (inr e) ih = omega (arith, r.rise j (omega arith), ih (omega arith) (omega arith))

-- the same where they may be one
pub rises_le : {q : Requests} {n : ℕ} → Rising q n → (i j : ℕ) → i ≤ j → j ≤ n → q.time i ≤ q.time j
rises_le {q} r i j a b = go (same_or_not i j)
  where
    go : (i ≡ j) ⊎ (i ≢ j) → q.time i ≤ q.time j
    go (inl e) = omega (arith, ap q.time e)
    go (inr e) = omega (arith, rises r i j (omega arith) b)
