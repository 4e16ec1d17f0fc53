-- Which servers hold over a second: the server of the last request before it, and each server that a K finds, since its previous request.
use Rattle.std.specs.Prelude.{true, ◌⊎◌, ◌≢◌, ◌≡◌, refl}
use Rattle.std.proofs.Common.{inl, inr, sym, ap, ◌∙◌, arith, le-leb}
use Rattle.std.proofs.Math.Option.{some}
use Prim.Native.Nat.{ℕ, zero, suc, ◌+◌, ◌≤◌, ◌<◌}
use Rattle.base.specs.Choice.{pick, le_or_lt, same_or_not}
use Rattle.model.specs.Requests.{Requests, previous, Rising}
use Rattle.model.proofs.RequestLaws.{rises_le, Latest, previous_some}
use Rattle.model.specs.Marking.{K}
use Rattle.bounds.specs.History.{last_use, mark, holds, before, over}
use Rattle.bounds.proofs.HistoryLaws.{kept_sent, Turn, target, source, other, turn, Marked, again, back, sent, marked}
use Rattle.bounds.proofs.Seconds.{before_old, before_new, holds_last, holds_some}

-- second τ lies in the gap after request g, before request n or at it
pub record Lies (q : Requests) (n τ g : ℕ) : Type 0 where
  pub below : g < n
  pub low : q.time g < τ
  pub high : τ ≤ q.time (suc g)

-- each second up to request n lies in the gap after the last request before it
pub before_lies : (q : Requests) (n τ : ℕ) → q.time 0 ≡ 0 → 1 ≤ τ → τ ≤ q.time n → Lies q n τ (before q n τ)
before_lies q zero τ z a b = absurd (omega arith)
before_lies q (suc n) τ z a b = go (le_or_lt τ (q.time n)) (before_lies q n τ z a)
  where
    go : (τ ≤ q.time n) ⊎ (q.time n < τ) → (τ ≤ q.time n → Lies q n τ (before q n τ)) → Lies q (suc n) τ (before q (suc n) τ)
    go (inl h) ih = rw (before_old q n τ h) (let l = ih h in record { below = omega (arith, l.below); low = l.low; high = l.high })
    go (inr h) ih = rw (before_new q n τ h) (record { below = omega arith; low = h; high = b })

module _ (W : ℕ) (q : Requests) where
  -- a last use stays as long as its server is neither asked for nor the one before
  steady : (y j g i : ℕ) → ((l : ℕ) → j < l → l ≤ i → q.server l ≢ y) → j < g → g ≤ i → last_use W q g y ≡ last_use W q i y
  steady y j g zero out a b = absurd (omega arith)
  steady y j g (suc i) out a b = go (same_or_not g (suc i)) (steady y j g i (λ l c d. out l c (omega arith)) a) (turn W q i y)
    where
      go : (g ≡ suc i) ⊎ (g ≢ suc i) → (g ≤ i → last_use W q g y ≡ last_use W q i y) → Turn W q i y → last_use W q g y ≡ last_use W q (suc i) y
      go (inl e) ih t = ap (λ (x : ℕ). last_use W q x y) e
      go (inr e) ih (target c d) = absurd (out (suc i) (omega arith) (omega arith) (sym c))
      go (inr e) ih (source c d f l) = absurd (out i (omega arith) (omega arith) (sym d))
      go (inr e) ih (other c d l) = ih (omega arith) ∙ sym l

  module _ (n : ℕ) (rising : Rising q n) where
    -- the server of the last request before a second holds over it
    pub last_over : (τ : ℕ) → over W q n τ (q.server (before q n τ)) ≡ 1
    unfolding over
    last_over τ = rw (holds_last W q (before q n τ) (q.server (before q n τ)) τ refl)

    -- the server of a K holds since its previous request
    pub kept_over : (i j τ : ℕ) → i < n → mark W q (suc i) ≡ K → previous q (suc i) ≡ some j → q.time j < τ → τ ≤ q.time (suc i)
        → over W q n τ (q.server (suc i)) ≡ 1
    unfolding over
    kept_over i j τ h m e a b = go (before q n τ) (before_lies q n τ rising.start (omega arith) (omega (arith, rises_le rising (suc i) n h (omega arith))))
      where
        y : ℕ
        y = q.server (suc i)

        L : Latest q.server y (suc i) j
        L = previous_some q (suc i) j e

        later : (g : ℕ) → j < g → g ≤ i → q.server g ≢ y → Marked W q i → holds W q g y τ ≡ true
        later g c d f (again s k) = absurd (L.last i (omega arith) (omega arith) (sym s))
        later g c d f (back s k u l z) =
            holds_some W q g y τ u (λ x. f (sym x)) (steady y j g i (λ l p o. L.last l p (omega arith)) c d ∙ l)
            ∙ le-leb τ (u + W) (omega arith)
        later g c d f (sent s k z) = absurd (kept_sent m k)

        at : (g : ℕ) → g ≤ i → j ≤ g → (g ≡ j) ⊎ (g ≢ j) → holds W q g y τ ≡ true
        at g c d (inl z) = holds_last W q g y τ (sym (ap q.server z ∙ L.there))
        at g c d (inr z) = later g (omega arith) c (L.last g (omega arith) (omega arith)) (marked W q i)

        early : (g : ℕ) → Lies q n τ g → (g ≤ i) ⊎ (i < g) → g ≤ i
        early g l (inl z) = z
        early g l (inr z) = absurd (omega (arith, l.low, rises_le rising (suc i) g z (omega (arith, l.below))))

        late : (g : ℕ) → Lies q n τ g → (j ≤ g) ⊎ (g < j) → j ≤ g
        late g l (inl z) = z
        late g l (inr z) = absurd (omega (arith, l.high, rises_le rising (suc g) j z (omega (arith, L.below))))

        go : (g : ℕ) → Lies q n τ g → pick {A = ℕ} (holds W q g y τ) 1 0 ≡ 1
        go g l = rw (at g (early g l (le_or_lt g i)) (late g l (le_or_lt j g)) (same_or_not g j))
