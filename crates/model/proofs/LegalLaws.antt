-- What a legal mark says of its request.
use Rattle.std.specs.Prelude.{true, ◌≢◌, ◌≡◌, refl, ℕ, pred, eqb}
use Rattle.std.proofs.lemmas.Bool.{false≢true, not-true}
use Rattle.std.proofs.Math.Option.{Option, none, some}
use Rattle.std.proofs.Common.{eq-eqb}
use Rattle.base.specs.Choice.{not_both}
use Rattle.model.specs.Rates.{Rates, some?}
use Rattle.model.specs.Requests.{Requests, previous}
use Rattle.model.proofs.RequestLaws.{none_some}
use Rattle.model.specs.Marking.{Mark, K, S, U, keeps, legal, begin}

-- a K has a previous request
pub kept_from : (p : Rates) (q : Requests) (i : ℕ) → legal p q i K ≡ true → (j : ℕ) × (previous q i ≡ some j)
unfolding legal some?
kept_from p q i e = go (previous q i) refl
  where
    go : (o : Option ℕ) → previous q i ≡ o → (j : ℕ) × (previous q i ≡ some j)
    go none z = absurd (false≢true (rw z at e))
    go (some j) z = (j, z)

-- the span of a kept request begins at its previous request
pub begun : (q : Requests) (m : ℕ → Mark) (i j : ℕ) → begin q m i ≡ some j → previous q i ≡ some j
unfolding begin keeps
begun q m i j e = go (m i) refl
  where
    go : (a : Mark) → m i ≡ a → previous q i ≡ some j
    go K d = rw (d, begin) at e
    go S d = absurd (none_some (rw (d, begin)) e)
    go U d = absurd (none_some (rw (d, begin)) e)

-- an S is at another server than the request before
pub sent_apart : (p : Rates) (q : Requests) (i : ℕ) → legal p q i S ≡ true → q.server i ≢ q.server (pred i)
unfolding legal
sent_apart p q i e z = not_both (eq-eqb (q.server i) (q.server (pred i)) z) (not-true (eqb (q.server i) (q.server (pred i))) e)
