-- For one server and one second at most one of the first n requests has that second after its previous request and not after itself.
-- So requests that each claim a thing there are no more than the things.
use Rattle.std.specs.Prelude.{Bool, true, false, ◌≡◌, refl, ℕ, ◌*◌, ◌≤◌, ◌<◌, leb, ltb, eqb}
use mathlib.Core.List.{List, Memᴰ}
use Rattle.std.proofs.Math.Option.{Option, none, some}
use Rattle.std.proofs.Common.{sym, ap, ◌∙◌, mul-le-mul_left, arith, lt-ltb, ltb-true, le-leb, leb-true, eq-eqb, eqb-true}
use Rattle.base.specs.Choice.{pick, both, not_both}
use Rattle.model.specs.Sums.{sum, total}
use Rattle.model.proofs.SumLaws.{sum_le, sum_once, sum_scale, sum_total, total_le, total_member}
use Rattle.model.specs.Requests.{Requests, previous, Rising}
use Rattle.model.proofs.RequestLaws.{previous_from, previous_some, rises_le}

-- second τ is after the previous request, if there is one
unfoldable pub since : Requests → Option ℕ → ℕ → Bool
since q none τ = true
since q (some j) τ = ltb (q.time j) τ

-- request i is at server y, and τ is after its previous request and not after i
unfoldable pub awaits : Requests → ℕ → ℕ → ℕ → Bool
awaits q y τ i = both (eqb (q.server i) y) (both (since q (previous q i) τ) (leb τ (q.time i)))

-- the same as a number
abbrev pub awaited : Requests → ℕ → ℕ → ℕ → ℕ
awaited q y τ i = pick (awaits q y τ i) 1 0

-- two tests that hold together
both_true : (a b : Bool) → both a b ≡ true → (a ≡ true) × (b ≡ true)
both_true true b e = (refl, e)
both_true false b e = absurd (not_both e refl)

-- what that test says
pub record Awaits (q : Requests) (y τ i : ℕ) : Type 0 where
  pub there : q.server i ≡ y
  pub after : since q (previous q i) τ ≡ true
  pub by : τ ≤ q.time i

-- it does
pub awaits_true : (q : Requests) (y τ i : ℕ) → awaits q y τ i ≡ true → Awaits q y τ i
unfolding awaits
awaits_true q y τ i e =
    let a = both_true _ _ e in
    let b = both_true _ _ a.1 in
    record { there = eqb-true (q.server i) y a.0; after = b.0; by = leb-true τ (q.time i) b.1 }

-- a request awaits, at its own server, each second after its previous one and not after its own
pub awaits_own : (q : Requests) (τ i : ℕ) → since q (previous q i) τ ≡ true → τ ≤ q.time i → awaits q (q.server i) τ i ≡ true
unfolding awaits
awaits_own q τ i e h = rw (eq-eqb (q.server i) (q.server i) refl, e, le-leb τ (q.time i) h)

-- every second is after the previous request where there is none
pub since_none : (q : Requests) (i τ : ℕ) → previous q i ≡ none → since q (previous q i) τ ≡ true
unfolding since
since_none q i τ e = rw e

-- and else those after its time
pub since_some : (q : Requests) (i j τ : ℕ) → previous q i ≡ some j → q.time j < τ → since q (previous q i) τ ≡ true
unfolding since
since_some q i j τ e h = rw e (lt-ltb (q.time j) τ h)

-- at most one awaits: the later of two requests at one server awaits nothing up to the earlier
pub once : (q : Requests) (n y τ : ℕ) → Rising q n → sum n (awaited q y τ) ≤ 1
unfolding since
once q n y τ r = sum_once n (awaits q y τ) (λ i j h k a b. clash i j h k (awaits_true q y τ i a) (awaits_true q y τ j b))
  where
    since_late : (j l : ℕ) → previous q j ≡ some l → since q (previous q j) τ ≡ true → q.time l < τ
    since_late j l e h = ltb-true (q.time l) τ (ap (λ (o : Option ℕ). since q o τ) (sym e) ∙ h)

    clash : (i j : ℕ) → i < j → j ≤ n → Awaits q y τ i → Awaits q y τ j → ⊥
    clash i j h k a b =
        let l = previous_from q j i (a.there ∙ sym b.there) h in
        omega (
          arith,
          since_late j l.0 l.1 b.after,
          a.by,
          rises_le r i l.0 l.2 (omega (arith, (previous_some q j l.0 l.1).below)),
        )

-- things of some weight, each at a server and a second
module _ {A : Type 0} (q : Requests) (xs : List A) (server second weight : A → ℕ) where
  -- request i counts for nothing, or for no more than a thing that it awaits
  pub data Claim (i v : ℕ) : Type 0 where
    idle : v ≡ 0 → Claim i v
    claims : (a : A) → Memᴰ a xs → v ≤ weight a → awaits q (server a) (second a) i ≡ true → Claim i v

  -- a thing's part for request i
  abbrev part : ℕ → A → ℕ
  part i a = weight a * awaited q (server a) (second a) i

  -- a claim is met by the things' parts
  claim_met : (i v : ℕ) → Claim i v → v ≤ total (part i) xs
  claim_met i v (idle e) = omega arith
  claim_met i v (claims a m h e) = omega (arith, total_member (part i) m, let z : part i a ≡ weight a = rw e (omega arith) in z)

  -- the claims of the first n requests are no more than the weight of all
  pub claims_met : (n : ℕ) → Rising q n → (f : ℕ → ℕ) → ((i : ℕ) → 1 ≤ i → i ≤ n → Claim i (f i)) → sum n f ≤ total weight xs
  claims_met n r f h =
      omega (
        arith,
        sum_le n f (λ i. total (part i) xs) (λ i a b. claim_met i (f i) (h i a b)),
        sum_total n xs (λ a i. part i a),
        total_le (λ a. sum n (λ i. part i a)) weight xs most,
      )
    where
      most : (a : A) → sum n (λ i. part i a) ≤ weight a
      most a =
          omega (
            arith,
            sum_scale (weight a) n (awaited q (server a) (second a)),
            mul-le-mul_left (weight a) (once q n (server a) (second a) r),
          )
