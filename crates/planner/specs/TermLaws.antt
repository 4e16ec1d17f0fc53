-- The table's steps are what the code makes of a request's terms.
use Rattle.std.specs.Prelude.{Bool, true, false, ◌≡◌, ℕ, suc, ◌+◌, ◌^◌, ◌≤◌, ◌<◌}
use Rattle.std.proofs.Math.Option.{Option, none, some}
use Rattle.std.proofs.Math.Path.{refl, ap}
use Rattle.std.proofs.Common.{◌∙◌}
use native.Mathlib.Omega.{arith}
use borrow.Author.Tests.{ne_eqb}
use Rattle.model.specs.Rates.{Rates, or_zero}
use Rattle.model.specs.Requests.{Requests, previous}
use Rattle.model.proofs.RequestLaws.{previous_some}
use Rattle.model.specs.Marking.{gap}
use Rattle.model.specs.Table.{cheaper, open_price}
use Rattle.model.proofs.TableRows.{row, next_D, next_C}
use Rattle.planner.specs.declared.table.Terms.{Terms}
use Rattle.planner.specs.Terms.{index, span_from, terms_of, bare_by, lesser}
use Rattle.planner.specs.Fits.{Fits, span_small}

-- what the code's index of a previous request tells
pub data Linked (q : Requests) (i x : ℕ) : Type 0 where
  alone : previous q i ≡ none → x ≡ 65535 → Linked q i x
  after : (j : ℕ) → previous q i ≡ some j → j < i → x ≡ j → Linked q i x

pub linked_view : (q : Requests) (i x : ℕ) → x ≡ index (previous q i) → Linked q i x
unfolding index
linked_view q i x e = go (previous q i) refl
  where
    go : (o : Option ℕ) → previous q i ≡ o → Linked q i x
    go none z = alone z (e ∙ ap index z)
    go (some j) z = after j z (previous_some q i j z).below (e ∙ ap index z)

-- what not keeping adds is small where S and the upload price are
pub cheaper_under : (u : Option ℕ) (b : Bool) (s m : ℕ) → s < m → or_zero u < m → cheaper u b s < m
unfolding cheaper or_zero
cheaper_under none b s m h l = h
cheaper_under (some y) true s m h l = omega arith
cheaper_under (some y) false s m h l = l

module _ (p : Rates) (q : Requests) where
  -- the next C
  pub cost_terms : (i d v : ℕ) → i < 65535
      → next_C p q i d v ≡ lesser (terms_of p q i) (bare_by p (terms_of p q i) + v) d
  unfolding next_C open_price terms_of bare_by lesser index span_from
  cost_terms i d v h = go (previous q (suc i)) refl
    where
      go : (o : Option ℕ) → previous q (suc i) ≡ o
          → next_C p q i d v ≡ lesser (terms_of p q i) (bare_by p (terms_of p q i) + v) d
      go none z = rw (z, next_C, terms_of)
      go (some j) z = rw (z, next_C, terms_of, ne_eqb j 65535 (λ e. omega (arith, (previous_some q (suc i) j z).below)))

  -- by the terms of request i + 1, which the code has in hand
  module _ (i : ℕ) (few : i < 65535) (a : Terms) (e : a ≡ terms_of p q i) where
    -- the next D is 0 where the request cannot be kept
    pub keep_none : (C D : ℕ → ℕ) → a.from ≡ 65535 → next_D p q C D i ≡ 0
    unfolding next_D terms_of index
    keep_none C D x = go (linked_view q (suc i) a.from (ap (λ (t : Terms). t.from) e))
      where
        go : Linked q (suc i) a.from → next_D p q C D i ≡ 0
        go (alone z y) = rw (z, next_D)
        go (after j z l y) = absurd (omega arith)

    -- else its span, and the row of the requests before it
    pub keep_some : (C D : ℕ → ℕ) → (a.from ≡ 65535 → ⊥) → next_D p q C D i ≡ a.span + row p q C D a.from i
    unfolding next_D terms_of index span_from
    keep_some C D x = go (previous q (suc i)) refl
      where
        go : (o : Option ℕ) → previous q (suc i) ≡ o → next_D p q C D i ≡ a.span + row p q C D a.from i
        go none z = absurd (x (ap (λ (t : Terms). t.from) e ∙ ap index z))
        go (some j) z = rw (e, z, next_D)

    -- where it can be kept, it is kept from an earlier request
    pub from_below : (a.from ≡ 65535 → ⊥) → a.from ≤ i
    unfolding terms_of
    from_below x = go (linked_view q (suc i) a.from (ap (λ (t : Terms). t.from) e))
      where
        go : Linked q (suc i) a.from → a.from ≤ i
        go (alone z y) = absurd (x y)
        go (after j z l y) = omega arith

    -- its costs are small
    pub terms_small : Fits p q (suc i) → (a.span < 2 ^ 60) × (a.gap < 2 ^ 60)
    unfolding terms_of span_from gap
    terms_small f = rw e (go (previous q (suc i)) refl, span_small p q (suc i) f i (suc i) (omega arith))
      where
        go : (o : Option ℕ) → previous q (suc i) ≡ o → span_from p q (previous q (suc i)) (suc i) < 2 ^ 60
        go none z = rw z (omega arith)
        go (some j) z = rw z (span_small p q (suc i) f j (suc i) (omega arith))
