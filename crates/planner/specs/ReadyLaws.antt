-- The terms of a request as they are read from lists that are ready: k is the code's index i.
use Rattle.std.specs.Prelude.{Bool, not, List, ◌≡◌, ℕ, suc, ◌+◌, ◌-◌, ◌*◌, ◌≤◌, eqb}
use Rattle.std.proofs.Math.Path.{ap}
use Rattle.std.proofs.Common.{◌∙◌, arith}
use Rattle.std.proofs.Math.Numerals.{add-one}
use Rattle.base.specs.Choice.{either}
use Rattle.model.specs.Rates.{Rates, some?}
use Rattle.model.proofs.RequestLaws.{rises_le}
use Rattle.model.specs.Marking.{legal, gap}
use Rattle.model.specs.Table.{may_leave}
use Rattle.model.proofs.TableLists.{at}
use Rattle.planner.specs.declared.table.Terms.{Terms}
use Rattle.planner.specs.Asked.{asks}
use Rattle.planner.specs.Terms.{index, span_from, terms_of}
use Rattle.planner.specs.Fits.{Ready}
use Rattle.planner.specs.TermLaws.{Linked, alone, after, linked_view}

module _ (p : Rates) (seconds servers links : List ℕ) (i k : ℕ) (e : k ≡ i) (r : Ready p seconds servers links (suc i)) where
  -- the second before
  pub second_before : at seconds k ≤ at seconds (k + 1)
  second_before = rw (e, add-one i) (rises_le r.fits.rising i (suc i) (omega arith) (omega arith))

  -- where there is a previous request, it is an earlier one
  pub link_below : (at links (k + 1) ≡ 65535 → ⊥) → at links (k + 1) ≤ i
  link_below d = go (linked_view (asks seconds servers) (suc i) (at links (k + 1)) (rw (e, add-one i) (r.linked (suc i) (omega arith))))
    where
      go : Linked (asks seconds servers) (suc i) (at links (k + 1)) → at links (k + 1) ≤ i
      go (alone z x) = absurd (d x)
      go (after j z l x) = omega arith

  -- and at an earlier second
  pub link_second : (at links (k + 1) ≡ 65535 → ⊥) → at seconds (at links (k + 1)) ≤ at seconds (k + 1)
  link_second d =
      let b = link_below d in
      rw (ap (λ (x : ℕ). at seconds x) (ap (λ (x : ℕ). x + 1) e ∙ add-one i))
      (rises_le r.fits.rising (at links (k + 1)) (suc i) (omega arith) (omega arith))

  -- it is at another server than the request before
  abbrev apart : Bool
  apart = not (eqb (at servers (k + 1)) (at servers k))

  -- the terms that are read
  abbrev read_terms : Bool → ℕ → ℕ → Terms
  read_terms f s g = record { from = at links (k + 1); sendable = apart; free = f; span = s; gap = g }

  -- without a previous request
  pub read_alone : (f : Bool) (g : ℕ) → at links (k + 1) ≡ 65535 → f ≡ either apart (some? p.upload) → g ≡ p.hold * (at seconds (k + 1) - at seconds k)
      → read_terms f 0 g ≡ terms_of p (asks seconds servers) i
  unfolding terms_of index span_from legal may_leave gap
  read_alone f g h may x = go (linked_view (asks seconds servers) (suc i) (at links (suc i)) (r.linked (suc i) (omega arith)))
    where
      go : Linked (asks seconds servers) (suc i) (at links (suc i)) → read_terms f 0 g ≡ terms_of p (asks seconds servers) i
      go (alone z y) = rw (may, x, e, add-one i, y, z)
      go (after j z l y) = absurd (omega (arith, h, ap (at links) (ap (λ (x : ℕ). x + 1) e ∙ add-one i), r.fits.requests_most))

  -- with one
  pub read_after : (f : Bool) (s g : ℕ) → (at links (k + 1) ≡ 65535 → ⊥) → f ≡ either apart (some? p.upload)
      → s ≡ p.hold * (at seconds (k + 1) - at seconds (at links (k + 1))) → g ≡ p.hold * (at seconds (k + 1) - at seconds k)
      → read_terms f s g ≡ terms_of p (asks seconds servers) i
  unfolding terms_of index span_from legal may_leave gap
  read_after f s g d may y x = go (linked_view (asks seconds servers) (suc i) (at links (suc i)) (r.linked (suc i) (omega arith)))
    where
      go : Linked (asks seconds servers) (suc i) (at links (suc i)) → read_terms f s g ≡ terms_of p (asks seconds servers) i
      go (alone z w) = absurd (d (ap (at links) (ap (λ (x : ℕ). x + 1) e ∙ add-one i) ∙ w))
      go (after j z l w) = rw (may, x, y, e, add-one i, w, z)
