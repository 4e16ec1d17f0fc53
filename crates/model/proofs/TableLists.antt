-- C and D as lists, built upwards, for closed examples and for a program that fills two arrays.
use mathlib.Core.List.{List, [], ◌∷◌, ◌++◌}
use Rattle.std.specs.Prelude.{◌≡◌, get_or, length}
use Rattle.std.proofs.Math.Path.{refl, sym}
use Rattle.std.proofs.Common.{arith}
use Prim.Native.Nat.{ℕ, zero, suc, ◌≤◌}
use Rattle.std.proofs.Math.ListN.{length-append, get_or-append}
use Rattle.std.proofs.lemmas.List.{get_or_at}
use Rattle.model.specs.Rates.{Rates}
use Rattle.model.specs.Requests.{Requests}
use Rattle.model.specs.Table.{best}
use Rattle.model.proofs.TableRows.{next_D, next_C, Tabled, tabled_zero, tabled_suc}

-- the number at a place of a list, 0 past its end
abbrev pub at : List ℕ → ℕ → ℕ
at xs i = get_or xs i 0

-- a list of C and a list of D
pub record Lists : Type 0 where
  pub costs : List ℕ
  pub keeps : List ℕ

-- C(0) to C(n), and D(0) to D(n)
unfoldable pub lists : Rates → Requests → ℕ → Lists
lists p q zero = record { costs = 0 ∷ []; keeps = 0 ∷ [] }
lists p q (suc n) =
    let l = lists p q n in
    let d = next_D p q (at l.costs) (at l.keeps) n in
    record { costs = l.costs ++ (next_C p q n d (at l.costs n) ∷ []); keeps = l.keeps ++ (d ∷ []) }

module _ (p : Rates) (q : Requests) where
  -- one number for each of 0 to n
  pub lists_length : (n : ℕ) → (length (lists p q n).costs ≡ suc n) × (length (lists p q n).keeps ≡ suc n)
  unfolding lists
  lists_length zero = (refl, refl)
  lists_length (suc n) = simp length-append (omega (arith, lists_length n))

  -- they are right
  pub lists_tabled : (n : ℕ) → Tabled p q n (at (lists p q n).costs) (at (lists p q n).keeps)
  unfolding lists
  lists_tabled zero = tabled_zero p q (at (0 ∷ [])) (at (0 ∷ [])) refl
  lists_tabled (suc n) =
      tabled_suc p q (at (lists p q n).costs) (at (lists p q n).keeps) (at (lists p q (suc n)).costs) (at (lists p q (suc n)).keeps) n (lists_tabled n)
      (λ i h. sym (get_or-append (lists p q n).costs _ 0 i (omega (arith, lists_length n))))
      (λ i h. sym (get_or-append (lists p q n).keeps _ 0 i (omega (arith, lists_length n))))
      (get_or_at (lists p q n).keeps _ [] 0 (suc n) (lists_length n).1)
      (get_or_at (lists p q n).costs _ [] 0 (suc n) (lists_length n).0)

  -- the least cost of each number of requests up to n
  pub lists_costs : (n i : ℕ) → i ≤ n → at (lists p q n).costs i ≡ best p q i i
  lists_costs n i h = (lists_tabled n).costs i h
