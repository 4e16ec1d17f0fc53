-- The first transfer whose source is not in the set at its second decides as the transfers do one by one.
use Rattle.std.specs.Prelude.{Bool, not, List, [], ◌∷◌, ◌⊎◌, ◌≡◌, ltb}
use Rattle.base.specs.declared.reasons.Reason.TheVariants as reason
use Rattle.std.proofs.Math.Bool.{true, false}
use Rattle.std.proofs.Math.Logic.{inl, inr}
use Rattle.std.proofs.Math.Path.{refl, ap}
use Rattle.std.proofs.Common.{◌∙◌}
use native.Mathlib.Omega.{arith}
use Prim.Native.Nat.{ℕ, zero, suc, ◌+◌, min, ◌≤◌, ◌<◌}
use borrow.Author.Tests.{lt-ltb, le-ltb}
use Rattle.base.specs.Choice.{pick}
use Rattle.base.specs.Sets.{has}
use Rattle.base.specs.Refusals.{Condition, refuse, first, each, otherwise}
use Rattle.base.specs.RefusalLaws.{each_suc}
use Rattle.model.specs.RowForm.{row_at}
use Rattle.model.specs.Checking.{row_count}
use Rattle.rows.specs.Reading.{server_of, second_of}
use Rattle.checker.specs.Quick.{standing_at, unbacked, transfer_test}

-- the source of row i is in the set at its second
unfoldable pub copy_test : ℕ → ℕ → List ℕ → ℕ → List Condition
copy_test count home ns i =
    refuse reason.NoCopy (suc i) (not (has (standing_at count home ns (second_of (row_at ns i))) (server_of (row_at ns i)))) ∷ []

-- one more transfer, row k: an earlier one at fault decides, else this one
module _ (rows k : ℕ) (inside : k < rows) where
  abbrev next : Bool → ℕ → ℕ
  next b l = min (pick b rows k) l

  next_first : (b : Bool) (l : ℕ) → (l ≡ rows) ⊎ (l < k)
      → otherwise (first (refuse reason.NoCopy (suc l) (ltb l rows) ∷ [])) (first (refuse reason.NoCopy (suc k) (not b) ∷ []))
      ≡ first (refuse reason.NoCopy (suc (next b l)) (ltb (next b l) rows) ∷ [])
  unfolding first
  next_first true l (inl e) = let m : min rows l ≡ rows = omega arith in rw (m, e, le-ltb rows rows (omega arith))
  next_first false l (inl e) = let m : min k l ≡ k = omega arith in rw (m, e, le-ltb rows rows (omega arith), lt-ltb k rows inside)
  next_first true l (inr h) = let m : min rows l ≡ l = omega arith in rw (m, lt-ltb l rows (omega arith))
  next_first false l (inr h) = let m : min k l ≡ l = omega arith in rw (m, lt-ltb l rows (omega arith))

  next_where : (b : Bool) (l : ℕ) → (l ≡ rows) ⊎ (l < k) → (next b l ≡ rows) ⊎ (next b l < suc k)
  next_where true l (inl e) = inl (omega arith)
  next_where false l (inl e) = inr (omega arith)
  next_where true l (inr h) = inr (omega arith)
  next_where false l (inr h) = inr (omega arith)

module _ (count home : ℕ) (ns : List ℕ) (from : ℕ) where
  -- 17 for row from + j
  abbrev pub copy_test_on : ℕ → List Condition
  copy_test_on j = copy_test count home ns (from + j)

  -- the first one at fault is one of them, or past the last row
  unbacked_where : (n : ℕ) → from + n ≤ row_count ns → (unbacked count home ns from n ≡ row_count ns) ⊎ (unbacked count home ns from n < from + n)
  unfolding unbacked
  unbacked_where zero l = inl refl
  unbacked_where (suc n) l =
      let e : from + suc n ≡ suc (from + n) = omega arith in
      rw e (next_where (row_count ns) (from + n) (omega arith)
      (has (standing_at count home ns (second_of (row_at ns (from + n)))) (server_of (row_at ns (from + n))))
      (unbacked count home ns from n) (unbacked_where n (omega arith)))

  -- so it gives their verdict
  pub one_by_one : (n : ℕ) → from + n ≤ row_count ns → first (each copy_test_on n) ≡ first (transfer_test ns (unbacked count home ns from n))
  unfolding first each unbacked transfer_test copy_test
  one_by_one zero l = rw (le-ltb (row_count ns) (row_count ns) (omega arith))
  one_by_one (suc n) l =
      each_suc copy_test_on n
      ∙ ap (λ v. otherwise v (first (copy_test_on n))) (one_by_one n (omega arith))
      ∙ next_first (row_count ns) (from + n) (omega arith)
      (has (standing_at count home ns (second_of (row_at ns (from + n)))) (server_of (row_at ns (from + n))))
      (unbacked count home ns from n) (unbacked_where n (omega arith))
