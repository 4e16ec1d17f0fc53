-- The table of the legal markings, by their marks: where each is legal, and the table's laws in those words.
use Rattle.std.specs.Prelude.{Bool, not, ◌≡◌, eqb}
use Rattle.std.proofs.Math.Bool.{true, false}
use Rattle.std.proofs.Common.{inl, sym, ◌∙◌, arith, ne_eqb, eqb-true}
use Rattle.std.proofs.Math.Option.{Option, none, some}
use Rattle.std.proofs.Math.Path.{refl, ap, fun_ext}
use Prim.Native.Nat.{ℕ, zero, suc, ◌+◌, ◌≤◌, min}
use Rattle.std.proofs.lemmas.Bool.{not-false}
use Rattle.base.specs.Choice.{either}
use Rattle.model.specs.Rates.{Rates, some?}
use Rattle.model.specs.Requests.{Requests, previous}
use Rattle.model.proofs.RequestLaws.{previous_none, previous_next}
use Rattle.model.specs.Marking.{Mark, K, S, U, keeps, legal}
use Rattle.model.specs.Table.{table, send_price, cheaper, away_price, may_leave, best}
use Rattle.model.proofs.TableLaws.{span, May, table_away, table_kept}
use Rattle.model.proofs.Leaving.{leave_price, may_by, away_least}

-- K is legal where there is a previous request
pub legal_K : (p : Rates) (q : Requests) (i j : ℕ) → previous q i ≡ some j → legal p q i K ≡ true
unfolding legal some?
legal_K p q i j e = rw e

-- S is legal where there is no previous request: the one before is then elsewhere
pub legal_S : (p : Rates) (q : Requests) (i : ℕ) → previous q (suc i) ≡ none → legal p q (suc i) S ≡ true
unfolding legal
legal_S p q i e =
    let apart : eqb (q.server (suc i)) (q.server i) ≡ false = ne_eqb (q.server (suc i)) (q.server i) (λ h. previous_none q (suc i) e i (omega arith) (sym h)) in
    ap not apart

-- where it is not, the request before is the previous one
pub forced_next : (p : Rates) (q : Requests) (i : ℕ) → legal p q (suc i) S ≡ false → previous q (suc i) ≡ some i
unfolding legal
forced_next p q i e = previous_next q i (eqb-true (q.server (suc i)) (q.server i) (not-false (eqb (q.server (suc i)) (q.server i)) e))

module _ (p : Rates) (q : Requests) where
  -- a request with no previous one may be other than K
  pub may_none : (i : ℕ) → previous q (suc i) ≡ none → may_leave p q (suc i) ≡ true
  unfolding keeps
  may_none i e = may_by p q (suc i) S refl (legal_S p q i e)

  -- no requests cost nothing
  pub best_zero : (c : ℕ) → best p q zero c ≡ 0
  unfolding best table
  best_zero c = refl

  -- what i + 1 requests cost at least if the last of them is not kept
  abbrev pub with_away : ℕ → ℕ → ℕ
  with_away i c = away_price p q i c + best p q i (min c i)

  -- and with K there, kept from request j
  abbrev pub with_K : ℕ → ℕ → ℕ → ℕ
  with_K i c j = span p q j (suc i) + best p q i (min c j)

  -- at most what a mark that is not K costs
  pub best_leave : (i c : ℕ) (a : Mark) → keeps a ≡ false → legal p q (suc i) a ≡ true
      → best p q (suc i) c ≤ leave_price p q i c a + best p q i (min c i)
  unfolding best May
  best_leave i c a d e =
      omega (arith, table_away p q (may_leave p q) (away_price p q) i c (inl (may_by p q (suc i) a d e)), away_least p q i c a d e)

  -- at most what K costs
  pub best_K : (i c j : ℕ) → previous q (suc i) ≡ some j → best p q (suc i) c ≤ with_K i c j
  unfolding best
  best_K i c j e = table_kept p q (may_leave p q) (away_price p q) i c j e

  -- what it is where there is no previous request: not kept
  pub best_none : (i c : ℕ) → previous q (suc i) ≡ none → best p q (suc i) c ≡ with_away i c
  unfolding best table
  best_none i c e = rw (e, table)

  -- where only K is legal: K
  pub best_forced : (i c j : ℕ) → previous q (suc i) ≡ some j → may_leave p q (suc i) ≡ false → best p q (suc i) c ≡ with_K i c j
  unfolding best table
  best_forced i c j e l = rw (e, l, table)

  -- where another mark is too: the lesser
  pub best_both : (i c j : ℕ) → previous q (suc i) ≡ some j → may_leave p q (suc i) ≡ true
      → best p q (suc i) c ≡ min (with_away i c) (with_K i c j)
  unfolding best table
  best_both i c j e l = rw (e, l, table)

  -- ---- without an upload price
  module _ (none_given : p.upload ≡ none) where
    -- the table of the legal markings: what is not kept is S
    pub best_plain : best p q ≡ table p q (λ i. legal p q i S) (send_price p q)
    unfolding best away_price cheaper may_leave legal some?
    best_plain =
        ap (λ (a : ℕ → Bool). table p q a (away_price p q)) (fun_ext (λ i. leave i (legal p q i S)))
        ∙ ap (λ (a : ℕ → ℕ → ℕ). table p q (λ i. legal p q i S) a)
        (fun_ext (λ i. fun_ext (λ c. ap (λ (u : Option ℕ). cheaper u (legal p q (suc i) S) (send_price p q i c)) none_given)))
      where
        leave : (i : ℕ) (b : Bool) → either b (legal p q i U) ≡ b
        leave i true = refl
        leave i false = ap (λ (u : Option ℕ). some? u) none_given
