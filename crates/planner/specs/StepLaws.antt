-- A row of the table, request by request, by what each costs by itself and by D.
use Rattle.std.specs.Prelude.{Bool, true, false, List, ◌⊎◌, ◌≢◌, ◌≡◌, ℕ, suc, ◌+◌, ◌^◌, ◌≤◌, ◌<◌, min, eqb, length, set}
use Rattle.std.proofs.Common.{inl, inr, sym, ap, ◌∙◌, add-one, arith, get_or-set_same, get_or-set_other, ne_eqb, lt-ltb, le-ltb}
use Rattle.std.proofs.Math.Option.{Option, none, some}
use Rattle.std.proofs.Math.Path.{refl}
use Rattle.base.specs.Choice.{pick, le_or_lt, same_or_not}
use Rattle.model.specs.Rates.{Rates}
use Rattle.model.specs.Requests.{Requests, previous}
use Rattle.model.proofs.RequestLaws.{previous_some}
use Rattle.model.specs.Table.{shut_price, may_leave, best}
use Rattle.model.proofs.TableRows.{row_step, row, kept_best, Tabled, row_next, row_is}
use Rattle.model.proofs.TableLists.{at}
use Rattle.model.proofs.BestLaws.{legal_S}
use Rattle.model.proofs.Bounds.{best_rises}
use Rattle.planner.specs.declared.table.Terms.{Terms}
use Rattle.planner.specs.Asked.{asks}
use Rattle.planner.specs.Terms.{index, span_from, terms_of, shut_by, first_price, lesser, own_cost, next_cost}
use Rattle.planner.specs.TermLaws.{cheaper_under, terms_small}
use Rattle.planner.specs.Fits.{Fits, Ready, Owned, fits_less}

-- the lesser of two small costs is small
lesser_small : (a : Terms) (s k b : ℕ) → s < b → k < b → lesser a s k < b
unfolding lesser
lesser_small a s k b x y = go (eqb a.from 65535) a.free
  where
    go : (none kind : Bool) → pick none s (pick kind (min s k) k) < b
    go true kind = x
    go false true = omega arith
    go false false = y

module _ (p : Rates) (q : Requests) where
  -- what a request costs by itself is small
  pub own_small : (i : ℕ) → i < 65535 → Fits p q (suc i) → own_cost p (terms_of p q i) < 2 ^ 60
  unfolding own_cost shut_by
  own_small i few f =
      lesser_small (terms_of p q i) (shut_by p (terms_of p q i)) (terms_of p q i).span (2 ^ 60)
      (cheaper_under p.upload (terms_of p q i).sendable p.transfer (2 ^ 60) (omega (arith, f.transfer_most)) (omega (arith, f.upload_most)))
      (terms_small p q i few (terms_of p q i) refl f).0

  -- one more request's own cost
  pub owned_more : (i : ℕ) (owns : List ℕ) (x : ℕ) → Owned p q i owns → suc i < length owns → x ≡ own_cost p (terms_of p q i)
      → Owned p q (suc i) (set owns (suc i) x)
  owned_more i owns x o room e k h = go (same_or_not (suc i) (suc k))
    where
      go : (suc i ≡ suc k) ⊎ (suc i ≢ suc k) → at (set owns (suc i) x) (suc k) ≡ own_cost p (terms_of p q k)
      go (inl z) =
          let y : i ≡ k = omega arith in
          rw (← y) (get_or-set_same owns (suc i) x 0 room ∙ e)
      go (inr z) = get_or-set_other owns (suc i) (suc k) x 0 (λ w. z (sym w)) ∙ o k (other z)
        where
          other : (suc i ≢ suc k) → k < i
          other z = omega (arith, z)

  -- a step of a row: D is at most v and the span where the span begins before c, and at least that where it does not
  pub step_is : (c k d v : ℕ) → k < 65535 → v ≡ best p q k c → ((j : ℕ) → previous q (suc k) ≡ some j → d ≡ kept_best p q k j)
      → next_cost p (index (previous q (suc k))) (own_cost p (terms_of p q k)) d v ≡ row_step p q c k d v
  unfolding row_step shut_price terms_of shut_by first_price own_cost next_cost lesser index span_from
  step_is c k d v few e f = go (previous q (suc k)) (may_leave p q (suc k)) refl refl
    where
      rises : (a b : ℕ) → a ≤ b → best p q k a ≤ best p q k b
      rises = best_rises p q k

      far : (j : ℕ) → previous q (suc k) ≡ some j → j ≢ 65535
      far j z x = omega (arith, (previous_some q (suc k) j z).below)

      go : (o : Option ℕ) (b : Bool) → previous q (suc k) ≡ o → may_leave p q (suc k) ≡ b
          → next_cost p (index (previous q (suc k))) (own_cost p (terms_of p q k)) d v ≡ row_step p q c k d v
      go none b z l = rw (z, row_step, terms_of, legal_S p q k z)
      go (some j) true z l = two (le_or_lt c j)
        where
          two : (c ≤ j) ⊎ (j < c) → next_cost p (index (previous q (suc k))) (own_cost p (terms_of p q k)) d v ≡ row_step p q c k d v
          two (inl a) = rw (z, row_step, terms_of, l, ne_eqb j 65535 (far j z), le-ltb j c a) (omega (arith, e, f j z, rises c j a))
          two (inr a) = rw (z, row_step, terms_of, l, ne_eqb j 65535 (far j z), lt-ltb j c a) (omega (arith, e, f j z, rises j c (omega arith)))
      go (some j) false z l = two (le_or_lt c j)
        where
          two : (c ≤ j) ⊎ (j < c) → next_cost p (index (previous q (suc k))) (own_cost p (terms_of p q k)) d v ≡ row_step p q c k d v
          two (inl a) = rw (z, row_step, terms_of, l, ne_eqb j 65535 (far j z), le-ltb j c a) (omega (arith, e, f j z, rises c j a))
          two (inr a) = rw (z, row_step, terms_of, l, ne_eqb j 65535 (far j z), lt-ltb j c a) (omega (arith, e, f j z, rises j c (omega arith)))

module _ (p : Rates) (seconds servers links owns : List ℕ) (n : ℕ) (r : Ready p seconds servers links n) (o : Owned p (asks seconds servers) n owns) where
  -- what a request in the list costs by itself is small
  pub owned_small : (k : ℕ) → k < n → at owns (k + 1) < 2 ^ 60
  owned_small k h =
      let few = r.fits.requests_most in
      rw (add-one k, o k h) (own_small p (asks seconds servers) k (omega arith) (fits_less p (asks seconds servers) n r.fits (suc k) h))

  -- a row, with one more request
  pub row_more : (costs keeps : List ℕ) → Tabled p (asks seconds servers) n (at costs) (at keeps) → (c k v : ℕ) → c ≤ k → k < n → v ≡ row p (asks seconds servers) (at costs) (at keeps) c k
      → next_cost p (at links (k + 1)) (at owns (k + 1)) (at keeps (k + 1)) v ≡ row p (asks seconds servers) (at costs) (at keeps) c (k + 1)
  row_more costs keeps t c k v a h e =
      let few = r.fits.requests_most in
      let q = asks seconds servers in
      let right : Tabled p q k (at costs) (at keeps) = record { costs = λ i l. t.costs i (omega arith); keeps = λ i j l. t.keeps i j (omega arith) } in
      rw (add-one k, r.linked (suc k) h, o k h)
      (step_is p q c k (at keeps (suc k)) v (omega arith) (e ∙ row_is p q (at costs) (at keeps) k c right a) (λ j z. t.keeps k j h z)
      ∙ ap (row_step p q c k (at keeps (suc k))) e
      ∙ sym (row_next p q (at costs) (at keeps) c k a))
