-- What a request leaves at a server: nothing where it has no copy and is not the request's own, and no more seconds than the request's.
use Rattle.std.specs.Prelude.{Bool, ◌≢◌, ◌≡◌, ℕ, ◌≤◌, eqb}
use Rattle.std.proofs.Math.Bool.{true, false}
use Rattle.std.proofs.Math.Path.{refl}
use Rattle.std.proofs.Common.{sym, ap, ◌∙◌, arith}
use borrow.Author.Tests.{ne_eqb}
use Rattle.base.specs.Choice.{pick, not_both}
use Rattle.base.specs.Sets.{has, put}
use Rattle.base.specs.SetLaws.{has_put, has_put_other}
use Rattle.online.specs.declared.Cache.{Cache}
use Rattle.online.specs.Rules.{copy_at, lasts, kept, uses, stands, next_use, seconds}
use Rattle.online.specs.Intact.{Intact}

-- a server that is neither the request's, nor the last one, and has no copy
pub record Untouched (c : Cache) (x y : ℕ) : Type 0 where
  pub not_own : y ≢ x
  pub not_last : y ≢ c.last
  pub no_copy : copy_at c y ≡ false

-- such is each that is not in the holders with the request's server
pub untouched : (c : Cache) (x y : ℕ) → Intact c → has (put c.holders x) y ≡ false → Untouched c x y
unfolding copy_at
untouched c x y s h = record { not_own = own; not_last = λ e. not_both (ap (copy_at c) e ∙ s.last_stands) bare; no_copy = bare }
  where
    own : y ≢ x
    own e = not_both (has_put c.holders x) (ap (has (put c.holders x)) (sym e) ∙ h)

    bare : has c.holders y ≡ false
    bare = sym (has_put_other c.holders x y own) ∙ h

module _ (c : Cache) (τ x y : ℕ) (u : Untouched c x y) where
  -- the request does not use it
  no_use : uses c τ x y ≡ false
  unfolding uses
  no_use = rw (ne_eqb y x u.not_own, ne_eqb y c.last u.not_last) (go (kept c τ x))
    where
      go : (b : Bool) → pick b false false ≡ false
      go true = refl
      go false = refl

  -- no copy stands there
  pub no_stand : stands c τ x y ≡ false
  unfolding stands lasts
  no_stand = rw (no_use, u.no_copy)

  -- its last use is 0
  pub no_next_use : next_use c τ x y ≡ 0
  unfolding next_use
  no_next_use = rw (no_use, no_stand)

  -- it held no second
  pub no_seconds : seconds c τ y ≡ 0
  unfolding seconds
  no_seconds = rw (ne_eqb y c.last u.not_last, u.no_copy)

-- no server held more seconds than there were
pub seconds_most : (c : Cache) (τ y : ℕ) → seconds c τ y ≤ τ
unfolding seconds
seconds_most c τ y = go (eqb y c.last) (copy_at c y) (omega arith) (omega arith)
  where
    go : {m n : ℕ} (a b : Bool) → m ≤ τ → n ≤ τ → pick a m (pick b n 0) ≤ τ
    go true b h k = h
    go false true h k = k
    go false false h k = omega arith
