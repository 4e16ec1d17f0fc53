-- The holders of a state looked at one by one, their last uses struck out: in the end what is left tells whether any server is at fault.
use Rattle.std.specs.Prelude.{Bool, true, false, not, List, ◌⊎◌, ◌≢◌, ◌≡◌, refl, ℕ, zero, suc, ◌+◌, ◌<◌, eqb, ltb, length, get_or, set}
use Rattle.std.proofs.Common.{inl, inr, sym, ap, ◌∙◌, arith, length-set, get_or-set_same, get_or-set_other, eq-eqb, ne_eqb, le-ltb}
use Rattle.base.specs.Choice.{either, same_or_not, not_both}
use Rattle.base.specs.Sets.{has, cut}
use Rattle.base.specs.SetLaws.{has_none, has_cut, has_cut_other}
use Rattle.model.specs.Sums.{sum}
use Rattle.online.specs.declared.Cache.{Cache}
use Rattle.online.specs.Servers.{across, some_server}
use Rattle.online.specs.Rules.{copy_at, use_at}
use Rattle.online.specs.Conditions.{any_of, server_broken}

-- a list has a last use at y that is not 0
abbrev pub used_in : List ℕ → ℕ → Bool
used_in last_use y = not (eqb (get_or last_use y 0) 0)

-- two tests that agree on every server
pub some_server_same : (n : ℕ) (f g : ℕ → Bool) → ((y : ℕ) → y < n → f y ≡ g y) → some_server n f ≡ some_server n g
unfolding some_server
some_server_same zero f g h = refl
some_server_same (suc n) f g h = rw (h n (omega arith), some_server_same n f g (λ y l. h y (omega arith)))

-- one sum more
pub across_next : (n : ℕ) (f : ℕ → ℕ) → across (suc n) f ≡ across n f + f n
unfolding across sum
across_next n f = omega arith

-- some number is not 0 if and only if the sum is not
pub some_not_zero : (n : ℕ) (f : ℕ → ℕ) → not (eqb (across n f) 0) ≡ some_server n (λ y. not (eqb (f y) 0))
unfolding across sum some_server
some_not_zero zero f = refl
some_not_zero (suc n) f = rw (across_next n f) (go (same_or_not (f n) 0) (some_not_zero n f))
  where
    go : (f n ≡ 0) ⊎ (f n ≢ 0) → not (eqb (across n f) 0) ≡ some_server n (λ y. not (eqb (f y) 0))
        → not (eqb (across n f + f n) 0) ≡ either (not (eqb (f n) 0)) (some_server n (λ y. not (eqb (f y) 0)))
    go (inl e) ih = let z : across n f + f n ≡ across n f = omega arith in rw (z, eq-eqb (f n) 0 e) ih
    go (inr e) ih = rw (ne_eqb (f n) 0 e, ne_eqb (across n f + f n) 0 (λ z. e (omega arith)))

-- a server without a copy is at fault if it has a last use
unheld : (c : Cache) (y : ℕ) → copy_at c y ≡ false → server_broken c y ≡ not (eqb (use_at c y) 0)
unfolding server_broken any_of
unheld c y h = go (same_or_not (use_at c y) 0)
  where
    go : (use_at c y ≡ 0) ⊎ (use_at c y ≢ 0) → server_broken c y ≡ not (eqb (use_at c y) 0)
    go (inl e) = rw (h, eq-eqb (use_at c y) 0 e, le-ltb c.second (use_at c y) (omega arith))
    go (inr e) = rw (h, ne_eqb (use_at c y) 0 e) (each (ltb c.second (use_at c y)))
      where
        each : (b : Bool) → either b true ≡ true
        each true = refl
        each false = refl

-- the holders that are left to look at, and the last uses with those of the others struck out
pub record Looked (c : Cache) (left : ℕ) (rest : List ℕ) : Type 0 where
  pub as_long : length rest ≡ 64
  pub held : (y : ℕ) → has left y ≡ true → copy_at c y ≡ true
  pub sound : (y : ℕ) → copy_at c y ≡ true → has left y ≡ false → server_broken c y ≡ false
  pub struck : (y : ℕ) → copy_at c y ≡ true → has left y ≡ false → get_or rest y 0 ≡ 0
  pub waits : (y : ℕ) → has left y ≡ true → get_or rest y 0 ≡ use_at c y
  pub other : (y : ℕ) → copy_at c y ≡ false → get_or rest y 0 ≡ use_at c y

-- at first all are left
pub looked_first : (c : Cache) → length c.last_use ≡ 64 → Looked c c.holders c.last_use
unfolding copy_at use_at
looked_first c l =
    record {
      as_long = l;
      held = λ y h. h;
      sound = λ y a b. absurd (not_both a b);
      struck = λ y a b. absurd (not_both a b);
      waits = λ y h. refl;
      other = λ y h. refl;
    }

-- one is looked at
pub looked_next : (c : Cache) (left : ℕ) (rest : List ℕ) (x : ℕ) → Looked c left rest → has left x ≡ true → x < 64 → server_broken c x ≡ false
    → Looked c (cut left x) (set rest x 0)
looked_next c left rest x k h l f =
    record {
      as_long = length-set rest x 0 ∙ k.as_long;
      held = λ y a. k.held y (still y a);
      sound = λ y a b. sound y a b (same_or_not y x);
      struck = λ y a b. struck y a b (same_or_not y x);
      waits = λ y a. get_or-set_other rest x y 0 0 (apart y a) ∙ k.waits y (still y a);
      other = λ y a. get_or-set_other rest x y 0 0 (λ e. not_both (k.held x h) (ap (copy_at c) (sym e) ∙ a)) ∙ k.other y a;
    }
  where
    apart : (y : ℕ) → has (cut left x) y ≡ true → y ≢ x
    apart y a e = not_both a (ap (has (cut left x)) e ∙ has_cut left x)

    still : (y : ℕ) → has (cut left x) y ≡ true → has left y ≡ true
    still y a = sym (has_cut_other left x y (apart y a)) ∙ a

    sound : (y : ℕ) → copy_at c y ≡ true → has (cut left x) y ≡ false → (y ≡ x) ⊎ (y ≢ x) → server_broken c y ≡ false
    sound y a b (inl e) = ap (server_broken c) e ∙ f
    sound y a b (inr e) = k.sound y a (sym (has_cut_other left x y e) ∙ b)

    struck : (y : ℕ) → copy_at c y ≡ true → has (cut left x) y ≡ false → (y ≡ x) ⊎ (y ≢ x) → get_or (set rest x 0) y 0 ≡ 0
    struck y a b (inl e) = rw e (get_or-set_same rest x 0 0 (omega (arith, k.as_long)))
    struck y a b (inr e) = get_or-set_other rest x y 0 0 e ∙ k.struck y a (sym (has_cut_other left x y e) ∙ b)

-- in the end none is left
pub looked_last : (c : Cache) (rest : List ℕ) → Looked c 0 rest → some_server 64 (used_in rest) ≡ some_server 64 (server_broken c)
looked_last c rest k = some_server_same 64 (used_in rest) (server_broken c) (λ y l. go y (copy_at c y) refl)
  where
    go : (y : ℕ) (b : Bool) → copy_at c y ≡ b → not (eqb (get_or rest y 0) 0) ≡ server_broken c y
    go y true e = rw (k.struck y e (has_none y)) (sym (k.sound y e (has_none y)))
    go y false e = rw (k.other y e) (sym (unheld c y e))
