-- What a state has that 32 does not refuse: each of 01's conditions turned round.
use Rattle.std.specs.Prelude.{Bool, true, false, not, List, [], ◌∷◌, ◌⊎◌, ◌≢◌, ◌≡◌, refl, ℕ, zero, suc, ◌+◌, ◌≤◌, ◌<◌, get_or, ltb, eqb}
use Rattle.std.proofs.Common.{inl, inr, ap, arith, leb-false, ltb-false, eqb-true, le-ltb, eq-eqb, ne_eqb}
use Rattle.std.proofs.lemmas.Bool.{eqb-false, not-true, not-false, lt-leb}
use Rattle.base.specs.Choice.{both, same_or_not, true_or_false, not_both}
use Rattle.base.specs.ChoiceLaws.{either_false, neither_of}
use Rattle.prices.specs.Prices.{InRange}
use Rattle.prices.specs.PriceLaws.{in_range}
use Rattle.online.specs.declared.Cache.{Cache}
use Rattle.online.specs.ServerLaws.{some_server_none, some_server_each}
use Rattle.online.specs.Rules.{window_of, copy_at, use_at}
use Rattle.online.specs.Conditions.{any_of, server_faults, server_broken, faults, broken}

-- all tests of a list fail
infixr 40 ◌also◌
data None : List Bool → Type 0 where
  no_more : None []
  ◌also◌ : {b : Bool} {bs : List Bool} → b ≡ false → None bs → None (b ∷ bs)

-- then none of them holds
none_holds : (bs : List Bool) → None bs → any_of bs ≡ false
unfolding any_of
none_holds [] n = refl
none_holds (b ∷ bs) (◌also◌ e n) = rw e (none_holds bs n)

-- and where none holds each of them fails
each_fails : (bs : List Bool) → any_of bs ≡ false → (i : ℕ) → get_or bs i false ≡ false
unfolding any_of
each_fails [] h i = refl
each_fails (b ∷ bs) h zero = (either_false b (any_of bs) h).0
each_fails (b ∷ bs) h (suc i) = each_fails bs (either_false b (any_of bs) h).1 i

-- two tests do not both hold where the second fails if the first holds
both_none : (a b : Bool) → (a ≡ true → b ≡ false) → both a b ≡ false
both_none true b h = h refl
both_none false b h = refl

-- and the other way round
none_both : (a b : Bool) → both a b ≡ false → a ≡ true → b ≡ false
none_both true b e a = e
none_both false b e a = absurd (not_both a refl)

-- a server of such a state
pub record IntactServer (c : Cache) (y : ℕ) : Type 0 where
  pub counted : copy_at c y ≡ true → y < c.server_count
  pub by_then : use_at c y ≤ c.second
  pub lasting : copy_at c y ≡ true → y ≢ c.last → c.second ≤ use_at c y + window_of c
  pub unused : copy_at c y ≡ false → use_at c y ≡ 0

-- such a state
pub record Intact (c : Cache) : Type 0 where
  pub priced : InRange c.prices
  pub count_least : 1 ≤ c.server_count
  pub count_most : c.server_count ≤ 64
  pub second_most : c.second ≤ 4000000
  pub last_counted : c.last < c.server_count
  pub last_stands : copy_at c c.last ≡ true
  pub last_used : use_at c c.last ≡ c.second
  pub requests_most : c.requests ≤ 2048
  pub transfers_most : c.transfers ≤ c.requests
  pub held_most : c.held ≤ 256000000
  pub servers : (y : ℕ) → y < 64 → IntactServer c y

-- no fault at such a server
intact_server : (c : Cache) (y : ℕ) → IntactServer c y → server_broken c y ≡ false
unfolding server_broken
intact_server c y s =
    none_holds (server_faults c y)
    (both_none _ _ (λ h. lt-leb _ _ (s.counted h))
    also le-ltb _ _ s.by_then
    also both_none _ _ (λ h. expired (same_or_not y c.last) h)
    also both_none _ _ (λ h. ap not (eq-eqb _ _ (s.unused (not-true _ h))))
    also no_more)
  where
    expired : (y ≡ c.last) ⊎ (y ≢ c.last) → both (copy_at c y) (not (eqb y c.last)) ≡ true → ltb (use_at c y + window_of c) c.second ≡ false
    expired (inl e) h =
        absurd (not_both h (both_none (copy_at c y) (not (eqb y c.last)) (λ a. ap not (eq-eqb y c.last e))))
    expired (inr e) h = elim (true_or_false (copy_at c y)) [
      | inl a ↦ le-ltb _ _ (s.lasting a e)
      | inr a ↦ absurd (not_both h (both_none (copy_at c y) (not (eqb y c.last)) (λ b. absurd (not_both b a))))
    ]

-- and the other way round
server_intact : (c : Cache) (y : ℕ) → server_broken c y ≡ false → IntactServer c y
unfolding server_broken
server_intact c y h =
    let f = each_fails (server_faults c y) h in
    record {
      counted = λ a. leb-false _ _ (none_both _ _ (f 0) a);
      by_then = ltb-false _ _ (f 1);
      lasting = λ a e. ltb-false _ _ (none_both _ _ (f 2) (both_yes a e));
      unused = λ a. eqb-true _ _ (not-false _ (none_both _ _ (f 3) (ap not a)));
    }
  where
    both_yes : copy_at c y ≡ true → y ≢ c.last → both (copy_at c y) (not (eqb y c.last)) ≡ true
    both_yes a e = rw a (ap not (ne_eqb y c.last e))

-- 32 does not refuse an intact state
pub intact_unbroken : (c : Cache) → Intact c → broken c ≡ false
unfolding broken
intact_unbroken c s =
    none_holds (faults c)
    ((in_range c.prices).1 s.priced
    also neither_of (ne_eqb c.server_count 0 (λ e. omega (arith, s.count_least))) (le-ltb _ _ s.count_most)
    also le-ltb _ _ s.second_most
    also lt-leb _ _ s.last_counted
    also ap not s.last_stands
    also ap not (eq-eqb _ _ s.last_used)
    also le-ltb _ _ s.requests_most
    also le-ltb _ _ s.transfers_most
    also le-ltb _ _ s.held_most
    also some_server_none 64 (server_broken c) (λ y l. intact_server c y (s.servers y l))
    also no_more)

-- and no other
pub unbroken_intact : (c : Cache) → broken c ≡ false → Intact c
unfolding broken
unbroken_intact c h =
    let f = each_fails (faults c) h in
    let n = either_false (eqb c.server_count 0) (ltb 64 c.server_count) (f 1) in
    record {
      priced = (in_range c.prices).0 (f 0);
      count_least = let z : c.server_count ≢ 0 = eqb-false _ _ n.0 in omega arith;
      count_most = ltb-false _ _ n.1;
      second_most = ltb-false _ _ (f 2);
      last_counted = leb-false _ _ (f 3);
      last_stands = not-false _ (f 4);
      last_used = eqb-true _ _ (not-false _ (f 5));
      requests_most = ltb-false _ _ (f 6);
      transfers_most = ltb-false _ _ (f 7);
      held_most = ltb-false _ _ (f 8);
      servers = λ y l. server_intact c y (some_server_each 64 (server_broken c) (f 9) y l);
    }
