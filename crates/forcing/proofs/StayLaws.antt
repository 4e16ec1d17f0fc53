-- When some stays, and when some request, pass a test.
use Rattle.std.specs.Prelude.{Bool, true, not, ◌⊎◌, ◌≢◌, ◌≡◌, ltb}
use Rattle.std.proofs.Common.{inl, inr, sym, ap, ◌∙◌, arith, le-ltb, lt-ltb, eq-eqb, ne_eqb}
use Rattle.std.proofs.Math.Path.{fun_ext}
use Prim.Native.Nat.{ℕ, zero, suc, ◌≤◌, ◌<◌}
use Rattle.base.specs.Choice.{pick, both, le_or_lt, same_or_not}
use Rattle.base.specs.Below.{some_below}
use Rattle.base.specs.BelowLaws.{below_one, below_some, below_same}
use Rattle.forcing.specs.declared.Game.{Game}
use Rattle.forcing.specs.Positions.{Position, Move, put, after, within}
use Rattle.forcing.specs.Winning.{some_stays, some_move, guest_wins}

-- f with a at i, there and elsewhere
pub put_same : (f : ℕ → ℕ) (i a j : ℕ) → j ≡ i → put f i a j ≡ a
unfolding put
put_same f i a j e = rw (eq-eqb j i e)

pub put_other : (f : ℕ → ℕ) (i a j : ℕ) → j ≢ i → put f i a j ≡ f j
unfolding put
put_other f i a j e = rw (ne_eqb j i e)

-- stays that pass
pub stays_some : (n most : ℕ) (f : (ℕ → ℕ) → Bool) → some_stays n most f ≡ true → (s : ℕ → ℕ) × ((y : ℕ) → s y ≤ most) × (f s ≡ true)
unfolding some_stays
stays_some zero most f e = (λ y. 0, λ y. omega arith, e)
stays_some (suc n) most f e =
    let (s, h, d) = stays_some n most (λ s. some_below (suc most) (λ a. f (put s n a))) e in
    let (a, l, z) = below_some (suc most) (λ a. f (put s n a)) d in
    (put s n a, λ y. low s h a l y (same_or_not y n), z)
  where
    low : (s : ℕ → ℕ) → ((y : ℕ) → s y ≤ most) → (a : ℕ) → a < suc most → (y : ℕ) → (y ≡ n) ⊎ (y ≢ n) → put s n a y ≤ most
    low s h a l y (inl e) = omega (arith, put_same s n a y e)
    low s h a l y (inr e) = omega (arith, put_other s n a y e, h y)

-- the stays of the servers below n
abbrev cut : ℕ → (ℕ → ℕ) → ℕ → ℕ
cut n s y = pick (ltb y n) (s y) 0

cut_in : (n : ℕ) (s : ℕ → ℕ) (y : ℕ) → y < n → cut n s y ≡ s y
cut_in n s y h = rw (lt-ltb y n h)

cut_out : (n : ℕ) (s : ℕ → ℕ) (y : ℕ) → n ≤ y → cut n s y ≡ 0
cut_out n s y h = rw (le-ltb y n h)

-- one server more
cut_next : (n : ℕ) (s : ℕ → ℕ) → put (cut n s) n (s n) ≡ cut (suc n) s
cut_next n s = fun_ext (λ y. go y (same_or_not y n) (le_or_lt n y))
  where
    go : (y : ℕ) → (y ≡ n) ⊎ (y ≢ n) → (n ≤ y) ⊎ (y < n) → put (cut n s) n (s n) y ≡ cut (suc n) s y
    go y (inl e) d = put_same (cut n s) n (s n) y e ∙ (ap s (sym e) ∙ sym (cut_in (suc n) s y (omega arith)))
    go y (inr e) (inl d) = put_other (cut n s) n (s n) y e ∙ (cut_out n s y d ∙ sym (cut_out (suc n) s y (omega arith)))
    go y (inr e) (inr d) = put_other (cut n s) n (s n) y e ∙ (cut_in n s y d ∙ sym (cut_in (suc n) s y (omega arith)))

-- stays that pass when cut to the servers below n
cut_passes : (n most : ℕ) (f : (ℕ → ℕ) → Bool) (s : ℕ → ℕ) → ((y : ℕ) → y < n → s y ≤ most) → f (cut n s) ≡ true → some_stays n most f ≡ true
unfolding some_stays
cut_passes zero most f s h e = ap f (fun_ext (λ y. sym (cut_out zero s y (omega arith)))) ∙ e
cut_passes (suc n) most f s h e =
    cut_passes n most (λ s. some_below (suc most) (λ a. f (put s n a))) s (λ y l. h y (omega arith))
    (below_one (suc most) (λ a. f (put (cut n s) n a)) (s n) (omega (arith, h n (omega arith))) (ap f (cut_next n s) ∙ e))

-- some stays pass where these do
pub stays_one : (n most : ℕ) (f : (ℕ → ℕ) → Bool) (s : ℕ → ℕ) → ((y : ℕ) → y < n → s y ≤ most) → ((y : ℕ) → n ≤ y → s y ≡ 0) → f s ≡ true
    → some_stays n most f ≡ true
stays_one n most f s h z e = cut_passes n most f s h (ap f (fun_ext (λ y. same y (le_or_lt n y))) ∙ e)
  where
    same : (y : ℕ) → (n ≤ y) ⊎ (y < n) → cut n s y ≡ s y
    same y (inl d) = cut_out n s y d ∙ sym (z y d)
    same y (inr d) = cut_in n s y d

module _ (g : Game) (f : ℕ → ℕ → Bool) where
  -- a request that passes
  pub move_some : some_move g f ≡ true → (gap : ℕ) × (x : ℕ) × Move g gap x × (f gap x ≡ true)
  unfolding some_move
  move_some e =
      let (i, h, d) = below_some g.largest (λ i. some_below g.servers (λ x. f (suc i) x)) e in
      let (x, l, z) = below_some g.servers (λ x. f (suc i) x) d in
      (suc i, x, record { some_gap = omega arith; most_gap = omega arith; counted = l }, z)

  -- some request passes where this one does
  pub move_one : (gap x : ℕ) → Move g gap x → f gap x ≡ true → some_move g f ≡ true
  unfolding some_move
  move_one zero x M e = absurd (omega (arith, M.some_gap))
  move_one (suc i) x M e =
      below_one g.largest (λ i. some_below g.servers (λ x. f (suc i) x)) i (omega (arith, M.most_gap))
      (below_one g.servers (λ x. f (suc i) x) x M.counted e)

-- tests that agree on every request
move_same : (g : Game) (f f' : ℕ → ℕ → Bool) → ((gap x : ℕ) → Move g gap x → f gap x ≡ f' gap x) → some_move g f ≡ some_move g f'
unfolding some_move
move_same g f f' h =
    below_same g.largest (λ i. some_below g.servers (λ x. f (suc i) x)) (λ i. some_below g.servers (λ x. f' (suc i) x))
    (λ i l.
    below_same g.servers (λ x. f (suc i) x) (λ x. f' (suc i) x)
    (λ x m. h (suc i) x (record { some_gap = omega arith; most_gap = omega arith; counted = m })))

-- stays with the same rounds
pub guest_same : (g : Game) (P : Position) (s s' : ℕ → ℕ) (f : Position → Bool) → ((gap x : ℕ) → Move g gap x → after g P s gap x ≡ after g P s' gap x)
    → guest_wins g P s f ≡ guest_wins g P s' f
unfolding guest_wins
guest_same g P s s' f h =
    move_same g (λ gap x. not (both (within g (after g P s gap x)) (f (after g P s gap x)))) (λ gap x. not (both (within g (after g P s' gap x)) (f (after g P s' gap x))))
    (λ gap x M. ap (λ (A : Position). not (both (within g A) (f A))) (h gap x M))
