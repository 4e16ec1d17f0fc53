-- The computed set of servers where a copy stands, `stands`, is the relation `Stands` of 01's words.
use Rattle.std.specs.Prelude.{Bool, true, false, ◌⊎◌, ◌≢◌, ◌≡◌, leb, ltb, eqb}
use mathlib.Core.List.{List, [], ◌∷◌, Memᴰ}
use Rattle.std.proofs.Math.Logic.{inl}
use Rattle.std.proofs.Common.{inr, sym, ◌∙◌, arith}
use Rattle.std.proofs.Math.Path.{refl}
use Prim.Native.Nat.{ℕ, zero, suc, ◌+◌, ◌≤◌, ◌<◌}
use borrow.Author.Tests.{leb-true, ltb-true, eqb-true, le-leb, lt-ltb, eq-eqb}
use Rattle.base.specs.Choice.{pick, both, same_or_not, true_or_false, not_both}
use Rattle.base.specs.Sets.{has, put, members}
use Rattle.base.specs.SetLaws.{has_none, has_put, has_put_other, put_there, members_put, members_le}
use Rattle.base.specs.ChoiceLaws.{both_true}
use Rattle.model.specs.Schedule.{Row, hold, move, transfer, upload, Stands, at_home, held, uploaded, arrived}
use Rattle.model.specs.Standing.{reach, arrive, through, reached, rounds, standing, stands}

-- ---- a set to which a server is added where a test holds

-- it has all that it had
more : (b : Bool) (w x k : ℕ) → has w k ≡ true → has (pick b (put w x) w) k ≡ true
more true w x k e = go (same_or_not k x)
  where
    go : (k ≡ x) ⊎ (k ≢ x) → has (put w x) k ≡ true
    go (inl h) = rw h (has_put w x)
    go (inr h) = has_put_other w x k h ∙ e
more false w x k e = e

-- what it has is the server, by the test, or was there before
whence : (b : Bool) (w x k : ℕ) → has (pick b (put w x) w) k ≡ true → ((b ≡ true) × (k ≡ x)) ⊎ (has w k ≡ true)
whence true w x k e = go (same_or_not k x)
  where
    go : (k ≡ x) ⊎ (k ≢ x) → ((true ≡ true) × (k ≡ x)) ⊎ (has w k ≡ true)
    go (inl h) = inl (refl, h)
    go (inr h) = inr (sym (has_put_other w x k h) ∙ e)
whence false w x k e = inr e

-- a set became another: the same, or one with more members below d
abbrev Rises : ℕ → ℕ → ℕ → Type 0
Rises d w v = (v ≡ w) ⊎ (members d w < members d v)

-- so it does where the server is below d
rises : (d : ℕ) (b : Bool) (w x : ℕ) → x < d → Rises d w (pick b (put w x) w)
rises d true w x l = go (true_or_false (has w x))
  where
    go : (has w x ≡ true) ⊎ (has w x ≡ false) → Rises d w (put w x)
    go (inl e) = inl (put_there w x e)
    go (inr e) = inr (omega (arith, members_put d w x l e))
rises d false w x l = inl refl

-- and then another
rises_on : (d w v u : ℕ) → Rises d w v → Rises d v u → Rises d w u
rises_on d w v u (inl e) (inl f) = inl (f ∙ e)
rises_on d w v u (inl e) (inr f) = inr (rw e at f)
rises_on d w v u (inr e) (inl f) = inr (rw f e)
rises_on d w v u (inr e) (inr f) = inr (omega arith)

-- ---- a step for each row, in order

-- what each row's step keeps holds after all of them
through_keeps : (P : ℕ → Type 0) (f : ℕ → Row → ℕ) (rows : List Row)
    → ((w : ℕ) (r : Row) → Memᴰ r rows → P w → P (f w r)) → (w : ℕ) → P w → P (through f w rows)
unfolding through
through_keeps P f [] h w p = p
through_keeps P f (r ∷ rows) h w p =
    through_keeps P f rows (λ v s m. h v s (Memᴰ.tail m)) (f w r) (h w r (Memᴰ.head refl) p)

-- a step only adds
Grows : (ℕ → Row → ℕ) → Type 0
Grows f = (w : ℕ) (r : Row) (k : ℕ) → has w k ≡ true → has (f w r) k ≡ true

-- then all of them do
through_grows : (f : ℕ → Row → ℕ) → Grows f → (rows : List Row) (w k : ℕ) → has w k ≡ true → has (through f w rows) k ≡ true
unfolding Grows
through_grows f g rows w k e = through_keeps (λ v. has v k ≡ true) f rows (λ v r m p. g v r k p) w e

-- what a row's step adds to each larger set is there after all of them
through_adds : (f : ℕ → Row → ℕ) → Grows f → (rows : List Row) (r : Row) → Memᴰ r rows → (w k : ℕ)
    → ((v : ℕ) → ((i : ℕ) → has w i ≡ true → has v i ≡ true) → has (f v r) k ≡ true) → has (through f w rows) k ≡ true
unfolding Grows through
through_adds f g [] r m w k h = elim m [ ]
through_adds f g (s ∷ rows) r (Memᴰ.head e) w k h = through_grows f g rows (f w s) k (rw e at (h w (λ i p. p)))
through_adds f g (s ∷ rows) r (Memᴰ.tail m) w k h =
    through_adds f g rows r m (f w s) k (λ v up. h v (λ i p. up i (g w s i p)))

-- the steps of holds and uploads, and of transfers, do
reach_grows : (τ : ℕ) → Grows (reach τ)
unfolding Grows reach
reach_grows τ w (hold x a b) k e = more (both (ltb a τ) (leb τ b)) w x k e
reach_grows τ w (move (transfer y x σ)) k e = e
reach_grows τ w (move (upload x σ)) k e = more (eqb σ τ) w x k e

arrive_grows : (τ : ℕ) → Grows (arrive τ)
unfolding Grows arrive
arrive_grows τ w (hold x a b) k e = e
arrive_grows τ w (move (upload x σ)) k e = e
arrive_grows τ w (move (transfer y x σ)) k e = more (both (eqb σ τ) (has w y)) w x k e

-- and all rounds
rounds_grow : (n τ : ℕ) (rows : List Row) (w k : ℕ) → has w k ≡ true → has (rounds n τ rows w) k ≡ true
unfolding rounds
rounds_grow zero τ rows w k e = e
rounds_grow (suc n) τ rows w k e =
    rounds_grow n τ rows (through (arrive τ) w rows) k (through_grows (arrive τ) (arrive_grows τ) rows w k e)

-- ---- sound: a copy stands at each server of the set

-- a copy stands at τ at each server of a set
Backed : ℕ → List Row → ℕ → ℕ → Type 0
Backed home rows τ w = (k : ℕ) → has w k ≡ true → Stands home rows k τ

module _ (home : ℕ) (rows : List Row) (τ : ℕ) where
  -- so it does after each step, at the start, and after all rounds
  reach_backed : (w : ℕ) (r : Row) → Memᴰ r rows → Backed home rows τ w → Backed home rows τ (reach τ w r)
  unfolding Backed reach
  reach_backed w (hold x a b) m h k e = go (whence (both (ltb a τ) (leb τ b)) w x k e)
    where
      go : ((both (ltb a τ) (leb τ b) ≡ true) × (k ≡ x)) ⊎ (has w k ≡ true) → Stands home rows k τ
      go (inl (t, p)) =
          let (f, g) = both_true (ltb a τ) (leb τ b) t in
          rw p (held m (ltb-true a τ f) (leb-true τ b g))
      go (inr g) = h k g
  reach_backed w (move (transfer y x σ)) m h k e = h k e
  reach_backed w (move (upload x σ)) m h k e = go (whence (eqb σ τ) w x k e)
    where
      go : ((eqb σ τ ≡ true) × (k ≡ x)) ⊎ (has w k ≡ true) → Stands home rows k τ
      go (inl (t, p)) = rw p (uploaded (rw (eqb-true σ τ t) at m))
      go (inr g) = h k g

  arrive_backed : (w : ℕ) (r : Row) → Memᴰ r rows → Backed home rows τ w → Backed home rows τ (arrive τ w r)
  unfolding Backed arrive
  arrive_backed w (hold x a b) m h k e = h k e
  arrive_backed w (move (upload x σ)) m h k e = h k e
  arrive_backed w (move (transfer y x σ)) m h k e = go (whence (both (eqb σ τ) (has w y)) w x k e)
    where
      go : ((both (eqb σ τ) (has w y) ≡ true) × (k ≡ x)) ⊎ (has w k ≡ true) → Stands home rows k τ
      go (inl (t, p)) =
          let (f, g) = both_true (eqb σ τ) (has w y) t in
          rw p (arrived (rw (eqb-true σ τ f) at m) (h y g))
      go (inr g) = h k g

  start_backed : Backed home rows τ (pick (eqb τ 0) (put 0 home) 0)
  unfolding Backed
  start_backed k e = go (whence (eqb τ 0) 0 home k e)
    where
      go : ((eqb τ 0 ≡ true) × (k ≡ home)) ⊎ (has 0 k ≡ true) → Stands home rows k τ
      go (inl (t, p)) = rw (p, eqb-true τ 0 t) at_home
      go (inr g) = absurd (not_both g (has_none k))

  rounds_backed : (n w : ℕ) → Backed home rows τ w → Backed home rows τ (rounds n τ rows w)
  unfolding rounds
  rounds_backed zero w h = h
  rounds_backed (suc n) w h =
      rounds_backed n (through (arrive τ) w rows) (through_keeps (Backed home rows τ) (arrive τ) rows arrive_backed w h)

-- where the computed set has a server, a copy stands
pub stands_sound : (count home : ℕ) (rows : List Row) (x τ : ℕ) → stands count home rows x τ ≡ true → Stands home rows x τ
unfolding stands standing reached Backed
stands_sound count home rows x τ =
    rounds_backed home rows τ count (reached home rows τ)
    (through_keeps (Backed home rows τ) (reach τ) rows (reach_backed home rows τ)
    (pick (eqb τ 0) (put 0 home) 0) (start_backed home rows τ)) x

-- ---- complete: the set has each server where a copy stands

-- a set that has the target of each transfer of τ whose source it has
Closed : List Row → ℕ → ℕ → Type 0
Closed rows τ w = (y x : ℕ) → Memᴰ (move (transfer y x τ)) rows → has w y ≡ true → has w x ≡ true

module _ (rows : List Row) (τ : ℕ) where
  -- the transfers of τ, once
  abbrev pass : ℕ → ℕ
  pass w = through (arrive τ) w rows

  -- a set that they do not change is closed, and they change no closed set
  still_closed : (w : ℕ) → pass w ≡ w → Closed rows τ w
  unfolding Closed arrive
  still_closed w e y x m p =
      rw e at (through_adds (arrive τ) (arrive_grows τ) rows (move (transfer y x τ)) m w x
      (λ v up. rw (eq-eqb τ τ refl, up y p) (has_put v x)))

  closed_arrive : (w : ℕ) (r : Row) → Memᴰ r rows → Closed rows τ w → arrive τ w r ≡ w
  unfolding Closed arrive
  closed_arrive w (hold x a b) m c = refl
  closed_arrive w (move (upload x σ)) m c = refl
  closed_arrive w (move (transfer y x σ)) m c = go (true_or_false (both (eqb σ τ) (has w y)))
    where
      go : (both (eqb σ τ) (has w y) ≡ true) ⊎ (both (eqb σ τ) (has w y) ≡ false) → pick (both (eqb σ τ) (has w y)) (put w x) w ≡ w
      go (inl t) =
          let (f, g) = both_true (eqb σ τ) (has w y) t in
          rw t (put_there w x (c y x (rw (eqb-true σ τ f) at m) g))
      go (inr t) = rw t

  closed_rounds : (n w : ℕ) → Closed rows τ w → rounds n τ rows w ≡ w
  unfolding rounds
  closed_rounds zero w c = refl
  closed_rounds (suc n) w c = rw once (closed_rounds n w c)
    where
      once : pass w ≡ w
      once = through_keeps (λ v. v ≡ w) (arrive τ) rows (λ v r m e. rw e (closed_arrive w r m c)) w refl

  module _ (count : ℕ) (targets : (y x σ : ℕ) → Memᴰ (move (transfer y x σ)) rows → x < count) where
    -- they leave a set as it is or make it larger
    arrive_rises : (w : ℕ) (r : Row) → Memᴰ r rows → Rises count w (arrive τ w r)
    unfolding arrive
    arrive_rises w (hold x a b) m = inl refl
    arrive_rises w (move (upload x σ)) m = inl refl
    arrive_rises w (move (transfer y x σ)) m = rises count (both (eqb σ τ) (has w y)) w x (targets y x σ m)

    pass_rises : (w : ℕ) → Rises count w (pass w)
    pass_rises w =
        through_keeps (Rises count w) (arrive τ) rows
        (λ v r m e. rises_on count w v (arrive τ v r) e (arrive_rises v r m)) w (inl refl)

    -- so a set is closed after as many passes as it lacks servers below the count
    rounds_close : (n w : ℕ) → count ≤ members count w + n → Closed rows τ (rounds n τ rows w)
    unfolding rounds
    rounds_close zero w h = go (pass_rises w)
      where
        go : Rises count w (pass w) → Closed rows τ w
        go (inl e) = still_closed w e
        go (inr l) = absurd (omega (arith, members_le count (pass w)))
    rounds_close (suc n) w h = go (pass_rises w) (rounds_close n (pass w))
      where
        go : Rises count w (pass w) → (count ≤ members count (pass w) + n → Closed rows τ (rounds n τ rows (pass w)))
            → Closed rows τ (rounds n τ rows (pass w))
        go (inl e) r = let c = still_closed w e in rw (e, closed_rounds n w c) c
        go (inr l) r = r (omega arith)

-- where a copy stands, the computed set has the server, if the transfers arrive below the count
pub stands_complete : (count home : ℕ) (rows : List Row) → ((y x σ : ℕ) → Memᴰ (move (transfer y x σ)) rows → x < count)
    → {x τ : ℕ} → Stands home rows x τ → stands count home rows x τ ≡ true
unfolding stands standing reached reach Closed
stands_complete count home rows targets at_home =
    rounds_grow count 0 rows (through (reach 0) (put 0 home) rows) home
    (through_grows (reach 0) (reach_grows 0) rows (put 0 home) home (has_put 0 home))
stands_complete count home rows targets (held {x} {a} {b} {τ} m p q) =
    let start = pick (eqb τ 0) (put 0 home) 0 in
    rounds_grow count τ rows (through (reach τ) start rows) x
    (through_adds (reach τ) (reach_grows τ) rows (hold x a b) m start x
    (λ v up. rw (lt-ltb a τ p, le-leb τ b q) (has_put v x)))
stands_complete count home rows targets (uploaded {x} {τ} m) =
    let start = pick (eqb τ 0) (put 0 home) 0 in
    rounds_grow count τ rows (through (reach τ) start rows) x
    (through_adds (reach τ) (reach_grows τ) rows (move (upload x τ)) m start x (λ v up. rw (eq-eqb τ τ refl) (has_put v x)))
stands_complete count home rows targets (arrived {x} {y} {τ} m s) =
    rounds_close rows τ count targets count (through (reach τ) (pick (eqb τ 0) (put 0 home) 0) rows) (omega arith) y x m
    (stands_complete count home rows targets s)
