-- What the stays mean: only those of standing copies count, and the last one's copy stays as long as any gap. Where copies stand, too.
use Rattle.std.specs.Prelude.{Bool, ◌≢◌, ◌≡◌, eqb}
use Rattle.std.proofs.Math.Bool.{true, false}
use Rattle.std.proofs.Math.Path.{refl, sym, fun_ext}
use Rattle.std.proofs.Common.{ap, ◌∙◌, le-leb, eq-eqb, ne_eqb}
use native.Mathlib.Omega.{arith}
use Prim.Native.Nat.{ℕ, suc, ◌+◌, ◌≤◌, ◌<◌, min}
use Rattle.std.proofs.Math.Dec.{leb}
use Rattle.std.proofs.lemmas.Bool.{lt-leb}
use Rattle.base.specs.Choice.{pick, both}
use Rattle.forcing.specs.declared.Game.{Game}
use Rattle.forcing.specs.Positions.{Position, start, now_at, last_at, Stays, Move, there, holding, put, with_request, after}

-- how long the copy at y stays, at most: the last one's as long as the largest gap, any other as it is set, none where none stands
unfoldable pub meant : Game → Position → (ℕ → ℕ) → ℕ → ℕ
meant g P s y = pick (eqb y (last_at P)) g.largest (pick (P.stands y) (s y) 0)

-- that may be set
pub meant_stays : (g : Game) (P : Position) (s : ℕ → ℕ) → Stays g s → Stays g (meant g P s)
unfolding Stays meant
meant_stays g P s h y = go (eqb y (last_at P)) (P.stands y)
  where
    go : (a b : Bool) → pick a g.largest (pick b (s y) 0) ≤ g.largest
    go true b = omega arith
    go false true = h y
    go false false = omega arith

-- setting it again changes nothing
meant_again : (g : Game) (P : Position) (s : ℕ → ℕ) (y : ℕ) → meant g P (meant g P s) y ≡ meant g P s y
unfolding meant
meant_again g P s y = go (eqb y (last_at P)) (P.stands y)
  where
    go : (a b : Bool) → pick a g.largest (pick b (pick a g.largest (pick b (s y) 0)) 0) ≡ pick a g.largest (pick b (s y) 0)
    go true b = refl
    go false true = refl
    go false false = refl

module _ (g : Game) (P : Position) (s : ℕ → ℕ) (gap x : ℕ) (M : Move g gap x) where
  -- a copy stands at the request if it stays so long
  pub there_meant : (y : ℕ) → there P s gap y ≡ leb gap (meant g P s y)
  unfolding there meant
  there_meant y = go (eqb y (last_at P)) (P.stands y)
    where
      go : (a b : Bool) → pick a true (both b (leb gap (s y))) ≡ leb gap (pick a g.largest (pick b (s y) 0))
      go true b = sym (le-leb gap g.largest M.most_gap)
      go false true = refl
      go false false = sym (lt-leb gap 0 M.some_gap)

  -- and it holds so long in the gap
  pub holding_meant : (y : ℕ) → holding P s gap y ≡ min (meant g P s y) gap
  unfolding holding meant
  holding_meant y = go (eqb y (last_at P)) (P.stands y)
    where
      go : (a b : Bool) → pick a gap (pick b (min (s y) gap) 0) ≡ min (pick a g.largest (pick b (s y) 0)) gap
      go true b = omega (arith, M.most_gap)
      go false true = refl
      go false false = omega arith

-- so the round is that of what is meant
pub after_meant : (g : Game) (P : Position) (s : ℕ → ℕ) (gap x : ℕ) → Move g gap x → after g P s gap x ≡ after g P (meant g P s) gap x
unfolding after
after_meant g P s gap x M = rw (stand, hold)
  where
    stand : there P s gap ≡ there P (meant g P s) gap
    stand = fun_ext (λ y. there_meant g P s gap x M y ∙ (ap (leb gap) (sym (meant_again g P s y)) ∙ sym (there_meant g P (meant g P s) gap x M y)))

    hold : holding P s gap ≡ holding P (meant g P s) gap
    hold = fun_ext (λ y. holding_meant g P s gap x M y ∙ (ap (λ (a : ℕ). min a gap) (sym (meant_again g P s y)) ∙ sym (holding_meant g P (meant g P s) gap x M y)))

-- ---- where copies stand

-- the last one is at a server of the game, if it has any, and no other copy stands anywhere else
pub record Counted (g : Game) (P : Position) : Type 0 where
  pub last_in : 1 ≤ g.servers → last_at P < g.servers
  pub others : (y : ℕ) → g.servers ≤ y → y ≢ last_at P → P.stands y ≡ false

-- before the first request
pub counted_start : (g : Game) → Counted g start
unfolding start last_at
counted_start g = record { last_in = λ h. h; others = λ y h d. ne_eqb y 0 d }

-- the last request of the position after a round is the round's
pub last_next : (g : Game) (P : Position) (s : ℕ → ℕ) (gap x : ℕ) → last_at (after g P s gap x) ≡ x
unfolding last_at after with_request put
last_next g P s gap x = rw (eq-eqb (suc P.count) (suc P.count) refl)

-- and so is its second
pub now_next : (g : Game) (P : Position) (s : ℕ → ℕ) (gap x : ℕ) → now_at (after g P s gap x) ≡ now_at P + gap
unfolding now_at after with_request put
now_next g P s gap x = rw (eq-eqb (suc P.count) (suc P.count) refl)

-- after a round
pub counted_after : (g : Game) (P : Position) (s : ℕ → ℕ) (gap x : ℕ) → Move g gap x → Counted g P → Counted g (after g P s gap x)
unfolding after there
counted_after g P s gap x M C =
    record {
      last_in = λ h. omega (arith, last_next g P s gap x, M.counted);
      others = λ y h d.
          let other : y ≢ last_at P = λ e. omega (arith, M.counted, C.last_in (omega (arith, M.counted))) in
          rw (ne_eqb y x (λ e. d (e ∙ sym (last_next g P s gap x))), ne_eqb y (last_at P) other, C.others y h other);
    }
