-- What each server still has to hold after a request, and how a request moves it: time passing turns it into seconds held, and a request
-- adds no more than a window at one server.
use Rattle.std.specs.Prelude.{◌⊎◌, ◌≢◌, ◌≡◌, ℕ, suc, ◌+◌, ◌-◌, ◌≤◌, ◌<◌, min, eqb}
use Rattle.std.proofs.Common.{inl, inr, sym, ap, ◌∙◌, eq-eqb, ne_eqb}
use Rattle.std.proofs.Math.Option.{Option, none, some}
use native.Mathlib.Omega.{arith}
use Rattle.base.specs.Choice.{pick, same_or_not}
use Rattle.model.specs.Requests.{Requests}
use Rattle.model.specs.Marking.{K, S}
use Rattle.online.specs.Servers.{across}
use Rattle.online.specs.ServerLaws.{across_le, across_same, across_add, across_const, at, at_same, at_other, across_at}
use Rattle.bounds.specs.History.{left_of, last_use, mark, remaining}
use Rattle.bounds.proofs.HistoryLaws.{kept_sent, Turn, target, source, other, turn, use_last, use_none}
use Rattle.bounds.proofs.Seconds.{left_none, left_some, spent, spent_last, spent_other}

-- time passing turns what is left into what is spent
pass : (W : ℕ) (o : Option ℕ) (a b : ℕ) → a ≤ b → min (b - a) (left_of W o a) + left_of W o b ≡ left_of W o a
unfolding left_of
pass W none a b h = omega arith
pass W (some u) a b h = omega arith

module _ (W : ℕ) (q : Requests) where
  -- what server y still has to hold after request i by its last use; the server of request i holds in any case
  unfoldable pub left : ℕ → ℕ → ℕ
  left i y = pick (eqb y (q.server i)) 0 (left_of W (last_use W q i y) (q.time i))

  -- nothing at the server of request i
  pub left_last : (i y : ℕ) → y ≡ q.server i → left i y ≡ 0
  unfolding left
  left_last i y e = rw (eq-eqb y (q.server i) e)

  -- what its use still holds at any other
  pub left_other : (i y : ℕ) → y ≢ q.server i → left i y ≡ left_of W (last_use W q i y) (q.time i)
  unfolding left
  left_other i y e = rw (ne_eqb y (q.server i) e)

  -- at request i + 1 every server moves from left to spent, but its own server leaves g and the one before it gets d
  abbrev pub Moves : ℕ → ℕ → ℕ → Type 0
  Moves i g d = (y : ℕ) → spent W q i y + left (suc i) y + at (q.server (suc i)) g y ≤ left i y + at (q.server i) d y

  -- one gap
  abbrev wait : ℕ → ℕ
  wait i = q.time (suc i) - q.time i

  module _ (i : ℕ) (up : q.time i ≤ q.time (suc i)) where
    -- a server that is neither
    rest : (g d y : ℕ) → y ≢ q.server i → y ≢ q.server (suc i) → Turn W q i y
        → spent W q i y + left (suc i) y + at (q.server (suc i)) g y ≤ left i y + at (q.server i) d y
    rest g d y a b (target e l) = absurd (b e)
    rest g d y a b (source e r m l) = absurd (a r)
    rest g d y a b (other e r l) =
        omega (
          arith,
          spent_other W q i y a,
          left_other i y a,
          left_other (suc i) y b,
          pass W (last_use W q i y) (q.time i) (q.time (suc i)) up,
          ap (λ (o : Option ℕ). left_of W o (q.time (suc i))) l,
          at_other (q.server (suc i)) g y b,
        )

    -- K again at the same server
    pub moves_again : q.server (suc i) ≡ q.server i → Moves i 0 (q.time (suc i) - q.time i)
    moves_again e y = go (same_or_not y (q.server i))
      where
        go : (y ≡ q.server i) ⊎ (y ≢ q.server i)
            → spent W q i y + left (suc i) y + at (q.server (suc i)) 0 y ≤ left i y + at (q.server i) (wait i) y
        go (inl z) =
            omega (
              arith,
              spent_last W q i y z,
              left_last (suc i) y (z ∙ sym e),
              at_same (q.server i) (wait i) y z,
              at_same (q.server (suc i)) 0 y (z ∙ sym e),
            )
        go (inr z) = rest 0 (wait i) y z (λ w. z (w ∙ e)) (turn W q i y)

    -- S: the source gets a window
    pub moves_sent : q.server (suc i) ≢ q.server i → mark W q (suc i) ≡ S → Moves i 0 (q.time (suc i) - q.time i + W)
    moves_sent e m y = go (same_or_not y (q.server i)) (same_or_not y (q.server (suc i))) (turn W q i y)
      where
        go : (y ≡ q.server i) ⊎ (y ≢ q.server i) → (y ≡ q.server (suc i)) ⊎ (y ≢ q.server (suc i)) → Turn W q i y
            → spent W q i y + left (suc i) y + at (q.server (suc i)) 0 y ≤ left i y + at (q.server i) (wait i + W) y
        go (inl z) w (target a l) = absurd (e (sym a ∙ z))
        go (inl z) w (source a b c l) =
            omega (
              arith,
              spent_last W q i y z,
              left_other (suc i) y a,
              left_some W (last_use W q (suc i) y) (q.time (suc i)) (q.time (suc i)) l,
              at_same (q.server i) (wait i + W) y z,
              at_other (q.server (suc i)) 0 y a,
            )
        go (inl z) w (other a b l) = absurd (kept_sent (b z) m)
        go (inr z) (inl w) t =
            omega (arith, spent_other W q i y z, left_other i y z, left_last (suc i) y w, at_same (q.server (suc i)) 0 y w)
        go (inr z) (inr w) t = rest 0 (wait i + W) y z w t

    -- K at another server, last used at second u: it leaves what was left of its window, and the former last server gets what is left of its own
    pub moves_back : (u : ℕ) → q.server (suc i) ≢ q.server i → mark W q (suc i) ≡ K → last_use W q i (q.server (suc i)) ≡ some u
        → q.time (suc i) ≤ u + W → Moves i (u + W - q.time (suc i)) (q.time (suc i) - q.time i + (q.time i + W - q.time (suc i)))
    moves_back u e m v f y = go (same_or_not y (q.server i)) (same_or_not y (q.server (suc i))) (turn W q i y)
      where
        g : ℕ
        g = u + W - q.time (suc i)

        d : ℕ
        d = wait i + (q.time i + W - q.time (suc i))

        go : (y ≡ q.server i) ⊎ (y ≢ q.server i) → (y ≡ q.server (suc i)) ⊎ (y ≢ q.server (suc i)) → Turn W q i y
            → spent W q i y + left (suc i) y + at (q.server (suc i)) g y ≤ left i y + at (q.server i) d y
        go (inl z) w (target a l) = absurd (e (sym a ∙ z))
        go (inl z) w (source a b c l) = absurd (kept_sent m c)
        go (inl z) w (other a b l) =
            omega (
              arith,
              spent_last W q i y z,
              left_other (suc i) y a,
              left_some W (last_use W q (suc i) y) (q.time i) (q.time (suc i)) (l ∙ ap (last_use W q i) z ∙ use_last W q i),
              at_other (q.server (suc i)) g y a,
              at_same (q.server i) d y z,
            )
        go (inr z) (inl w) t =
            omega (
              arith,
              spent_other W q i y z,
              left_other i y z,
              left_some W (last_use W q i y) u (q.time i) (ap (last_use W q i) w ∙ v),
              left_last (suc i) y w,
              at_same (q.server (suc i)) g y w,
            )
        go (inr z) (inr w) t = rest g d y z w t

  -- over all servers
  pub moves_all : (count i g d : ℕ) → Moves i g d → q.server i < count → q.server (suc i) < count
      → across count (spent W q i) + across count (left (suc i)) + g ≤ across count (left i) + d
  moves_all count i g d h a b =
      omega (
        arith,
        across_le count (λ y. spent W q i y + left (suc i) y + at (q.server (suc i)) g y) (λ y. left i y + at (q.server i) d y) (λ y l. h y),
        across_add count (λ y. spent W q i y + left (suc i) y) (at (q.server (suc i)) g),
        across_add count (spent W q i) (left (suc i)),
        across_add count (left i) (at (q.server i) d),
        across_at count (q.server (suc i)) g b,
        across_at count (q.server i) d a,
      )

  -- before request 1 nothing is left
  pub left_zero : (count : ℕ) → across count (left 0) ≡ 0
  left_zero count = omega (arith, across_same count (left 0) (λ y. 0) (λ y a. go y (same_or_not y (q.server 0))), across_const count 0)
    where
      go : (y : ℕ) → (y ≡ q.server 0) ⊎ (y ≢ q.server 0) → left 0 y ≡ 0
      go y (inl e) = left_last 0 y e
      go y (inr e) = left_other 0 y e ∙ left_none W (last_use W q 0 y) (q.time 0) (use_none W q y e)

  -- what is left of all windows is that, and a whole one at the server of request i
  pub remaining_lefts : (count i : ℕ) → q.server i < count → across count (remaining W q i) ≡ across count (left i) + W
  unfolding remaining
  remaining_lefts count i h =
      omega (
        arith,
        across_same count (remaining W q i) (λ y. left i y + at (q.server i) W y) (λ y l. go y (same_or_not y (q.server i))),
        across_add count (left i) (at (q.server i) W),
        across_at count (q.server i) W h,
      )
    where
      go : (y : ℕ) → (y ≡ q.server i) ⊎ (y ≢ q.server i) → remaining W q i y ≡ left i y + at (q.server i) W y
      go y (inl e) =
          omega (
            arith,
            left_last i y e,
            at_same (q.server i) W y e,
            left_some W (last_use W q i y) (q.time i) (q.time i) (ap (last_use W q i) e ∙ use_last W q i),
          )
      go y (inr e) = omega (arith, left_other i y e, at_other (q.server i) W y e)
