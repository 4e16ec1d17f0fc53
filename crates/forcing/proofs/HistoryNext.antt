-- What one request more does to the online history, in the words of a round of the game: a copy is sent if none is held at its server, and
-- copies stand where they were held when it came, and at its server.
use Rattle.std.specs.Prelude.{Bool, ◌⊎◌, ◌≢◌, ◌≡◌, ℕ, suc, ◌+◌, ◌≤◌, eqb}
use Rattle.std.proofs.Math.Bool.{true, false}
use Rattle.std.proofs.Common.{inl, inr, ◌∙◌, arith}
use Rattle.std.proofs.Math.Option.{some}
use Rattle.std.proofs.Math.Path.{refl, sym}
use Rattle.std.proofs.Math.Dec.{leb}
use borrow.Author.Tests.{le-leb, eq-eqb, ne_eqb}
use Rattle.base.specs.Choice.{pick, either, same_or_not}
use Rattle.model.specs.Requests.{Requests, Rising}
use Rattle.model.proofs.RequestLaws.{none_some}
use Rattle.model.specs.Marking.{K}
use Rattle.bounds.specs.History.{recent, near, last_use, mark, holds, transfers}
use Rattle.bounds.proofs.HistoryLaws.{kept_sent, Turn, target, source, other, turn, Marked, again, back, sent, marked, use_last, Link, never, since, link, transfers_S, transfers_K}

module _ (W : ℕ) (q : Requests) (i τ x : ℕ) (second : q.time (suc i) ≡ τ) (asked : q.server (suc i) ≡ x) where
  -- request i + 1, at second τ and server x, is one transfer more if no copy is held there
  pub transfers_next : transfers W q (suc i) ≡ transfers W q i + pick (holds W q i x τ) 0 1
  unfolding mark near holds
  transfers_next = go (holds W q i x τ) refl
    where
      go : (b : Bool) → holds W q i x τ ≡ b → transfers W q (suc i) ≡ transfers W q i + pick b 0 1
      go true e = omega (arith, transfers_K W q i (rw (second, asked, e)))
      go false e = omega (arith, transfers_S W q i (rw (second, asked, e)))

  -- a use at its second is recent
  just_used : recent W (some τ) τ ≡ true
  unfolding recent
  just_used = le-leb τ (τ + W) (omega arith)

  -- where it is K at another server than that of request i, the use of the latter is recent too, as it is no earlier
  last_recent : Rising q i → q.server (suc i) ≢ q.server i → mark W q (suc i) ≡ K → recent W (last_use W q i (q.server i)) τ ≡ true
  unfolding recent
  last_recent r d k = rw (use_last W q i) (go (marked W q i))
    where
      by : (u : ℕ) → last_use W q i (q.server (suc i)) ≡ some u → q.time (suc i) ≤ u + W → Link W q i (q.server (suc i))
          → leb τ (q.time i + W) ≡ true
      by u l f (never a b) = absurd (none_some b l)
      by u l f (since j w a b c h) = let z : u ≡ w = cc in le-leb τ (q.time i + W) (omega (arith, second))

      go : Marked W q i → leb τ (q.time i + W) ≡ true
      go (again e m) = absurd (d e)
      go (back e m u l f) = by u l f (link W q i r i (q.server (suc i)) (omega arith))
      go (sent e m far) = absurd (kept_sent k m)

  -- the copies that stand when it has been served
  pub holds_next : Rising q i → (y : ℕ) → holds W q (suc i) y τ ≡ either (eqb y x) (holds W q i y τ)
  unfolding holds
  holds_next r y = rw asked (go (turn W q i y) (same_or_not y (q.server i)))
    where
      go : Turn W q i y → (y ≡ q.server i) ⊎ (y ≢ q.server i)
          → either (eqb y x) (recent W (last_use W q (suc i) y) τ) ≡ either (eqb y x) (either (eqb y (q.server i)) (recent W (last_use W q i y) τ))
      go (target e l) d = rw (eq-eqb y x (e ∙ asked))
      go (source e d m l) z = rw (l, second, just_used, eq-eqb y (q.server i) d)
      go (other e d l) (inr z) = rw (l, ne_eqb y (q.server i) z)
      go (other e d l) (inl z) = rw (l, eq-eqb y (q.server i) z, z, last_recent r (λ w. e (z ∙ sym w)) (d z))
