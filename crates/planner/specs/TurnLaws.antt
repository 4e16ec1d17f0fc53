-- A step back of the walk is what the code makes of a request's terms, and leaves v right.
use Rattle.std.specs.Prelude.{Bool, true, false, ◌⊎◌, ◌≡◌, refl}
use Rattle.std.proofs.Common.{inl, inr, ◌∙◌, arith}
use Rattle.std.proofs.Math.Option.{Option, none, some}
use Prim.Native.Nat.{ℕ, suc, ◌-◌, ◌≤◌, ◌<◌, min}
use borrow.Author.Tests.{lt-ltb, le-ltb, ne_eqb}
use Rattle.base.specs.Choice.{le_or_lt, not_both}
use Rattle.model.specs.Rates.{Rates}
use Rattle.model.specs.Requests.{Requests, previous}
use Rattle.model.proofs.RequestLaws.{previous_some}
use Rattle.model.specs.Table.{send_price, away_price, away_mark, shut_price, best}
use Rattle.model.proofs.TableLaws.{span, open_gap_shut, open_gap_open}
use Rattle.model.specs.Marking.{gap}
use Rattle.model.proofs.Walk.{kept_here, turn, turn_mark, turn_c, turn_v, turn_price, turn_right}
use Rattle.planner.specs.declared.table.Terms.{Terms}
use Rattle.planner.specs.Answers.{letter}
use Rattle.planner.specs.Terms.{index, span_from, away_of, terms_of, shut_by, kept_by, sent_by}
use Rattle.planner.specs.Walked.{Keeps, turned}

module _ (p : Rates) (q : Requests) (i c d v : ℕ) where
  -- what the code's test tells, by the request's terms
  data Turning (a : Terms) (b : Bool) : Type 0 where
    stays : b ≡ true → turn p q i c d v ≡ some a.from → a.span ≡ span p q a.from (suc i) → Turning a b
    leaves : b ≡ false → turn p q i c d v ≡ none → Turning a b

  turning : i < 65535 → (a : Terms) → a ≡ terms_of p q i → Turning a (kept_by p a c d v)
  unfolding turn kept_here kept_by shut_price shut_by terms_of index span_from
  turning few a e = rw e (go (previous q (suc i)) refl)
    where
      test : (j : ℕ) → previous q (suc i) ≡ some j → kept_by p (terms_of p q i) c d v ≡ kept_here p q i c d v j
      test j z = rw (z, terms_of, ne_eqb j 65535 (λ x. omega (arith, (previous_some q (suc i) j z).below)))

      found : (j : ℕ) → previous q (suc i) ≡ some j → (b : Bool) → kept_here p q i c d v j ≡ b
          → Turning (terms_of p q i) (kept_by p (terms_of p q i) c d v)
      found j z true k = stays (test j z ∙ k) (rw (z, turn, k)) (rw z)
      found j z false k = leaves (test j z ∙ k) (rw (z, turn, k))

      go : (o : Option ℕ) → previous q (suc i) ≡ o → Turning (terms_of p q i) (kept_by p (terms_of p q i) c d v)
      go none z = leaves (rw (z, terms_of)) (rw (z, turn))
      go (some j) z = found j z (kept_here p q i c d v j) refl

  module _ (few : i < 65535) (a : Terms) (e : a ≡ terms_of p q i) where
    -- what not keeping adds
    left : away_of p.upload a.sendable (sent_by p a i c) ≡ record { price = away_price p q i c; letter = letter (away_mark p q i c) }
    unfolding away_of sent_by terms_of away_price away_mark send_price gap
    left = rw e (go (le_or_lt c i))
      where
        go : (c ≤ i) ⊎ (i < c)
            → away_of p.upload (terms_of p q i).sendable (sent_by p (terms_of p q i) i c) ≡ record { price = away_price p q i c; letter = letter (away_mark p q i c) }
        go (inl h) = rw (le-ltb i c h, open_gap_shut p q i c h)
        go (inr h) = rw (lt-ltb i c h, open_gap_open p q i c h)

    -- a step back from K
    pub turned_kept : kept_by p a c d v ≡ true → record { letter = 75; c = min c a.from; v = v - a.span } ≡ turned p q i c d v
    unfolding turned turn_mark turn_c turn_v turn_price letter
    turned_kept k = go (turning few a e)
      where
        go : Turning a (kept_by p a c d v) → record { letter = 75; c = min c a.from; v = v - a.span } ≡ turned p q i c d v
        go (stays b t s) = rw (t, s)
        go (leaves b t) = absurd (not_both k b)

    -- a step back from another mark
    pub turned_gone : kept_by p a c d v ≡ false → record { letter = (away_of p.upload a.sendable (sent_by p a i c)).letter; c = min c i; v = v - (away_of p.upload a.sendable (sent_by p a i c)).price } ≡ turned p q i c d v
    unfolding turned turn_mark turn_c turn_v turn_price
    turned_gone k = go (turning few a e)
      where
        go : Turning a (kept_by p a c d v) → record { letter = (away_of p.upload a.sendable (sent_by p a i c)).letter; c = min c i; v = v - (away_of p.upload a.sendable (sent_by p a i c)).price } ≡ turned p q i c d v
        go (stays b t s) = absurd (not_both b k)
        go (leaves b t) = rw (t, left)

    module _ (right : v ≡ best p q (suc i) c) (f : Keeps p q i d) where
      -- v is no less than what K costs
      pub span_most : kept_by p a c d v ≡ true → a.span ≤ v
      unfolding Keeps turn_price
      span_most k = go (turning few a e)
        where
          go : Turning a (kept_by p a c d v) → a.span ≤ v
          go (stays b t s) = rw s (let r = rw t at (turn_right p q i c d v right f) in omega (arith, r))
          go (leaves b t) = absurd (not_both k b)

      -- or another mark
      pub gone_most : kept_by p a c d v ≡ false → (away_of p.upload a.sendable (sent_by p a i c)).price ≤ v
      unfolding Keeps turn_price
      gone_most k = go (turning few a e)
        where
          go : Turning a (kept_by p a c d v) → (away_of p.upload a.sendable (sent_by p a i c)).price ≤ v
          go (stays b t s) = absurd (not_both b k)
          go (leaves b t) = rw left (let r = rw t at (turn_right p q i c d v right f) in omega (arith, r))

  -- v is right again for the requests before
  pub turned_right : v ≡ best p q (suc i) c → Keeps p q i d → (turned p q i c d v).v ≡ best p q i (turned p q i c d v).c
  unfolding Keeps turned turn_v
  turned_right right f = omega (arith, turn_right p q i c d v right f)
