-- Requests with one more put after the first i: those stay, and the new one is where it was put.
use Rattle.std.specs.Prelude.{◌⊎◌, ◌≢◌, ◌≡◌}
use Rattle.std.proofs.Common.{inl, inr, ◌∙◌, arith}
use Rattle.std.proofs.Math.Path.{refl, sym}
use Prim.Native.Nat.{ℕ, suc, ◌<◌}
use Rattle.base.specs.Choice.{same_or_not}
use Rattle.model.specs.Requests.{Requests, Rising, Within}
use Rattle.model.proofs.Alike.{Alike}
use Rattle.forcing.specs.Positions.{with_request}
use Rattle.forcing.proofs.StayLaws.{put_same, put_other}

module _ (q : Requests) (i τ x : ℕ) where
  -- the requests with one at second τ and server x after the first i
  abbrev pub more : Requests
  more = with_request q (suc i) τ x

  -- its second
  pub more_time : more.time (suc i) ≡ τ
  unfolding with_request
  more_time = put_same q.time (suc i) τ (suc i) refl

  -- its server
  pub more_server : more.server (suc i) ≡ x
  unfolding with_request
  more_server = put_same q.server (suc i) x (suc i) refl

  -- those before it stay
  pub more_alike : Alike q more i
  unfolding with_request
  more_alike =
      record {
        times = λ l h. sym (put_other q.time (suc i) τ l (λ e. omega arith));
        servers = λ l h. sym (put_other q.server (suc i) x l (λ e. omega arith));
      }

  -- a later second: the seconds still rise
  pub more_rising : Rising q i → q.time i < τ → Rising more (suc i)
  more_rising r up = record { start = sym (more_alike.times 0 (omega arith)) ∙ r.start; rise = λ l h. go l h (same_or_not l i) }
    where
      go : (l : ℕ) → l < suc i → (l ≡ i) ⊎ (l ≢ i) → more.time l < more.time (suc l)
      go l h (inl e) = rw e (omega (arith, more_alike.times i (omega arith), more_time, up))
      go l h (inr e) = omega (arith, more_alike.times l (omega arith), more_alike.times (suc l) (omega arith), r.rise l (omega arith))

  -- a server below the count: all are
  pub more_within : (count : ℕ) → Within count q i → x < count → Within count more (suc i)
  unfolding Within
  more_within count w b l h = go (same_or_not l (suc i))
    where
      go : (l ≡ suc i) ⊎ (l ≢ suc i) → more.server l < count
      go (inl e) = rw e (omega (arith, more_server, b))
      go (inr e) = omega (arith, more_alike.servers l (omega arith), w l (omega arith))
