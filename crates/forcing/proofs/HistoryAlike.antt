-- The online history up to request n asks only for the first n requests: where two lists of requests agree up to there, so do their last uses,
-- marks, servers that hold, seconds held and transfers.
use Rattle.std.specs.Prelude.{Bool, true, false, ◌≡◌, ltb}
use Rattle.std.proofs.Math.Path.{refl, ap, fun_ext}
use Rattle.std.proofs.Common.{arith}
use Prim.Native.Nat.{ℕ, zero, suc, ◌≤◌}
use Rattle.base.specs.Choice.{pick}
use Rattle.model.proofs.SumLaws.{sum_same}
use Rattle.model.specs.Requests.{Requests}
use Rattle.model.proofs.Alike.{Alike}
use Rattle.model.specs.Marking.{Mark, sends}
use Rattle.model.specs.Marking as marking
use Rattle.online.specs.ServerLaws.{across_same}
use Rattle.bounds.specs.History.{before, near, next, last_use, mark, holds, over, held, transfers}

-- the last request before a second is one of those looked at
before_most : (q : Requests) (n τ : ℕ) → before q n τ ≤ n
unfolding before
before_most q zero τ = omega arith
before_most q (suc n) τ = go (ltb (q.time n) τ) (before_most q n τ)
  where
    go : (b : Bool) → before q n τ ≤ n → pick b n (before q n τ) ≤ suc n
    go true h = omega arith
    go false h = omega arith

module _ (W : ℕ) (q r : Requests) (n : ℕ) (alike : Alike q r n) where
  -- the last uses agree
  pub uses_alike : (i : ℕ) → i ≤ n → last_use W q i ≡ last_use W r i
  unfolding last_use next near
  uses_alike zero h = fun_ext (λ y. rw (alike.servers 0 h, alike.times 0 h))
  uses_alike (suc i) h =
      fun_ext (λ y. rw (uses_alike i (omega arith), alike.servers (suc i) h, alike.servers i (omega arith), alike.times (suc i) h))

  -- the marks
  pub mark_alike : (i : ℕ) → 1 ≤ i → i ≤ n → mark W q i ≡ mark W r i
  unfolding mark near
  mark_alike zero a h = absurd (omega arith)
  mark_alike (suc i) a h =
      rw (uses_alike i (omega arith), alike.servers (suc i) h, alike.servers i (omega arith), alike.times (suc i) h)

  -- the number of transfers
  pub transfers_alike : transfers W q n ≡ transfers W r n
  unfolding transfers marking.sent
  transfers_alike = sum_same n _ _ (λ i a h. ap (λ (m : Mark). pick (sends m) 1 0) (mark_alike i a h))

  -- which request is the last before a second
  before_alike : (i τ : ℕ) → i ≤ n → before q i τ ≡ before r i τ
  unfolding before
  before_alike zero τ h = refl
  before_alike (suc i) τ h = rw (alike.times i (omega arith), before_alike i τ (omega arith))

  -- which servers hold after a request
  pub holds_alike : (i y τ : ℕ) → i ≤ n → holds W q i y τ ≡ holds W r i y τ
  unfolding holds
  holds_alike i y τ h = rw (alike.servers i h, uses_alike i h)

  -- and over each second
  over_alike : (τ y : ℕ) → over W q n τ y ≡ over W r n τ y
  unfolding over
  over_alike τ y = rw (before_alike n τ (omega arith), holds_alike (before r n τ) y τ (before_most r n τ))

  -- so the seconds held
  pub held_alike : (count : ℕ) → held W q count n ≡ held W r count n
  unfolding held
  held_alike count =
      rw (alike.times n (omega arith))
      (sum_same (r.time n) _ _ (λ τ a h. across_same count (over W q n τ) (over W r n τ) (λ y b. over_alike τ y)))
