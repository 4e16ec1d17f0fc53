-- The running cost is at least the least cost: the marks are a marking, and the servers that hold are copies enough for it.
use mathlib.Core.List.Memᴰ
use mathlib.Core.List.{List, [], ◌∷◌, ◌++◌, Memᴰ}
use Rattle.std.specs.Prelude.{◌⊎◌, ◌≢◌, ◌≡◌, refl}
use Rattle.std.proofs.Common.{inl, inr}
use Rattle.std.proofs.Math.Option.{some}
use native.Mathlib.Omega.{arith}
use Prim.Native.Nat.{ℕ, zero, suc, ◌+◌, ◌*◌, ◌≤◌, ◌<◌}
use Rattle.base.specs.Choice.{le_or_lt, same_or_not}
use Rattle.base.specs.Lists.{build}
use Rattle.prices.specs.declared.Prices.{Prices}
use Rattle.prices.specs.Prices.{window}
use Rattle.model.specs.Sums.{sum, total}
use Rattle.model.proofs.SumLaws.{total_append, inside, inside_in, inside_low, inside_high}
use Rattle.model.specs.Requests.{Requests, previous, Rising, Within}
use Rattle.model.proofs.RequestLaws.{none_some, previous_next, rises_le}
use Rattle.model.proofs.Once.{awaits_own, since_some, Claim, idle, claims, claims_met}
use Rattle.model.specs.Rates.{rates, plain, some?, or_zero}
use Rattle.model.specs.Marking.{K, S, keeps, legal, begin}
use Rattle.model.specs.Table.{best}
use Rattle.model.proofs.Exchange.{best_free}
use Rattle.model.proofs.Demand.{spanned, spans_over, Proper, demand}
use Rattle.online.specs.Servers.{across}
use Rattle.online.specs.ServerLaws.{across_one}
use Rattle.bounds.specs.History.{mark, before, over, held, transfers, running_cost}
use Rattle.bounds.proofs.HistoryLaws.{kept_sent, kept_or_sent, never_U, Marked, again, back, sent, marked, Link, never, since, link}
use Rattle.bounds.proofs.Holding.{before_lies, last_over, kept_over}

-- the servers below n, as a list
abbrev servers : ℕ → List ℕ
servers n = build n (λ y. y)

-- a server below n is one of them
server_in : (n y : ℕ) → y < n → Memᴰ y (servers n)
unfolding build
server_in zero y h = absurd (omega arith)
server_in (suc n) y h = go (same_or_not y n) (server_in n y)
  where
    go : (y ≡ n) ⊎ (y ≢ n) → (y < n → Memᴰ y (servers n)) → Memᴰ y (servers n ++ (n ∷ []))
    go (inl e) ih = Memᴰ.append_right (servers n) (Memᴰ.head e)
    go (inr e) ih = Memᴰ.append_left (n ∷ []) (ih (omega arith))

-- a total over that list is a sum over the servers
servers_total : (n : ℕ) (f : ℕ → ℕ) → total f (servers n) ≡ across n f
unfolding build across sum total
servers_total zero f = refl
servers_total (suc n) f = omega (arith, total_append f (servers n) (n ∷ []), servers_total n f)

module _ (W : ℕ) (q : Requests) (count n : ℕ) (rising : Rising q n) (within : Within count q n) where
  -- the previous request of a K
  kept_from : (i : ℕ) → i < n → mark W q (suc i) ≡ K → (j : ℕ) × (previous q (suc i) ≡ some j)
  unfolding previous
  kept_from i h e = go (marked W q i) (link W q n rising i (q.server (suc i)) (omega arith))
    where
      go : Marked W q i → Link W q i (q.server (suc i)) → (j : ℕ) × (previous q (suc i) ≡ some j)
      go (again s m) l = (i, previous_next q i s)
      go (back s m u a f) (never b c) = absurd (none_some c a)
      go (back s m u a f) (since j w b c d g) = (j, b)
      go (sent s m f) l = absurd (kept_sent e m)

  -- the marks are K only where there is one, and never U
  pub mark_proper : (p : Prices) → Proper (plain p) q n (mark W q)
  unfolding legal some?
  mark_proper p = record { kept = λ i h e. rw (kept_from i h e).1; offered = λ i h e. absurd (never_U W q (suc i) e) }

  -- request i claims a server that holds over second τ, for a number v
  abbrev Claims : ℕ → ℕ → ℕ → Type 0
  Claims τ i v = Claim q (servers count) (λ y. y) (λ y. τ) (over W q n τ) i v

  -- a K span over second τ does
  span_claim : (τ i : ℕ) → 1 ≤ i → i ≤ n → Claims τ i (spanned q (begin q (mark W q) i) i τ)
  unfolding begin keeps spanned Within
  span_claim τ zero a b = absurd (omega arith)
  span_claim τ (suc i) a b = go (kept_or_sent W q (suc i))
    where
      in_span : (j : ℕ) → mark W q (suc i) ≡ K → previous q (suc i) ≡ some j → (τ ≤ q.time j) ⊎ (q.time j < τ)
          → (τ ≤ q.time (suc i)) ⊎ (q.time (suc i) < τ) → Claims τ (suc i) (inside (q.time j) (q.time (suc i)) τ)
      in_span j m e (inl c) d = idle (inside_low (q.time j) (q.time (suc i)) τ c)
      in_span j m e (inr c) (inr d) = idle (inside_high (q.time j) (q.time (suc i)) τ d)
      in_span j m e (inr c) (inl d) =
          claims (q.server (suc i)) (server_in count (q.server (suc i)) (within (suc i) b))
          (omega (arith, inside_in (q.time j) (q.time (suc i)) τ c d, kept_over W q n rising i j τ b m e c d))
          (awaits_own q τ (suc i) (since_some q (suc i) j τ e c) d)

      go : (mark W q (suc i) ≡ K) ⊎ (mark W q (suc i) ≡ S) → Claims τ (suc i) (spanned q (begin q (mark W q) (suc i)) (suc i) τ)
      go (inl m) = let f = kept_from i b m in rw (m, f.1) (in_span f.0 m f.1 (le_or_lt τ (q.time f.0)) (le_or_lt τ (q.time (suc i))))
      go (inr m) = rw m (idle refl)

  -- the K spans over a second are no more than the servers that hold
  spans_held : (τ : ℕ) → spans_over q (begin q (mark W q)) n τ ≤ across count (over W q n τ)
  unfolding spans_over
  spans_held τ =
      omega (
        arith,
        claims_met q (servers count) (λ y. y) (λ y. τ) (over W q n τ) n rising (λ i. spanned q (begin q (mark W q) i) i τ) (span_claim τ),
        servers_total count (over W q n τ),
      )

  -- over each second some server holds
  some_held : (τ : ℕ) → 1 ≤ τ → τ ≤ q.time n → 1 ≤ across count (over W q n τ)
  unfolding Within
  some_held τ a b =
      let l = before_lies q n τ rising.start a b in
      omega (
        arith,
        across_one count (over W q n τ) (q.server (before q n τ)) (within (before q n τ) (omega (arith, l.below))),
        last_over W q n rising τ,
      )

  -- the demand lemma for these marks and copies
  pub not_below_window : (p : Prices) → best (plain p) q n n ≤ p.hold * held W q count n + p.transfer * transfers W q n
  unfolding held transfers rates or_zero
  not_below_window p =
      omega (
        arith,
        best_free (plain p) q n rising,
        demand (plain p) q n rising (mark W q) (mark_proper p) n (λ τ. across count (over W q n τ)) (omega arith) (λ τ a. spans_held τ)
            (λ l τ h e a b. some_held τ (omega arith) (omega (arith, rises_le rising (suc l) n h (omega arith)))),
      )

-- the running cost is at least the least cost
pub not_below : (p : Prices) (q : Requests) (count n : ℕ) → Rising q n → Within count q n → best (plain p) q n n ≤ running_cost p q count n
unfolding running_cost
not_below p q count n rising within = not_below_window (window p) q count n rising within p
