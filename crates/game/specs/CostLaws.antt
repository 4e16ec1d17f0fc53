-- The costs that the code comes by are the table's.
use Rattle.std.specs.Prelude.{Bool, not, ◌⊎◌, ◌≢◌, ◌≡◌, leb, ltb, get_or}
use Rattle.std.proofs.Math.Bool.{true, false}
use Rattle.std.proofs.Common.{inl, inr, ◌∙◌, mul-le-mul, arith}
use Rattle.std.proofs.Math.Option.{Option, none, some}
use Rattle.std.proofs.Math.Path.{refl, sym, ap}
use Prim.Native.Nat.{ℕ, zero, suc, ◌+◌, ◌-◌, ◌*◌, ◌≤◌, ◌<◌, min}
use Rattle.std.proofs.Math.Dec.{eqb}
use borrow.Author.Tests.{le-leb, lt-leb, lt-ltb, eq-eqb, ne_eqb}
use Rattle.base.specs.Choice.{pick, le_or_lt, same_or_not}
use Rattle.model.specs.Rates.{Rates, plain, rates, some?}
use Rattle.model.specs.Requests.{Requests, latest, previous}
use Rattle.model.proofs.RequestLaws.{previous_some}
use Rattle.model.proofs.Alike.{Alike, best_alike}
use Rattle.model.specs.Marking.{legal, gap}
use Rattle.model.specs.Table.{open_gap, send_price, cheaper, away_price, may_leave, best}
use Rattle.model.proofs.BestLaws.{best_none, best_forced, best_both}
use Rattle.model.proofs.TableLaws.{span as span_price}
use Rattle.forcing.specs.declared.Game.{Game}
use Rattle.game.specs.declared.board.Board.{Board}
use Rattle.game.specs.Answers.{Ranged}
use Rattle.forcing.specs.Positions.{with_request}
use Rattle.forcing.proofs.OneMore.{more_time, more_server, more_alike}
use Rattle.game.specs.Costs.{now_of, asked_at, source_of, sent_cost, kept_cost, next_cost}
use Rattle.game.specs.Boards.{asked_of, Fits}

-- ---- the latest request at a server

-- an index, or 4
abbrev place_of : Option ℕ → ℕ
place_of none = 4
place_of (some j) = j

-- latest index of the first n: by its place
place_next : (s : ℕ → ℕ) (y n : ℕ) → place_of (latest s y (suc n)) ≡ pick (eqb (s n) y) n (place_of (latest s y n))
unfolding latest
place_next s y n = go (eqb (s n) y)
  where
    go : (b : Bool) → place_of (pick b (some n) (latest s y n)) ≡ pick b n (place_of (latest s y n))
    go true = refl
    go false = refl

-- what the code gives is the latest request at a server
pub source_place : (b : Board) (x : ℕ) → b.count ≤ 2 → source_of b x ≡ place_of (latest (asked_of b).server x (suc b.count))
unfolding source_of asked_at asked_of latest
source_place b x h = go b.count refl h
  where
    go : (n : ℕ) → b.count ≡ n → n ≤ 2 → source_of b x ≡ place_of (latest (λ i. get_or b.servers i 0) x (suc n))
    go zero e l =
        rw (e, place_next (λ i. get_or b.servers i 0) x 0)
    go (suc zero) e l =
        rw (e, place_next (λ i. get_or b.servers i 0) x 1, place_next (λ i. get_or b.servers i 0) x 0)
    go (suc (suc zero)) e l =
        rw (e, place_next (λ i. get_or b.servers i 0) x 2, place_next (λ i. get_or b.servers i 0) x 1, place_next (λ i. get_or b.servers i 0) x 0)
    go (suc (suc (suc n))) e l = absurd (omega arith)

-- ---- one request more

module _ (g : Game) (b : Board) (F : Fits g b) (few : b.count ≤ 2) (wait x : ℕ) where
  -- the prices, the requests so far, and those with one more
  abbrev p : Rates
  p = plain g.prices

  abbrev n : ℕ
  n = b.count

  abbrev q : Requests
  q = asked_of b

  abbrev q' : Requests
  q' = with_request q (suc n) (now_of b + wait) x

  -- the ones so far are the same
  alike : Alike q q' n
  alike = more_alike q n (now_of b + wait) x

  -- the second of the next one
  time_next : q'.time (suc n) ≡ now_of b + wait
  time_next = more_time q n (now_of b + wait) x

  -- its server
  server_next : q'.server (suc n) ≡ x
  server_next = more_server q n (now_of b + wait) x

  -- the second of the one before it
  time_now : q'.time n ≡ now_of b
  unfolding asked_of now_of
  time_now = sym (alike.times n (omega arith))

  -- the latest before it at its server
  latest_same : (i : ℕ) → i ≤ suc n → latest q.server x i ≡ latest q'.server x i
  unfolding latest
  latest_same zero h = refl
  latest_same (suc i) h = rw (alike.servers i (omega arith), latest_same i (omega arith))

  -- is what the code gives
  place_previous : place_of (previous q' (suc n)) ≡ source_of b x
  unfolding previous
  place_previous = rw (server_next, ← latest_same (suc n) (omega arith)) (sym (source_place b x few))

  -- the costs so far
  cost_so_far : (c : ℕ) → c < 4 → best p q' n c ≡ get_or b.costs c 0
  cost_so_far c h = sym (best_alike q q' n alike p n c (omega arith)) ∙ sym (F.costs_right c h)

  -- what a transfer adds
  away_is : (c : ℕ) → away_price p q' n c ≡ pick (ltb n c) (g.prices.transfer + g.prices.hold * wait) g.prices.transfer
  unfolding away_price send_price cheaper open_gap gap rates
  away_is c = go (le_or_lt c n)
    where
      wait_is : q'.time (suc n) - q'.time n ≡ wait
      wait_is = omega (arith, time_next, time_now)

      go : (c ≤ n) ⊎ (n < c) → g.prices.transfer + pick (leb (suc n) c) (g.prices.hold * (q'.time (suc n) - q'.time n)) 0 ≡ pick (ltb n c) (g.prices.transfer + g.prices.hold * wait) g.prices.transfer
      go (inl h) = rw (lt-leb (suc n) c (omega arith)) (omega arith)
      go (inr h) = rw (le-leb (suc n) c h, wait_is)

  -- the least cost where it is sent
  sent_is : (c : ℕ) → away_price p q' n c + best p q' n (min c n) ≡ sent_cost g b wait c
  unfolding sent_cost
  sent_is c = rw (away_is c, cost_so_far (min c n) (omega arith))

  -- and where it is kept
  kept_is : (c j : ℕ) → j ≤ n → span_price p q' j (suc n) + best p q' n (min c j) ≡ kept_cost g b wait j c
  unfolding kept_cost rates asked_of
  kept_is c j h = rw (time_next, ← alike.times j h, cost_so_far (min c j) (omega arith))

  -- S is legal where the latest request at the server is not the last one
  leaves : (c : Bool) → eqb (q'.server (suc n)) (q'.server n) ≡ c → may_leave p q' (suc n) ≡ not c
  unfolding may_leave legal some? rates
  leaves true e = rw e
  leaves false e = rw e

  -- the least cost
  pub cost_next : (c : ℕ) → next_cost g b wait (source_of b x) c ≡ best p (with_request q (suc n) (now_of b + wait) x) (suc n) c
  unfolding next_cost
  cost_next c = go (previous q' (suc n)) refl
    where
      same : (j : ℕ) → previous q' (suc n) ≡ some j → j ≡ n → eqb (q'.server (suc n)) (q'.server n) ≡ true
      same j e d = eq-eqb (q'.server (suc n)) (q'.server n) (sym (previous_some q' (suc n) j e).there ∙ ap q'.server d)

      apart : (j : ℕ) → previous q' (suc n) ≡ some j → j ≢ n → eqb (q'.server (suc n)) (q'.server n) ≡ false
      apart j e d =
          let l = previous_some q' (suc n) j e in
          ne_eqb (q'.server (suc n)) (q'.server n) (λ w. l.last n (omega (arith, l.below)) (omega arith) (sym w))

      two : (j : ℕ) → previous q' (suc n) ≡ some j → source_of b x ≡ j → j ≤ n → (j ≡ n) ⊎ (j ≢ n)
          → next_cost g b wait (source_of b x) c ≡ best p q' (suc n) c
      two j e z h (inl d) =
          rw (z, ne_eqb j 4 (λ w. omega arith), eq-eqb j n d)
          (sym (best_forced p q' n c j e (leaves true (same j e d)) ∙ kept_is c j h))
      two j e z h (inr d) =
          rw (z, ne_eqb j 4 (λ w. omega arith), ne_eqb j n d)
          (sym (best_both p q' n c j e (leaves false (apart j e d)) ∙ (rw (sent_is c, kept_is c j h))))

      go : (o : Option ℕ) → previous q' (suc n) ≡ o → next_cost g b wait (source_of b x) c ≡ best p q' (suc n) c
      go none e =
          let z : source_of b x ≡ 4 = sym place_previous ∙ ap place_of e in
          rw (z) (sym (best_none p q' n c e ∙ sent_is c))
      go (some j) e =
          let z : source_of b x ≡ j = sym place_previous ∙ ap place_of e in
          two j e z (omega (arith, (previous_some q' (suc n) j e).below)) (same_or_not j n)

-- with the gap open a wait adds its holding, whichever choice is the lesser
pub cost_wait : (g : Game) (b : Board) → Fits g b → (wait from : ℕ)
    → next_cost g b wait from (suc b.count) ≡ g.prices.hold * wait + next_cost g b 0 from (suc b.count)
unfolding next_cost sent_cost kept_cost
cost_wait g b F wait from = go (eqb from 4) (eqb from b.count)
  where
    h : ℕ
    h = g.prices.hold

    sent : (w : ℕ) → sent_cost g b w (suc b.count) ≡ g.prices.transfer + h * w + get_or b.costs (min (suc b.count) b.count) 0
    sent w = rw (lt-ltb b.count (suc b.count) (omega arith))

    since : ℕ
    since = get_or b.seconds from 0

    span : (w : ℕ) → h * (now_of b + w - since) ≡ h * w + h * (now_of b - since)
    span w = let e : now_of b + w - since ≡ w + (now_of b - since) = omega (arith, F.past from) in rw e (omega arith)

    none : h * 0 ≡ 0
    none = omega arith

    go : (a d : Bool)
        → pick a (sent_cost g b wait (suc b.count)) (pick d (kept_cost g b wait from (suc b.count)) (min (sent_cost g b wait (suc b.count)) (kept_cost g b wait from (suc b.count))))
        ≡ h * wait
        + pick a (sent_cost g b 0 (suc b.count)) (pick d (kept_cost g b 0 from (suc b.count)) (min (sent_cost g b 0 (suc b.count)) (kept_cost g b 0 from (suc b.count))))
    go true d = omega (arith, sent wait, sent 0, none)
    go false true = omega (arith, span wait, span 0, none)
    go false false = omega (arith, sent wait, sent 0, span wait, span 0, none)

-- no cost is more than ten million for each request
pub cost_most : (g : Game) (b : Board) → Ranged g → Fits g b → b.count < 3 → (wait : ℕ) → wait ≤ 3 → (from c : ℕ)
    → next_cost g b wait from c ≤ 10000000 * suc b.count
unfolding next_cost sent_cost kept_cost
cost_most g b R F room wait short from c = go (eqb from 4) (eqb from b.count)
  where
    sent : (a : Bool) → pick a (g.prices.transfer + g.prices.hold * wait) g.prices.transfer ≤ 4000000
    sent true =
        omega (arith, R.priced.transfer_most, mul-le-mul {n₁ = g.prices.hold} {m₁ = wait} {n₂ = 1000000} {m₂ = 3} R.priced.hold_most short)
    sent false = omega (arith, R.priced.transfer_most)

    sent_most : sent_cost g b wait c ≤ 10000000 * suc b.count
    sent_most = omega (arith, sent (ltb b.count c), F.costs_most (min c b.count))

    span : ℕ
    span = now_of b + wait - get_or b.seconds from 0

    kept_most : kept_cost g b wait from c ≤ 10000000 * suc b.count
    kept_most =
        omega (
          arith,
          mul-le-mul {n₁ = g.prices.hold} {m₁ = span} {n₂ = 1000000} {m₂ = 9} R.priced.hold_most (omega (arith, short, F.now_most)),
          F.costs_most (min c from),
        )

    go : (a d : Bool) → pick a (sent_cost g b wait c) (pick d (kept_cost g b wait from c) (min (sent_cost g b wait c) (kept_cost g b wait from c))) ≤ 10000000 * suc b.count
    go true d = sent_most
    go false true = kept_most
    go false false = omega (arith, sent_most)
