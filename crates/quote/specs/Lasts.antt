-- The last second at each server, as the code holds it, and what a request costs by itself by that. Assumes nothing.
use mathlib.Core.List.{List}
use Rattle.std.proofs.Math.Option.{Option, none, some}
use Rattle.std.specs.Prelude.{◌≡◌, refl, ℕ, suc, ◌+◌, ◌-◌, ◌*◌, ◌≤◌, ◌<◌, min, ltb, length, set, replicate}
use Rattle.std.proofs.Math.Path.{ap}
use Rattle.std.proofs.Common.{◌∙◌, arith, lt-ltb, le-ltb}
use Rattle.base.specs.Choice.{pick}
use Rattle.base.specs.Bytes.{le16, le32}
use Rattle.prices.specs.declared.Prices.{Prices}
use Rattle.request_log.specs.Fields.{home_of, request_count, length_for}
use Rattle.request_log.specs.Ranges.{Sound}
use Rattle.model.specs.Sums.{sum}
use Rattle.model.specs.Requests.{Requests, requests, previous, Rising, Within}
use Rattle.model.proofs.RequestLaws.{previous_some, rises_le}
use Rattle.model.specs.LogRequests.{requests_in}
use Rattle.model.proofs.LogRequestLaws.{time_read, server_read, sound_rising, sound_seconds, sound_within}
use Rattle.model.specs.Quote.{least_own, sum_part}
use Rattle.model.proofs.RecentLaws.{recents, recents_zero, recents_at, recents_next}
use Rattle.model.proofs.TableLists.{at}

-- what stands for the last second of a server without a request
abbrev pub no_second : ℕ
no_second = 4294967295

-- the second of the latest request at a server
unfoldable pub latest_second : Requests → Option ℕ → ℕ
latest_second q none = no_second
latest_second q (some j) = q.time j

-- what a request at a second costs by itself, by the last second at its server; one that comes after it stands for none
unfoldable pub own_since : Prices → ℕ → ℕ → ℕ
own_since p last second = pick (ltb second last) p.transfer (min p.transfer (p.hold * (second - last)))

-- that is what it costs, by its previous request
pub own_last : (p : Prices) (q : Requests) (n i : ℕ) → Rising q n → i ≤ n → q.time i < no_second
    → own_since p (latest_second q (previous q i)) (q.time i) ≡ least_own p q i
unfolding own_since latest_second least_own
own_last p q n i rising h small = go (previous q i) refl
  where
    go : (o : Option ℕ) → previous q i ≡ o → own_since p (latest_second q (previous q i)) (q.time i) ≡ least_own p q i
    go none e = rw (e, least_own, lt-ltb (q.time i) no_second small)
    go (some j) e =
        let b : j < i = (previous_some q i j e).below in
        rw (e, least_own, le-ltb (q.time i) (q.time j) (rises_le rising j i (omega arith) h))

-- the last second at each of 64 servers after the first k requests of a log, home's second 0 among them
unfoldable pub lasts : List ℕ → ℕ → List ℕ
lasts log k = recents (requests_in log).server (latest_second (requests_in log)) (suc k)

-- before any request only home has one
pub lasts_zero : (log : List ℕ) → set (replicate 64 no_second) (home_of log) 0 ≡ lasts log 0
unfolding lasts latest_second requests_in requests
lasts_zero log =
    let q = requests_in log in
    ap (λ (l : List ℕ). set l (home_of log) 0) (recents_zero q.server (latest_second q))
    ∙ recents_next q.server (latest_second q) 0

module _ (log : List ℕ) (sound : Sound log) (k : ℕ) (h : k < request_count log) where
  -- request k + 1 is there
  pub request_there : 46 + 6 * k ≤ length log
  unfolding length_for
  request_there = omega (arith, sound.length_is)

  -- and at one of them
  pub server_small : le16 log (44 + 6 * k) < 64
  unfolding Within
  server_small = omega (arith, server_read log k h, sound_within log sound (suc k) h, sound.setup.servers_most)

  -- what it costs by itself
  pub lasts_own : (p : Prices)
      → own_since p (at (lasts log k) (le16 log (44 + 6 * k))) (le32 log (40 + 6 * k)) ≡ least_own p (requests_in log) (suc k)
  unfolding lasts previous
  lasts_own p =
      let q = requests_in log in
      rw (← server_read log k h, ← time_read log k h)
      (ap (λ (l : ℕ). own_since p l (q.time (suc k))) (recents_at q.server (latest_second q) (suc k) (q.server (suc k)) (rw (server_read log k h) server_small))
      ∙ own_last p q (request_count log) (suc k) (sound_rising log sound) h (omega (arith, sound_seconds log sound (suc k) h)))

  -- and the list with its second
  pub lasts_next : set (lasts log k) (le16 log (44 + 6 * k)) (le32 log (40 + 6 * k)) ≡ lasts log (suc k)
  unfolding lasts latest_second
  lasts_next =
      let q = requests_in log in
      rw (← server_read log k h, ← time_read log k h) (recents_next q.server (latest_second q) (suc k))

  -- and what all requests add with it
  pub sum_next : (p : Prices) (l : List ℕ) (x r : ℕ) → l ≡ lasts log k → x ≡ sum_part p (requests_in log) k
      → r ≡ own_since p (at l (le16 log (44 + 6 * k))) (le32 log (40 + 6 * k)) → x + r ≡ sum_part p (requests_in log) (suc k)
  unfolding sum
  sum_next p l x r e f g =
      omega (arith, g, ap (λ (l : List ℕ). own_since p (at l (le16 log (44 + 6 * k))) (le32 log (40 + 6 * k))) e, lasts_own p)
