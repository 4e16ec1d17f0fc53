-- The requests of a log where they stand in its bytes. Those of a sound log rise, are in range and stay below its server count; so do an accepted log's,
-- whose prices are in range, and a cut log has the first of them.
use Rattle.std.specs.Prelude.{List, ◌∷◌, ◌≡◌, take}
use Rattle.std.proofs.Math.Path.{refl, ap}
use Rattle.std.proofs.Common.{arith, get_or-take}
use Prim.Native.Nat.{ℕ, zero, suc, ◌+◌, ◌*◌, ◌≤◌, ◌<◌}
use Rattle.std.proofs.Math.ListN.{get_or}
use Rattle.base.specs.Bytes.{le16, le32}
use Rattle.request_log.specs.Fields.{class_of, server_count_of, home_of, request_count, seconds_of, servers_of, header_of}
use Rattle.request_log.specs.Conditions.{before, Accepted}
use Rattle.request_log.specs.Ranges.{Sound}
use Rattle.request_log.specs.Contents.{Contents, decode, first_requests, cut}
use Rattle.request_log.specs.AcceptedLaws.{accepted_judged, accepted_class, accepted_sound, second_at, server_at, before_is}
use Rattle.request_log.specs.Cutting.{cut_decodes}
use Rattle.prices.specs.Prices.{prices_of, InRange}
use Rattle.prices.specs.PriceLaws.{Priced}
use Rattle.prices.specs.Tariff.{Tariff}
use Rattle.model.specs.Requests.{requests, Rising, Within}
use Rattle.model.specs.LogRequests.{requests_in, prices_in}
use Rattle.model.proofs.Alike.{Alike}

-- home comes before the requests of any log
pub home_is : (log : List ℕ) → (requests_in log).server 0 ≡ home_of log
unfolding requests_in requests
home_is log = refl

-- the second and the server of request i + 1, where they stand in its bytes
pub time_read : (log : List ℕ) (i : ℕ) → i < request_count log → (requests_in log).time (suc i) ≡ le32 log (40 + 6 * i)
unfolding requests_in requests
time_read log i h = second_at log i h

pub server_read : (log : List ℕ) (i : ℕ) → i < request_count log → (requests_in log).server (suc i) ≡ le16 log (44 + 6 * i)
unfolding requests_in requests
server_read log i h = server_at log i h

-- the second of the last one, as the log has it
pub last_is : (log : List ℕ) → before (seconds_of log) (request_count log) ≡ (requests_in log).time (request_count log)
unfolding requests_in requests
last_is log = before_is (seconds_of log) (request_count log)

-- the seconds of a sound log rise
pub sound_rising : (s : List ℕ) → Sound s → Rising (requests_in s) (request_count s)
unfolding requests_in requests
sound_rising s a =
    record { start = refl; rise = λ i h. rw (← (before_is (seconds_of s) i)) (a.in_order i h).later }

-- none is above 4,000,000
pub sound_seconds : (s : List ℕ) → Sound s → (i : ℕ) → i ≤ request_count s → (requests_in s).time i ≤ 4000000
unfolding requests_in requests
sound_seconds s a zero h = omega arith
sound_seconds s a (suc i) h = (a.in_order i h).second_most

-- its servers are below its server count
pub sound_within : (s : List ℕ) → Sound s → Within (server_count_of s) (requests_in s) (request_count s)
unfolding Within requests_in requests
sound_within s a zero h = a.setup.home_below
sound_within s a (suc i) h = (a.in_order i h).server_below

-- an accepted log is sound
pub log_rising : (t : Tariff) (s : List ℕ) → Accepted t s → Rising (requests_in s) (request_count s)
log_rising t s a = sound_rising s (accepted_sound t s a)

pub log_within : (t : Tariff) (s : List ℕ) → Accepted t s → Within (server_count_of s) (requests_in s) (request_count s)
log_within t s a = sound_within s (accepted_sound t s a)

-- its prices are in range
pub log_priced : (t : Tariff) → Priced t → (s : List ℕ) → Accepted t s → InRange (prices_in t s)
unfolding prices_in
log_priced t p s a = p (accepted_judged t s a) (class_of s) (accepted_class t s a)

-- the contents of a cut log, field by field
module _ (t : Tariff) (s : List ℕ) (k : ℕ) (a : Accepted t s) (h : k ≤ request_count s) where
  decoded : decode (cut k s) ≡ first_requests k (decode s)
  decoded = cut_decodes t s k a h

  cut_seconds : seconds_of (cut k s) ≡ take k (seconds_of s)
  unfolding decode first_requests
  cut_seconds = ap (λ (c : Contents). c.seconds) decoded

  cut_servers : servers_of (cut k s) ≡ take k (servers_of s)
  unfolding decode first_requests
  cut_servers = ap (λ (c : Contents). c.servers) decoded

  pub cut_home : home_of (cut k s) ≡ home_of s
  unfolding decode first_requests header_of
  cut_home = ap (λ (c : Contents). c.header.home) decoded

  pub cut_prices : prices_in t (cut k s) ≡ prices_in t s
  unfolding decode first_requests header_of prices_in
  cut_prices = ap (λ (c : Contents). prices_of t.table c.header.«class») decoded

  -- home and the first k requests are the same
  pub cut_alike : Alike (requests_in (cut k s)) (requests_in s) k
  unfolding requests_in requests
  cut_alike = record { times = times; servers = servers }
    where
      times : (i : ℕ) → i ≤ k → get_or (0 ∷ seconds_of (cut k s)) i 0 ≡ get_or (0 ∷ seconds_of s) i 0
      times zero l = refl
      times (suc i) l = rw cut_seconds (get_or-take k (seconds_of s) i 0 l)

      servers : (i : ℕ) → i ≤ k → get_or (home_of (cut k s) ∷ servers_of (cut k s)) i 0 ≡ get_or (home_of s ∷ servers_of s) i 0
      servers zero l = cut_home
      servers (suc i) l = rw cut_servers (get_or-take k (servers_of s) i 0 l)
