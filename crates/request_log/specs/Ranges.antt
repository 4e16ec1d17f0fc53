-- What is in range, in plain facts: a setup, a request, a log, what is to be written. Assumes nothing.
use Rattle.std.specs.Prelude.{◌≡◌, List, ℕ, ◌≤◌, ◌<◌, get_or, length, Ok}
use Rattle.base.specs.Bytes.{byte}
use Rattle.base.specs.Refusals.{first}
use Rattle.prices.specs.Offer.{Offer}
use Rattle.checksum.specs.Sum.{sum_of}
use Rattle.request_log.specs.declared.Setup.{Setup}
use Rattle.request_log.specs.Sizes.{most_requests}
use Rattle.request_log.specs.Fields.{version, server_count_of, setup_of, request_count, requests_offset, id_offset, total_length, written_sum, length_for, seconds_of, servers_of}
use Rattle.request_log.specs.Conditions.{before}
use Rattle.request_log.specs.Contents.{Contents, setup_in, contents_conditions}

-- server count and home are in range
pub record Allowed (s : Setup) : Type 0 where
  pub servers_least : 1 ≤ s.server_count
  pub servers_most : s.server_count ≤ 64
  pub home_below : s.home < s.server_count

-- request i is in range, and later than the one before
pub record InOrder (count : ℕ) (seconds servers : List ℕ) (i : ℕ) : Type 0 where
  pub server_below : get_or servers i 0 < count
  pub second_least : 1 ≤ get_or seconds i 0
  pub second_most : get_or seconds i 0 ≤ 4000000
  pub later : before seconds i < get_or seconds i 0

-- a log that is as the format says, of any class
pub record Sound (s : List ℕ) : Type 0 where
  pub version_is : version s ≡ 1
  pub setup : Allowed (setup_of s)
  pub zero_is : byte s 5 ≡ 0
  pub requests_most : request_count s ≤ most_requests
  pub requests_at : requests_offset s ≡ 40
  pub id_at : id_offset s ≡ 24
  pub total_is : total_length s ≡ length_for (request_count s)
  pub length_is : length s ≡ length_for (request_count s)
  pub sum_is : written_sum s ≡ sum_of s
  pub in_order : (i : ℕ) → i < request_count s → InOrder (server_count_of s) (seconds_of s) (servers_of s) i

-- contents that a log can say, of any class
pub record Proper (c : Contents) : Type 0 where
  pub setup : Allowed (setup_in c.header)
  pub requests_most : length c.seconds ≤ most_requests
  pub as_many : length c.servers ≡ length c.seconds
  pub in_order : (i : ℕ) → i < length c.seconds → InOrder c.header.server_count c.seconds c.servers i

-- contents that the writer does not refuse
abbrev pub Writable : Offer → Contents → Type 0
Writable o c = first (contents_conditions o c) ≡ Ok tt

-- the id has sixteen elements
abbrev pub Sixteen : Contents → Type 0
Sixteen c = length c.header.id ≡ 16
