-- What a log says, read from its bytes and written to them. Assumes nothing.
use Rattle.std.specs.Prelude.{not, List, [], ◌∷◌, ◌++◌, ℕ, zero, suc, ltb, eqb, get_or, length, take}
use Rattle.base.specs.declared.reasons.Reason.TheVariants as reason
use Rattle.base.specs.Choice.{either}
use Rattle.base.specs.Refusals.{Condition, refuse, each}
use Rattle.base.specs.Bytes.{bytes}
use Rattle.prices.specs.Offer.{Offer}
use Rattle.checksum.specs.Sum.{sum_from}
use Rattle.request_log.specs.declared.Setup.{Setup}
use Rattle.request_log.specs.declared.Header.{Header}
use Rattle.request_log.specs.Sizes.{most_requests}
use Rattle.request_log.specs.Fields.{header_of, seconds_of, servers_of, length_for}
use Rattle.request_log.specs.Conditions.{offered_conditions, request_conditions}

-- a header, and the seconds and servers of its requests
pub record Contents : Type 0 where
  pub header : Header
  pub seconds : List ℕ
  pub servers : List ℕ

abbrev pub contents : Header → List ℕ → List ℕ → Contents
contents h seconds servers = record { header = h; seconds = seconds; servers = servers }

-- what the bytes of a log say
unfoldable pub decode : List ℕ → Contents
decode s = record { header = header_of s; seconds = seconds_of s; servers = servers_of s }

-- bytes 0 to 19, for n requests
unfoldable pub head : Header → ℕ → List ℕ
head h n =
    bytes 2 1
    ++ (h.«class» ∷ h.server_count ∷ h.home ∷ 0 ∷ (bytes 2 n ++ (bytes 4 40 ++ (bytes 4 24 ++ bytes 4 (length_for n)))))

-- the six bytes of request k, and those of the first k requests
unfoldable pub request_bytes : List ℕ → List ℕ → ℕ → List ℕ
request_bytes seconds servers k = bytes 4 (get_or seconds k 0) ++ bytes 2 (get_or servers k 0)

unfoldable pub requests_bytes : List ℕ → List ℕ → ℕ → List ℕ
requests_bytes seconds servers zero = []
requests_bytes seconds servers (suc k) = requests_bytes seconds servers k ++ request_bytes seconds servers k

-- the bytes from 24 on: the id, then the requests
unfoldable pub body : Header → List ℕ → List ℕ → List ℕ
body h seconds servers = h.id ++ requests_bytes seconds servers (length seconds)

-- the log that says this: between head and body stands the sum of both
unfoldable pub encode : Contents → List ℕ
encode c =
    let a = head c.header (length c.seconds) in
    let b = body c.header c.seconds c.servers in
    a ++ (bytes 4 (sum_from 0 (a ++ b)) ++ b)

-- what a header says that its file is served under: all but the id
abbrev pub setup_in : Header → Setup
setup_in h = record { «class» = h.«class»; server_count = h.server_count; home = h.home }

-- what the writer refuses: 3, 43, 4, 5, then 7 above 2,048 requests or lists of unequal length, and 11 to 13 request by request
unfoldable pub contents_conditions : Offer → Contents → List Condition
contents_conditions o c =
    offered_conditions o (setup_in c.header)
    ++ (refuse reason.RequestCount 0 (either (ltb most_requests (length c.seconds)) (not (eqb (length c.seconds) (length c.servers))))
    ∷ each (request_conditions c.header.server_count c.seconds c.servers) (length c.seconds))

-- the first k requests, with the same header (01's 'What demand 3 compares': cut)
unfoldable pub first_requests : ℕ → Contents → Contents
first_requests k c = record { header = c.header; seconds = take k c.seconds; servers = take k c.servers }

-- a log cut to its first k requests: count, length and sum are made to fit
unfoldable pub cut : ℕ → List ℕ → List ℕ
cut k s = encode (first_requests k (decode s))
