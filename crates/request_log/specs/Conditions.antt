-- The conditions 1 to 13 of 01's 'Refused because of the input', in its order, and 02's 43 after 3. Assumes nothing.
use Rattle.std.specs.Prelude.{not, List, [], ◌∷◌, ◌++◌, ◌≡◌, ℕ, zero, suc, leb, ltb, eqb, get_or, length, Ok}
use Rattle.base.specs.declared.reasons.Reason.TheVariants as reason
use Rattle.base.specs.Choice.{either}
use Rattle.base.specs.Refusals.{Condition, refuse, first, otherwise, each, Verdict}
use Rattle.base.specs.declared.Refusal.{Refusal}
use Rattle.base.specs.Bytes.{byte}
use Rattle.prices.specs.declared.Prices.{Prices}
use Rattle.prices.specs.Tariff.{Tariff}
use Rattle.prices.specs.Offer.{Offer}
use Rattle.checksum.specs.Sum.{sum_of}
use Rattle.request_log.specs.declared.Setup.{Setup}
use Rattle.request_log.specs.Sizes.{most_requests}
use Rattle.request_log.specs.Fields.{version, server_count_of, setup_of, request_count, requests_offset, id_offset, total_length, written_sum, length_for, seconds_of, servers_of}

-- 3 asks for a class of the table
abbrev pub class_condition : List Prices → Setup → Condition
class_condition table s = refuse reason.UnknownClass 0 (leb (length table) s.«class»)

-- 4 asks for 1 to 64 servers, 5 for a home among them
abbrev pub servers_conditions : Setup → List Condition
servers_conditions s =
    refuse reason.ServerCount 0 (either (eqb s.server_count 0) (ltb 64 s.server_count))
    ∷ refuse reason.Home 0 (leb s.server_count s.home)
    ∷ []

-- of a log that there is: 3 to 5
unfoldable pub setup_conditions : List Prices → Setup → List Condition
setup_conditions table s = class_condition table s ∷ servers_conditions s

-- 43, whose place is 0
abbrev pub no_longer_sold : Refusal
no_longer_sold = record { reason = reason.EndedClass; place = 0 }

-- of what is to be written or started: 43, a class that is no longer sold, right after 3
unfoldable pub offered_conditions : Offer → Setup → List Condition
offered_conditions o s = class_condition o.tariff.table s ∷ refuse reason.EndedClass 0 (o.ended s.«class») ∷ servers_conditions s

-- 1 under 40 bytes; 2 version not 1; 3 to 5; 6 byte 5 not zero; 7 request count above 2,048; 8 an offset or the total not as the
-- format says
abbrev pub head_conditions : List Prices → List ℕ → List Condition
head_conditions table s =
    refuse reason.ShortLog 0 (ltb (length s) 40)
    ∷ refuse reason.Version 0 (not (eqb (version s) 1))
    ∷ (setup_conditions table (setup_of s)
    ++ (refuse reason.SpareByte 0 (not (eqb (byte s 5) 0))
    ∷ refuse reason.RequestCount 0 (ltb most_requests (request_count s))
    ∷ refuse reason.Layout 0
    (either (not (eqb (requests_offset s) 40))
    (either (not (eqb (id_offset s) 24)) (not (eqb (total_length s) (length_for (request_count s))))))
    ∷ []))

-- 1 to 8, then 9 file length not the total
abbrev pub form_conditions : List Prices → List ℕ → List Condition
form_conditions table s = head_conditions table s ++ (refuse reason.Length 0 (not (eqb (length s) (total_length s))) ∷ [])

-- 1 to 9, then 10 the sum
unfoldable pub header_conditions : List Prices → List ℕ → List Condition
header_conditions table s = form_conditions table s ++ (refuse reason.Sum 0 (not (eqb (written_sum s) (sum_of s))) ∷ [])

-- the second before request i, from 0; 0 before the first
unfoldable pub before : List ℕ → ℕ → ℕ
before seconds zero = 0
before seconds (suc i) = get_or seconds i 0

-- 11 asks for a server that there is, 12 for a second from 1 to 4,000,000, 13 for a later one than the request before
abbrev pub request_check : ℕ → ℕ → ℕ → ℕ → ℕ → List Condition
request_check count server second earlier place =
    refuse reason.UnknownServer place (leb count server)
    ∷ refuse reason.SecondRange place (either (eqb second 0) (ltb 4000000 second))
    ∷ refuse reason.NotLater place (leb second earlier)
    ∷ []

-- the conditions on request i from 0, whose place is counted from 1
unfoldable pub request_conditions : ℕ → List ℕ → List ℕ → ℕ → List Condition
request_conditions count seconds servers i =
    request_check count (get_or servers i 0) (get_or seconds i 0) (before seconds i) (suc i)

-- all conditions on a log: the header's, then request by request
unfoldable pub log_conditions : List Prices → List ℕ → List Condition
log_conditions table s =
    header_conditions table s
    ++ each (request_conditions (server_count_of s) (seconds_of s) (servers_of s)) (request_count s)

-- what a log's header is answered: what its price file is, else refused by the first of 1 to 8 that holds
unfoldable pub head_verdict : Tariff → List ℕ → Verdict
head_verdict t s = otherwise t.judged (first (head_conditions t.table s))

-- what the bytes of a log are answered: what its price file is, else refused by the first condition that holds
unfoldable pub verdict_of : Tariff → List ℕ → Verdict
verdict_of t s = otherwise t.judged (first (log_conditions t.table s))

-- an accepted log: no condition holds
unfoldable pub Accepted : Tariff → List ℕ → Type 0
Accepted t s = verdict_of t s ≡ Ok tt
