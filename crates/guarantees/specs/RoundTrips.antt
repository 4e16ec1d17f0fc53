-- The round trips of the log: what is written is read back, what was read is written as it was, if its class is sold, and a cut log says the first requests.
use Rattle.std.specs.Prelude.{List, ◌↔◌, ◌≡◌, ℕ, ◌≤◌, ◌<◌, length, Ok}
use Rattle.base.specs.Bytes.{AreBytes}
use Rattle.prices.specs.Tariff.{Tariff}
use Rattle.prices.specs.Offer.{Offer, Sold}
use Rattle.request_log.specs.Fields.{request_count}
use Rattle.request_log.specs.Conditions.{Accepted}
use Rattle.request_log.specs.Contents.{Contents, decode, encode, first_requests, cut}
use Rattle.request_log.specs.Ranges.{Proper, Writable, Sixteen}
use Rattle.request_log.specs.AcceptedLaws.{writable_proper}
use Rattle.request_log.specs.RoundTrip.{decode_encode, encode_accepted, encode_bytes, decode_proper, encode_decode}
use Rattle.request_log.specs.Cutting.{cut_accepted, cut_decodes, cut_bytes, cut_all}

-- by any offer, the writer takes exactly the headers and lists of requests that are in range and of a class that is sold
pub taken_in_range : (o : Offer) (c : Contents) → Writable o c ↔ (Sold o c.header.«class» × Proper c)
taken_in_range = writable_proper

-- the log that says what is in range is accepted, where its price file is not refused and has its class
pub written_accepted : (t : Tariff) (c : Contents) → t.judged ≡ Ok tt → c.header.«class» < length t.table → Proper c → Sixteen c → Accepted t (encode c)
written_accepted = encode_accepted

-- it is made of bytes, as class and id are
pub written_bytes : (c : Contents) → c.header.«class» < 256 → Proper c → AreBytes c.header.id → AreBytes (encode c)
written_bytes = encode_bytes

-- it is read back as it was given
pub written_reads_back : (c : Contents) → Proper c → Sixteen c → decode (encode c) ≡ c
written_reads_back = decode_encode

-- what an accepted log says is in range
pub read_in_range : (t : Tariff) (log : List ℕ) → Accepted t log → Proper (decode log)
read_in_range = decode_proper

-- its bytes are those that say this
pub read_writes_back : (t : Tariff) (log : List ℕ) → Accepted t log → AreBytes log → encode (decode log) ≡ log
read_writes_back = encode_decode

-- an accepted log cut to its first k requests is accepted
pub cut_is_accepted : (t : Tariff) (log : List ℕ) (k : ℕ) → Accepted t log → k ≤ request_count log → Accepted t (cut k log)
cut_is_accepted = cut_accepted

-- it says the first k requests, with the same header
pub cut_says : (t : Tariff) (log : List ℕ) (k : ℕ) → Accepted t log → k ≤ request_count log → decode (cut k log) ≡ first_requests k (decode log)
cut_says = cut_decodes

-- it is made of bytes, as the log is
pub cut_is_bytes : (t : Tariff) (log : List ℕ) (k : ℕ) → Accepted t log → k ≤ request_count log → AreBytes log → AreBytes (cut k log)
cut_is_bytes = cut_bytes

-- cut to all its requests a log stays as it is
pub cut_to_all : (t : Tariff) (log : List ℕ) → Accepted t log → AreBytes log → cut (request_count log) log ≡ log
cut_to_all = cut_all
