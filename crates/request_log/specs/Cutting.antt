-- An accepted log cut to its first k requests is an accepted log that says them (01's 'What demand 3 compares'). Assumes nothing.
use Rattle.std.specs.Prelude.{List, ◌⊎◌, ◌≡◌, refl, ℕ, zero, suc, ◌+◌, ◌≤◌, ◌<◌, length, get_or, take}
use Rattle.std.proofs.Common.{inl, inr, sym, ap, ◌∙◌, arith, take_all, get_or-take}
use Rattle.std.proofs.Math.ListN.{get_or-eq_default}
use Rattle.std.proofs.Math.Seq.{length-take-le}
use Rattle.base.specs.Choice.{le_or_lt}
use Rattle.base.specs.Bytes.{byte, AreBytes}
use Rattle.base.specs.Lists.{build_at}
use Rattle.prices.specs.Tariff.{Tariff}
use Rattle.request_log.specs.Fields.{class_of, request_count, id_of, seconds_of, servers_of, header_of}
use Rattle.request_log.specs.Conditions.{before, Accepted}
use Rattle.request_log.specs.Contents.{Contents, decode, encode, first_requests, cut}
use Rattle.request_log.specs.Ranges.{Proper, Sixteen}
use Rattle.request_log.specs.AcceptedLaws.{accepted_judged, accepted_class, seconds_length, servers_length, id_length}
use Rattle.request_log.specs.EncodeLaws.{encode_count}
use Rattle.request_log.specs.RoundTrip.{decode_encode, encode_accepted, encode_decode, decode_sixteen, decode_proper, encode_bytes}

-- the second before one of the first k requests is among the first k
before_take : (k : ℕ) (seconds : List ℕ) (i : ℕ) → i < k → before (take k seconds) i ≡ before seconds i
unfolding before
before_take k seconds zero h = refl
before_take k seconds (suc i) h = get_or-take k seconds i 0 (omega arith)

-- the first k requests of proper contents are proper
first_proper : (k : ℕ) (c : Contents) → k ≤ length c.seconds → Proper c → Proper (first_requests k c)
unfolding first_requests
first_proper k c h f = record {
  setup = f.setup;
  requests_most = rw many (omega (arith, f.requests_most));
  as_many = length-take-le k c.servers (omega (arith, f.as_many)) ∙ sym many;
  in_order = rw many λ i l.
      let o = f.in_order i (omega arith) in
      let server = get_or-take k c.servers i 0 l in
      let second = get_or-take k c.seconds i 0 l in
      let earlier = before_take k c.seconds i l in
      omega (arith, o);
}
  where
    many : length (take k c.seconds) ≡ k
    many = length-take-le k c.seconds h

-- an accepted log s, and k of its requests
module _ (t : Tariff) (s : List ℕ) (k : ℕ) (a : Accepted t s) (h : k ≤ request_count s) where
  -- the first k are proper
  cut_proper : Proper (first_requests k (decode s))
  unfolding decode
  cut_proper = first_proper k (decode s) (rw (seconds_length s) h) (decode_proper t s a)

  cut_sixteen : Sixteen (first_requests k (decode s))
  unfolding first_requests
  cut_sixteen = decode_sixteen s

  -- a cut log is accepted
  pub cut_accepted : Accepted t (cut k s)
  unfolding cut first_requests decode header_of
  cut_accepted = encode_accepted t _ (accepted_judged t s a) (accepted_class t s a) cut_proper cut_sixteen

  -- it says the first k requests, with the same header
  pub cut_decodes : decode (cut k s) ≡ first_requests k (decode s)
  unfolding cut
  cut_decodes = decode_encode _ cut_proper cut_sixteen

  -- it has k requests
  pub cut_count : request_count (cut k s) ≡ k
  unfolding cut first_requests decode
  cut_count =
      encode_count (first_requests k (decode s)) (omega (arith, cut_proper.requests_most))
      ∙ length-take-le k (seconds_of s) (omega (arith, seconds_length s))

-- the id of a log of bytes is of bytes
id_bytes : (s : List ℕ) → AreBytes s → AreBytes (id_of s)
unfolding id_of
id_bytes s b i = go (le_or_lt 16 i)
  where
    go : (16 ≤ i) ⊎ (i < 16) → get_or (id_of s) i 0 < 256
    go (inl l) = omega (arith, get_or-eq_default (id_of s) 0 {n = i} (rw (id_length s) l))
    go (inr l) = omega (arith, build_at 16 (λ j. byte s (24 + j)) i 0 l, b (24 + i))

-- a cut log of bytes is of bytes
pub cut_bytes : (t : Tariff) (s : List ℕ) (k : ℕ) → Accepted t s → k ≤ request_count s → AreBytes s → AreBytes (cut k s)
unfolding cut first_requests decode header_of class_of
cut_bytes t s k a h b = encode_bytes _ (b 2) (cut_proper t s k a h) (id_bytes s b)

-- all requests of a log are those it says
first_all : (s : List ℕ) → first_requests (request_count s) (decode s) ≡ decode s
unfolding first_requests decode
first_all s =
    rw (
      take_all (request_count s) (seconds_of s) (omega (arith, seconds_length s)),
      take_all (request_count s) (servers_of s) (omega (arith, servers_length s)),
    )

-- a log of bytes cut to all its requests is the log
pub cut_all : (t : Tariff) (s : List ℕ) → Accepted t s → AreBytes s → cut (request_count s) s ≡ s
unfolding cut
cut_all t s a b = ap encode (first_all s) ∙ encode_decode t s a b
