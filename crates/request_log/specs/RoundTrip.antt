-- What is written is read back, and what was read is written as it was. Assumes nothing.
use mathlib.Core.List.{List, [], ◌∷◌, ◌++◌, append_assoc, append-nil}
use Rattle.std.specs.Prelude.{◌≡◌, length, get_or, drop, Ok}
use Rattle.std.proofs.Math.Path.{refl, sym, ap}
use Rattle.std.proofs.Common.{◌∙◌, take-append-drop, drop_at, length-take-le, take_all, take-suc}
use Prim.Native.Nat.{ℕ, zero, suc, ◌+◌, ◌*◌, ◌≤◌, ◌<◌}
use native.Mathlib.Omega.{arith}
use Rattle.std.proofs.Math.ListN.{take}
use Rattle.std.proofs.Math.Seq.{take-add}
use Rattle.base.specs.Bytes.{byte, le16, le32, bytes, AreBytes}
use Rattle.base.specs.BytesLaws.{bytes_small, bytes_le16, bytes_le32}
use Rattle.prices.specs.Tariff.{Tariff}
use Rattle.checksum.specs.Sum.{sum_of}
use Rattle.request_log.specs.declared.Header.{Header}
use Rattle.request_log.specs.Fields.{version, class_of, server_count_of, home_of, request_count, requests_offset, id_offset, total_length, written_sum, id_of, length_for, seconds_of, servers_of, header_of}
use Rattle.request_log.specs.Conditions.{Accepted}
use Rattle.request_log.specs.Contents.{Contents, decode, head, request_bytes, requests_bytes, body, setup_in, encode}
use Rattle.request_log.specs.Ranges.{Allowed, Sound, Proper, Sixteen}
use Rattle.request_log.specs.AcceptedLaws.{accepted_sound, sound_accepted, seconds_length, servers_length, second_at, server_at, id_length, id_taken}
use Rattle.request_log.specs.EncodeLaws.{encode_length, encode_version, encode_class, encode_server_count, encode_home, encode_zero, encode_requests_offset, encode_id_offset, encode_total, encode_written_sum, encode_sum, encode_count, encode_header, encode_seconds, encode_servers}

-- ---- writing, then reading

-- what is written is read back
pub decode_encode : (c : Contents) → Proper c → Sixteen c → decode (encode c) ≡ c
unfolding decode
decode_encode c f h = rw (encode_header c h, encode_seconds c h f, encode_servers c h f)

-- what is written is accepted
pub encode_accepted : (t : Tariff) (c : Contents) → t.judged ≡ Ok tt → c.header.«class» < length t.table → Proper c → Sixteen c → Accepted t (encode c)
unfolding length_for
encode_accepted t c j l f h =
    let count = encode_count c (omega (arith, f.requests_most)) in
    let total = encode_total c (omega (arith, f.requests_most)) in
    sound_accepted t (encode c) j (rw (encode_class c) l) (record {
      version_is = encode_version c;
      setup = rw (encode_class c, encode_server_count c, encode_home c) f.setup;
      zero_is = encode_zero c;
      requests_most = rw count f.requests_most;
      requests_at = encode_requests_offset c;
      id_at = encode_id_offset c;
      total_is = rw count total;
      length_is = rw count (encode_length c h);
      sum_is = encode_written_sum c ∙ sym (encode_sum c);
      in_order = rw (count, encode_server_count c, encode_seconds c h f, encode_servers c h f) f.in_order;
    })

-- ---- reading, then writing

-- the id that was read has sixteen elements
pub decode_sixteen : (s : List ℕ) → Sixteen (decode s)
unfolding decode header_of
decode_sixteen s = id_length s

-- what was read from an accepted log is proper
pub decode_proper : (t : Tariff) (s : List ℕ) → Accepted t s → Proper (decode s)
unfolding decode header_of
decode_proper t s a =
    let f = accepted_sound t s a in
    record {
      setup = f.setup;
      requests_most = rw (seconds_length s) f.requests_most;
      as_many = servers_length s ∙ sym (seconds_length s);
      in_order = rw (seconds_length s) f.in_order;
    }

-- a sound log of bytes, part by part
module _ (s : List ℕ) (f : Sound s) (b : AreBytes s) where
  -- one more byte, two-byte number or four-byte number of the log
  one_more : (i x : ℕ) → i < length s → byte s i ≡ x → take (suc i) s ≡ take i s ++ (x ∷ [])
  one_more i x h e = take-suc s i 0 h ∙ ap (λ (y : ℕ). take i s ++ (y ∷ [])) e

  two_more : (i x : ℕ) → i + 2 ≤ length s → le16 s i ≡ x → take (i + 2) s ≡ take i s ++ bytes 2 x
  two_more i x h e = take-add i 2 s ∙ ap (λ (l : List ℕ). take i s ++ l) (sym (bytes_le16 s i b h) ∙ ap (bytes 2) e)

  four_more : (i x : ℕ) → i + 4 ≤ length s → le32 s i ≡ x → take (i + 4) s ≡ take i s ++ bytes 4 x
  four_more i x h e = take-add i 4 s ∙ ap (λ (l : List ℕ). take i s ++ l) (sym (bytes_le32 s i b h) ∙ ap (bytes 4) e)

  -- it has all its bytes
  long : 40 + 6 * request_count s ≡ length s
  unfolding length_for
  long = sym f.length_is

  -- the bytes before the sum
  head_read : take 20 s ≡ head (header_of s) (request_count s)
  unfolding version class_of server_count_of home_of request_count requests_offset id_offset total_length head header_of
  head_read =
      rw (
        four_more 16 _ (omega (arith, long)) f.total_is,
        four_more 12 _ (omega (arith, long)) f.id_at,
        four_more 8 _ (omega (arith, long)) f.requests_at,
        two_more 6 (request_count s) (omega (arith, long)) refl,
        one_more 5 _ (omega (arith, long)) f.zero_is,
        one_more 4 (home_of s) (omega (arith, long)) refl,
        one_more 3 (server_count_of s) (omega (arith, long)) refl,
        one_more 2 (class_of s) (omega (arith, long)) refl,
        two_more 0 _ (omega (arith, long)) f.version_is,
      )

  -- the id
  id_read : take 40 s ≡ take 24 s ++ id_of s
  id_read = take-add 24 16 s ∙ ap (λ (l : List ℕ). take 24 s ++ l) (sym (id_taken s (omega (arith, long))))

  -- the first k requests
  requests_read : (k : ℕ) → k ≤ request_count s
      → take (40 + 6 * k) s ≡ take 40 s ++ requests_bytes (seconds_of s) (servers_of s) k
  unfolding requests_bytes request_bytes
  requests_read zero h = sym (append-nil (take 40 s))
  requests_read (suc k) h =
      let e : 40 + 6 * suc k ≡ 40 + 6 * k + 4 + 2 = omega arith in
      let at : 40 + 6 * k + 4 ≡ 44 + 6 * k = omega arith in
      rw (
        e,
        two_more (40 + 6 * k + 4) _ (omega (arith, long)) (ap (le16 s) at ∙ sym (server_at s k h)),
        four_more (40 + 6 * k) _ (omega (arith, long)) (sym (second_at s k h)),
        requests_read k (omega arith),
      )
      (simp append_assoc)

  -- all of the log
  whole : take 24 s ++ body (header_of s) (seconds_of s) (servers_of s) ≡ s
  unfolding body header_of
  whole =
      sym (append_assoc (take 24 s) (id_of s) _)
      ∙ rw (seconds_length s, ← id_read, ← requests_read (request_count s) (omega arith)) (take_all (40 + 6 * request_count s) s (omega (arith, long)))

  -- the bytes behind the sum
  body_read : drop 24 s ≡ body (header_of s) (seconds_of s) (servers_of s)
  body_read = ap (drop 24) (sym whole) ∙ drop_at (take 24 s) _ 24 (length-take-le 24 s (omega (arith, long)))

  -- the sum
  sum_read : take 24 s ≡ take 20 s ++ bytes 4 (sum_of s)
  unfolding written_sum
  sum_read = four_more 20 (sum_of s) (omega (arith, long)) f.sum_is

  -- the parts put together
  encode_read : encode (decode s) ≡ s
  unfolding encode decode sum_of
  encode_read =
      rw (seconds_length s, ← head_read, ← body_read)
      (sym (append_assoc (take 20 s) (bytes 4 (sum_of s)) (drop 24 s)) ∙ rw (← sum_read) (take-append-drop 24 s))

-- an accepted log of bytes is written as it was
pub encode_decode : (t : Tariff) (s : List ℕ) → Accepted t s → AreBytes s → encode (decode s) ≡ s
encode_decode t s a b = encode_read s (accepted_sound t s a) b

-- ---- what is written are bytes

-- every element is a byte, along the list
data Bytes : List ℕ → Type 0 where
  none : Bytes []
  more : {x : ℕ} {xs : List ℕ} → x < 256 → Bytes xs → Bytes (x ∷ xs)

-- the two ways to say so
bytes_of : (xs : List ℕ) → AreBytes xs → Bytes xs
bytes_of [] b = none
bytes_of (x ∷ xs) b = more (b 0) (bytes_of xs (λ i. b (suc i)))

bytes_at : {xs : List ℕ} → Bytes xs → AreBytes xs
bytes_at none i = omega arith
bytes_at (more h b) zero = h
bytes_at (more h b) (suc i) = bytes_at b i

-- two lists of bytes
joined : {xs ys : List ℕ} → Bytes xs → Bytes ys → Bytes (xs ++ ys)
joined none c = c
joined (more h b) c = more h (joined b c)

-- the bytes of a number, of requests, and those before the sum
number : (n x : ℕ) → Bytes (bytes n x)
number n x = bytes_of (bytes n x) (bytes_small n x)

requests_are : (seconds servers : List ℕ) (k : ℕ) → Bytes (requests_bytes seconds servers k)
unfolding requests_bytes request_bytes
requests_are seconds servers zero = none
requests_are seconds servers (suc k) =
    joined (requests_are seconds servers k) (joined (number 4 (get_or seconds k 0)) (number 2 (get_or servers k 0)))

head_is : (h : Header) (n : ℕ) → h.«class» < 256 → Allowed (setup_in h) → Bytes (head h n)
unfolding head
head_is h n small f =
    joined (number 2 1) (more (omega arith) (more (omega arith) (more (omega arith) (more (omega arith)
    (joined (number 2 n) (joined (number 4 40) (joined (number 4 24) (number 4 (length_for n)))))))))

-- what is written are bytes, if class and id are
pub encode_bytes : (c : Contents) → c.header.«class» < 256 → Proper c → AreBytes c.header.id → AreBytes (encode c)
unfolding encode body
encode_bytes c small f b =
    bytes_at (joined (head_is c.header (length c.seconds) small f.setup)
    (joined (number 4 _) (joined (bytes_of c.header.id b) (requests_are c.seconds c.servers (length c.seconds)))))
