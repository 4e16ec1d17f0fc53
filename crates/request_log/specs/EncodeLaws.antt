-- What stands in each field of a written log. Assumes nothing.
use mathlib.Core.List.{List, [], ◌∷◌, ◌++◌, append_assoc, append-nil}
use Rattle.std.specs.Prelude.{◌⊎◌, ◌≡◌, get_or}
use Rattle.std.proofs.Common.{inl, inr, ◌∙◌, arith, take_all, get_or-append-add}
use Rattle.std.proofs.Math.Path.{refl, sym, ap}
use Prim.Native.Nat.{ℕ, zero, suc, ◌+◌, ◌*◌, ◌%◌, ◌^◌, ◌≤◌, ◌<◌}
use Rattle.std.proofs.Math.ListN.{length, length-append, get_or-append}
use Rattle.base.specs.Choice.{le_or_lt}
use Rattle.base.specs.Bytes.{byte, le16, le32, bytes}
use Rattle.base.specs.BytesLaws.{le16_bytes, le32_bytes, le16_behind, le32_behind}
use Rattle.base.specs.Lists.{build, build_same, build_read}
use Rattle.checksum.specs.Sum.{sum_from, sum_of}
use Rattle.request_log.specs.Fields.{version, class_of, server_count_of, home_of, request_count, requests_offset, id_offset, total_length, written_sum, id_of, length_for, seconds_of, servers_of, header_of}
use Rattle.request_log.specs.Contents.{Contents, head, request_bytes, requests_bytes, body, encode}
use Rattle.request_log.specs.Ranges.{Proper, Sixteen}

-- ---- the parts of a written log

-- the sum that is written
unfoldable pub sum_for : Contents → ℕ
sum_for c = sum_from 0 (head c.header (length c.seconds) ++ body c.header c.seconds c.servers)

-- a sum is a 32-bit number
pub sum_small : (x : ℕ) (l : List ℕ) → x < 2 ^ 32 → sum_from x l < 2 ^ 32
unfolding sum_from
sum_small x [] h = h
sum_small x (b ∷ bs) h = sum_small ((31 * x + b) % 2 ^ 32) bs (omega arith)

-- a request takes six bytes
pub requests_length : (seconds servers : List ℕ) (k : ℕ) → length (requests_bytes seconds servers k) ≡ 6 * k
unfolding requests_bytes request_bytes
requests_length seconds servers zero = refl
requests_length seconds servers (suc k) = simp length-append (omega (arith, requests_length seconds servers k))

-- the bytes of request i stand behind those of the requests before it
requests_split : (seconds servers : List ℕ) (n i : ℕ) → i < n
    → (rest : List ℕ)
    × (requests_bytes seconds servers n ≡ requests_bytes seconds servers i ++ (request_bytes seconds servers i ++ rest))
unfolding requests_bytes
requests_split seconds servers zero i h = absurd (omega arith)
requests_split seconds servers (suc n) i h = go (le_or_lt n i) (requests_split seconds servers n i)
  where
    Split : ℕ → Type 0
    Split k = (rest : List ℕ) × (requests_bytes seconds servers k ≡ requests_bytes seconds servers i ++ (request_bytes seconds servers i ++ rest))

    go : (n ≤ i) ⊎ (i < n) → (i < n → Split n) → Split (suc n)
    go (inl l) r = let e : n ≡ i = omega arith in ([], rw (e, append-nil (request_bytes seconds servers i)))
    go (inr l) r = let (rest, e) = r l in (rest ++ request_bytes seconds servers n, rw e (simp append_assoc))

-- the log of contents c
module _ (c : Contents) where
  -- the bytes before the id, and how many they are
  before_id : List ℕ
  before_id = head c.header (length c.seconds) ++ bytes 4 (sum_for c)

  before_id_length : length before_id ≡ 24
  unfolding before_id head
  before_id_length = refl

  -- a written log in two parts
  encode_split : encode c ≡ before_id ++ body c.header c.seconds c.servers
  unfolding encode before_id sum_for head
  encode_split = refl

  -- the length
  pub encode_length : Sixteen c → length (encode c) ≡ length_for (length c.seconds)
  unfolding length_for body
  encode_length h =
      ap length encode_split ∙ length-append before_id _ ∙ rw (before_id_length, length-append, requests_length) (omega arith)

  -- ---- the fields before the id

  -- version, class, server count, home, and the zero byte
  pub encode_version : version (encode c) ≡ 1
  unfolding version encode head
  encode_version = refl

  pub encode_class : class_of (encode c) ≡ c.header.«class»
  unfolding class_of encode head
  encode_class = refl

  pub encode_server_count : server_count_of (encode c) ≡ c.header.server_count
  unfolding server_count_of encode head
  encode_server_count = refl

  pub encode_home : home_of (encode c) ≡ c.header.home
  unfolding home_of encode head
  encode_home = refl

  pub encode_zero : byte (encode c) 5 ≡ 0
  unfolding encode head
  encode_zero = refl

  -- the number of requests
  pub encode_count : length c.seconds < 65536 → request_count (encode c) ≡ length c.seconds
  unfolding request_count encode head
  encode_count h = le16_bytes (length c.seconds) [] h

  -- both offsets
  pub encode_requests_offset : requests_offset (encode c) ≡ 40
  unfolding requests_offset encode head
  encode_requests_offset = refl

  pub encode_id_offset : id_offset (encode c) ≡ 24
  unfolding id_offset encode head
  encode_id_offset = refl

  -- the total length
  pub encode_total : length_for (length c.seconds) < 2 ^ 32 → total_length (encode c) ≡ length_for (length c.seconds)
  unfolding total_length encode head
  encode_total h = le32_bytes (length_for (length c.seconds)) [] h

  -- the sum as written, and the sum as it should be
  pub encode_written_sum : written_sum (encode c) ≡ sum_for c
  unfolding written_sum encode head sum_for
  encode_written_sum = le32_bytes (sum_for c) [] (sum_small 0 _ (omega arith))

  pub encode_sum : sum_of (encode c) ≡ sum_for c
  unfolding sum_of encode head sum_for
  encode_sum = refl

-- a list is built from its elements
built : (xs : List ℕ) (n : ℕ) (f : ℕ → ℕ) → length xs ≡ n → ((i : ℕ) → i < n → f i ≡ get_or xs i 0) → build n f ≡ xs
built xs n f e h =
    build_same n f (λ i. get_or xs i 0) h ∙ build_read n xs 0 (omega arith) ∙ take_all n xs (omega arith)

-- the log of contents c with an id of sixteen
module _ (c : Contents) (h : Sixteen c) where
  -- ---- the id and the requests

  -- the id
  pub encode_id : id_of (encode c) ≡ c.header.id
  unfolding id_of body
  encode_id = built c.header.id 16 _ h λ i l.
      rw (encode_split c, ← before_id_length c)
      (get_or-append-add (before_id c) (c.header.id ++ _) i 0 ∙ get_or-append c.header.id _ 0 i (omega arith))

  -- the header whole
  pub encode_header : header_of (encode c) ≡ c.header
  unfolding header_of
  encode_header = rw (encode_class c, encode_server_count c, encode_home c, encode_id)

  -- the bytes of request i stand at 40 + 6 * i
  request_in : (i : ℕ) → i < length c.seconds
      → (before rest : List ℕ) × (length before ≡ 40 + 6 * i)
      × (encode c ≡ before ++ (bytes 4 (get_or c.seconds i 0) ++ (bytes 2 (get_or c.servers i 0) ++ rest)))
  unfolding body request_bytes
  request_in i l =
      let (rest, e) = requests_split c.seconds c.servers (length c.seconds) i l in
      let before : List ℕ = before_id c ++ (c.header.id ++ requests_bytes c.seconds c.servers i) in (
        before,
        rest,
        simp length-append (omega (arith, before_id_length c, requests_length c.seconds c.servers i)),
        encode_split c ∙ rw e (simp append_assoc),
      )

  -- the second and the server of request i
  pub encode_second : (i : ℕ) → i < length c.seconds → get_or c.seconds i 0 < 2 ^ 32
      → le32 (encode c) (40 + 6 * i) ≡ get_or c.seconds i 0
  encode_second i l small =
      let (before, rest, n, e) = request_in i l in
      let at : 40 + 6 * i ≡ length before + 0 = omega arith in
      rw (e, at) (le32_behind before _ 0 ∙ le32_bytes (get_or c.seconds i 0) (bytes 2 (get_or c.servers i 0) ++ rest) small)

  pub encode_server : (i : ℕ) → i < length c.seconds → get_or c.servers i 0 < 65536
      → le16 (encode c) (44 + 6 * i) ≡ get_or c.servers i 0
  encode_server i l small =
      let (before, rest, n, e) = request_in i l in
      let at : 44 + 6 * i ≡ length before + 4 = omega arith in
      rw (e, at) (le16_behind before _ 4 ∙ le16_bytes (get_or c.servers i 0) rest small)

  -- all of them, where they are proper
  module _ (f : Proper c) where
    count : request_count (encode c) ≡ length c.seconds
    count = encode_count c (omega (arith, f.requests_most))

    pub encode_seconds : seconds_of (encode c) ≡ c.seconds
    unfolding seconds_of
    encode_seconds = built c.seconds (request_count (encode c)) _ (sym count) λ i l.
        let k : i < length c.seconds = rw count at l in
        encode_second i k (omega (arith, (f.in_order i k).second_most))

    pub encode_servers : servers_of (encode c) ≡ c.servers
    unfolding servers_of
    encode_servers = built c.servers (request_count (encode c)) _ (f.as_many ∙ sym count) λ i l.
        let k : i < length c.seconds = rw count at l in
        encode_server i k (omega (arith, (f.in_order i k).server_below, f.setup.servers_most))
