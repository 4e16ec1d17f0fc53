-- The round trips of the log over its calls: what `write` leaves is read as it was given, and what `read` answers is written as it was, or refused with 43.
use Rattle.std.specs.Prelude.{true, false, List, ◌++◌, ◌≡◌, refl, ℕ, ◌-◌, ◌≤◌, ◌<◌, take, replicate, Ok, Err}
use Rattle.base.specs.Refusals.{Verdict}
use Rattle.std.proofs.Math.Path.{sym, ap}
use Rattle.std.proofs.Common.{◌∙◌, arith}
use Rattle.std.proofs.Math.ListN.{length}
use Rattle.std.proofs.Math.Seq.{take_at}
use Rattle.base.specs.Bytes.{AreBytes}
use Rattle.base.specs.Lent.{lent}
use Rattle.base.specs.RefusalLaws.{otherwise_passed}
use Rattle.prices.specs.Offer.{Offer, Sold}
use Rattle.request_log.specs.declared.Header.{Header}
use Rattle.request_log.specs.declared.Decoded.{Decoded}
use Rattle.request_log.specs.Fields.{class_of, header_of, request_count, length_for, seconds_of, servers_of}
use Rattle.request_log.specs.Conditions.{no_longer_sold, Accepted}
use Rattle.request_log.specs.Contents.{Contents, contents, decode, encode}
use Rattle.request_log.specs.Ranges.{Proper}
use Rattle.request_log.specs.Answers.{read_verdict, decoded, seconds_left, servers_left, write_verdict, written, log_left}
use Rattle.request_log.specs.AcceptedLaws.{accepted_judged, accepted_class, accepted_sound, seconds_length, servers_length}
use Rattle.request_log.specs.EncodeLaws.{encode_length, encode_count, encode_header, encode_seconds, encode_servers}
use Rattle.request_log.specs.RoundTrip.{encode_accepted, decode_proper, encode_decode}
use Rattle.request_log.specs.AnswerLaws.{read_passed, read_passes, write_passed, write_passes}
use Rattle.request_log.specs.EndedLaws.{write_refused}

-- the reader's answer where a log is accepted: this header and so many requests
abbrev pub requests_read : Header → ℕ → Decoded
requests_read h n = record { header = h; outcome = Ok n }

-- a length is answered where the verdict passed
length_passed : (v : Verdict) (c : Contents) (n : ℕ) → written v c ≡ Ok n → (v ≡ Ok tt) × (n ≡ length_for (length c.seconds))
unfolding written
length_passed (Ok _) c n e = (refl, let d : n ≡ length_for (length c.seconds) = cc in d)
length_passed (Err r) c n e = let z : ◌≡◌ {A = ℕ} 0 1 = cc in absurd (omega arith)

-- and requests are
requests_passed : (v : Verdict) (log : List ℕ) (h : Header) (n : ℕ) → decoded v log ≡ requests_read h n
    → (v ≡ Ok tt) × (h ≡ header_of log) × (n ≡ request_count log)
unfolding decoded
requests_passed (Ok _) log h n e =
    let o : Ok (request_count log) ≡ Ok n = ap (λ (d : Decoded). d.outcome) e in
    let m : n ≡ request_count log = cc in
    (refl, sym (ap (λ (d : Decoded). d.header) e), m)
requests_passed (Err r) log h n e =
    let o : Err r ≡ Ok n = ap (λ (d : Decoded). d.outcome) e in
    let z : ◌≡◌ {A = ℕ} 0 1 = cc in
    absurd (omega arith)

-- an answer and zeros after it
given : (v : Verdict) (answer entry : List ℕ) → v ≡ Ok tt → lent v answer entry ≡ answer ++ replicate (length entry - length answer) 0
unfolding lent
given v answer entry e = rw e

-- `write` was handed a header, seconds and servers, and answered the length n
module _ (o : Offer) (h : Header) (seconds servers log : List ℕ) (n : ℕ) (sixteen : length h.id ≡ 16)
    (wrote : written (write_verdict o (contents h seconds servers) (length log)) (contents h seconds servers) ≡ Ok n) where
  -- the first n bytes of what it left
  abbrev bytes_left : List ℕ
  bytes_left = take n (log_left o (contents h seconds servers) log)

  proper : Proper (contents h seconds servers)
  proper = (write_passed o (contents h seconds servers) (length log) (length_passed _ _ n wrote).0).1

  -- the price file was not refused, and has the class
  judged : (o.tariff.judged ≡ Ok tt) × (h.«class» < length o.tariff.table)
  unfolding write_verdict
  judged =
      let p = (length_passed _ _ n wrote).0 in
      ((otherwise_passed o.tariff.judged _ p).0, (write_passed o (contents h seconds servers) (length log) p).0.listed)

  -- they are the log that says this
  bytes_are : bytes_left ≡ encode (contents h seconds servers)
  bytes_are =
      let c = contents h seconds servers in
      let (p, m) = length_passed (write_verdict o c (length log)) c n wrote in
      ap (take n) (given (write_verdict o c (length log)) (encode c) log p)
      ∙ take_at (encode c) _ n (encode_length c sixteen ∙ sym m)

  -- read into lists that are long enough, they give the same header and as many requests, and the lists hold the same seconds and servers, then zeros
  pub written_read : (seconds' servers' : List ℕ) → length seconds ≤ length seconds' → length seconds ≤ length servers'
      → (decoded (read_verdict o.tariff bytes_left (length seconds') (length servers')) bytes_left ≡ requests_read h (length seconds))
      × (seconds_left o.tariff bytes_left seconds' servers' ≡ seconds ++ replicate (length seconds' - length seconds) 0)
      × (servers_left o.tariff bytes_left seconds' servers' ≡ servers ++ replicate (length servers' - length servers) 0)
  unfolding decoded
  written_read seconds' servers' p q =
      let c = contents h seconds servers in
      let count = encode_count c (omega (arith, proper.requests_most)) in
      let v : read_verdict o.tariff (encode c) (length seconds') (length servers') ≡ (Ok tt) =
      read_passes o.tariff (encode c) _ _ (encode_accepted o.tariff c judged.0 judged.1 proper sixteen) (omega arith) (omega arith) in
      rw bytes_are (
        rw (v, encode_header c sixteen, count),
        given _ _ seconds' v ∙ rw (encode_seconds c sixteen proper),
        given _ _ servers' v ∙ rw (encode_servers c sixteen proper),
      )

-- `read` was handed bytes, and answered the header h and n requests
module _ (o : Offer) (bytes seconds servers : List ℕ) (h : Header) (n : ℕ) (are_bytes : AreBytes bytes)
    (was_read : decoded (read_verdict o.tariff bytes (length seconds) (length servers)) bytes ≡ requests_read h n) where
  -- that header, and the requests at the front of what it left
  abbrev contents_read : Contents
  contents_read = contents h (take n (seconds_left o.tariff bytes seconds servers)) (take n (servers_left o.tariff bytes seconds servers))

  -- they are what the bytes say
  contents_are : contents_read ≡ decode bytes
  unfolding decode
  contents_are =
      let (v, e, m) = requests_passed (read_verdict o.tariff bytes (length seconds) (length servers)) bytes h n was_read in
      rw (
        e,
        m,
        given (read_verdict o.tariff bytes (length seconds) (length servers)) (seconds_of bytes) seconds v,
        given (read_verdict o.tariff bytes (length seconds) (length servers)) (servers_of bytes) servers v,
        take_at (seconds_of bytes) _ (request_count bytes) (seconds_length bytes),
        take_at (servers_of bytes) _ (request_count bytes) (servers_length bytes),
      )

  -- the log is accepted, and its class is the one read
  accepted : Accepted o.tariff bytes × (h.«class» ≡ class_of bytes)
  unfolding header_of
  accepted =
      let (v, e, m) = requests_passed (read_verdict o.tariff bytes (length seconds) (length servers)) bytes h n was_read in
      ((read_passed o.tariff bytes _ _ v).0, ap (λ (x : Header). x.«class») e)

  -- if its class has not ended: written into a list that is long enough, they give the length of the bytes, and the list holds the bytes, then zeros
  pub read_written : o.ended h.«class» ≡ false → (log : List ℕ) → length bytes ≤ length log
      → (written (write_verdict o contents_read (length log)) contents_read ≡ Ok (length bytes))
      × (log_left o contents_read log ≡ bytes ++ replicate (length log - length bytes) 0)
  unfolding written decode header_of
  read_written going log l =
      let (a, same) = accepted in
      let t = o.tariff in
      let long : length_for (length (seconds_of bytes)) ≡ length bytes = ap length_for (seconds_length bytes) ∙ sym (accepted_sound t bytes a).length_is in
      let sold : Sold o (class_of bytes) = record { listed = accepted_class t bytes a; unended = ap o.ended (sym same) ∙ going } in
      let w : write_verdict o (decode bytes) (length log) ≡ (Ok tt) = write_passes o (decode bytes) _ (accepted_judged t bytes a) sold (decode_proper t bytes a) (omega arith) in
      rw contents_are (rw (w, long), given _ _ log w ∙ rw (encode_decode t bytes a are_bytes))

  -- if it has ended: they are refused with 43, and the list is as it was
  pub read_unwritten : o.ended h.«class» ≡ true → (log : List ℕ)
      → (written (write_verdict o contents_read (length log)) contents_read ≡ Err no_longer_sold) × (log_left o contents_read log ≡ log)
  unfolding written lent
  read_unwritten gone log =
      let (a, same) = accepted in
      let w : write_verdict o contents_read (length log) ≡ Err no_longer_sold =
      write_refused o contents_read (length log) (accepted_judged o.tariff bytes a) (rw same (accepted_class o.tariff bytes a)) gone in
      rw w (refl, refl)
