-- What the answers of reader and writer mean, of the log and of lent outputs.
use Rattle.std.specs.Prelude.{Bool, List, [], ◌∷◌, ◌++◌, ◌≡◌, refl, ℕ, ◌+◌, ◌*◌, ◌≤◌, length, Ok, Err}
use Rattle.std.proofs.Common.{sym, ap, ◌∙◌, arith, ltb-false, le-ltb}
use Rattle.base.specs.Refusals.{first, otherwise, short, Verdict}
use Rattle.base.specs.RefusalLaws.{otherwise_assoc, otherwise_passed, append_passed, first_passed, first_append}
use Rattle.base.specs.declared.Refusal.{Refusal}
use Rattle.prices.specs.Tariff.{Tariff}
use Rattle.prices.specs.Offer.{Offer, offer, Sold}
use Rattle.request_log.specs.declared.Decoded.{Decoded}
use Rattle.request_log.specs.Sizes.{most_requests}
use Rattle.request_log.specs.Fields.{request_count, length_for, header_of}
use Rattle.request_log.specs.Conditions.{offered_conditions, log_conditions, verdict_of, Accepted}
use Rattle.request_log.specs.Contents.{Contents, contents_conditions}
use Rattle.request_log.specs.Answers.{read_verdict, header_in, decoded, write_verdict}
use Rattle.request_log.specs.AcceptedLaws.{accepted_sound, writable_proper}
use Rattle.request_log.specs.ConditionLaws.{after_log}
use Rattle.request_log.specs.Ranges.{Proper}

-- the reader's verdict and the writer's part by part, as the code comes by them
pub read_parts : (t : Tariff) (s : List ℕ) (seconds servers : ℕ)
    → read_verdict t s seconds servers ≡ otherwise (verdict_of t s) (first (short (request_count s) seconds ∷ short (request_count s) servers ∷ []))
unfolding read_verdict
read_parts t s seconds servers = after_log t s (short (request_count s) seconds ∷ short (request_count s) servers ∷ [])

pub write_parts : (o : Offer) (c : Contents) (log : ℕ)
    → write_verdict o c log ≡ otherwise (otherwise o.tariff.judged (first (contents_conditions o c))) (first (short (length_for (length c.seconds)) log ∷ []))
unfolding write_verdict
write_parts o c log =
    ap (otherwise o.tariff.judged) (first_append (contents_conditions o c) _) ∙ otherwise_assoc o.tariff.judged (first (contents_conditions o c)) _

-- of what is offered the writer asks only whether the one class has ended
pub write_ended : (ended : Bool) (o : Offer) (c : Contents) (log : ℕ) → ended ≡ o.ended c.header.«class»
    → write_verdict (offer o.tariff (λ class. ended)) c log ≡ write_verdict o c log
unfolding write_verdict contents_conditions offered_conditions
write_ended ended o c log e = rw e

-- a log that is read is accepted, and both lists are long enough
pub read_passed : (t : Tariff) (s : List ℕ) (seconds servers : ℕ) → read_verdict t s seconds servers ≡ Ok tt
    → Accepted t s × (request_count s ≤ seconds) × (request_count s ≤ servers)
unfolding read_verdict verdict_of Accepted
read_passed t s seconds servers e =
    let (j, all) = otherwise_passed t.judged _ e in
    let parts = (append_passed (log_conditions t.table s) _).0 all in
    let room = (first_passed (short (request_count s) seconds ∷ short (request_count s) servers ∷ [])).0 parts.1 in
    (rw j parts.0, ltb-false seconds (request_count s) (room 0), ltb-false servers (request_count s) (room 1))

-- an accepted log is read into lists that are long enough
pub read_passes : (t : Tariff) (s : List ℕ) (seconds servers : ℕ) → Accepted t s → request_count s ≤ seconds → request_count s ≤ servers
    → read_verdict t s seconds servers ≡ Ok tt
unfolding read_verdict verdict_of Accepted first
read_passes t s seconds servers a p q =
    let (j, all) = otherwise_passed t.judged _ a in
    rw j ((append_passed (log_conditions t.table s) _).1 (all, rw (le-ltb seconds (request_count s) p, le-ltb servers (request_count s) q)))

-- lists of the most requests are long enough for the requests of every accepted log
pub read_long : (t : Tariff) (s : List ℕ) (a b : ℕ) → a ≡ most_requests → b ≡ most_requests → read_verdict t s a b ≡ verdict_of t s
unfolding read_verdict verdict_of Accepted first
read_long t s a b e f = ap (otherwise t.judged) (first_append (log_conditions t.table s) _) ∙ go t.judged refl (first (log_conditions t.table s)) refl
  where
    two : Accepted t s → first (short (request_count s) a ∷ short (request_count s) b ∷ []) ≡ Ok tt
    two z =
        let m = (accepted_sound t s z).requests_most in
        rw (le-ltb a (request_count s) (omega arith), le-ltb b (request_count s) (omega arith))

    go : (u : Verdict) → t.judged ≡ u → (v : Verdict) → first (log_conditions t.table s) ≡ v
        → otherwise u (otherwise v (first (short (request_count s) a ∷ short (request_count s) b ∷ []))) ≡ otherwise u v
    go (Err r) y v z = refl
    go (Ok _) y (Err r) z = refl
    go (Ok _) y (Ok _) z = two (rw y z)

-- an accepted log has all bytes of its header
pub accepted_header : (t : Tariff) (s : List ℕ) → Accepted t s → header_in s ≡ header_of s
unfolding header_in length_for
accepted_header t s a = rw (le-ltb (length s) 40 (omega (arith, (accepted_sound t s a).length_is)))

-- a reader's answer that has a number of requests: the log is accepted, and has as many
pub decoded_requests : (v : Verdict) (log : List ℕ) (d : Decoded) (n : ℕ) → d ≡ decoded v log → d.outcome ≡ Ok n
    → (v ≡ Ok tt) × (n ≡ request_count log) × (d.header ≡ header_of log)
unfolding decoded
decoded_requests (Ok _) log d n e f =
    let z : n ≡ request_count log = cc in
    (refl, z, ap (λ (x : Decoded). x.header) e)
decoded_requests (Err r) log d n e f = absurd (let z : ◌≡◌ {A = ℕ} 0 1 = cc in omega arith)

-- one that refuses: so does the log's verdict
pub decoded_refused : (v : Verdict) (log : List ℕ) (d : Decoded) (r : Refusal) → d ≡ decoded v log → d.outcome ≡ Err r → v ≡ Err r
unfolding decoded
decoded_refused (Ok _) log d r e f = absurd (let z : ◌≡◌ {A = ℕ} 0 1 = cc in omega arith)
decoded_refused (Err r') log d r e f = cc

-- contents that are written are proper and of a class that is sold, and the log is long enough
pub write_passed : (o : Offer) (c : Contents) (log : ℕ) → write_verdict o c log ≡ Ok tt
    → Sold o c.header.«class» × Proper c × (length_for (length c.seconds) ≤ log)
unfolding write_verdict
write_passed o c log e =
    let parts = (append_passed (contents_conditions o c) _).0 (otherwise_passed o.tariff.judged _ e).1 in
    let room = (first_passed (short (length_for (length c.seconds)) log ∷ [])).0 parts.1 in
    let (l, f) = (writable_proper o c).0 parts.0 in
    (l, f, ltb-false log (length_for (length c.seconds)) (room 0))

-- proper contents of a class that is sold are written into a log that is long enough, if the price file is not refused
pub write_passes : (o : Offer) (c : Contents) (log : ℕ) → o.tariff.judged ≡ Ok tt → Sold o c.header.«class» → Proper c → length_for (length c.seconds) ≤ log
    → write_verdict o c log ≡ Ok tt
unfolding write_verdict first
write_passes o c log j k f l =
    ap (λ (v : Verdict). otherwise v (first (contents_conditions o c ++ (short (length_for (length c.seconds)) log ∷ [])))) j
    ∙ (append_passed (contents_conditions o c) _).1 ((writable_proper o c).1 (k, f), rw (le-ltb log _ l))

-- so both lists have one length of at most as many as a log can have, and the log has room
pub write_room : (o : Offer) (c : Contents) (log : ℕ) → write_verdict o c log ≡ Ok tt
    → (length c.seconds ≡ length c.servers) × (length c.seconds ≤ most_requests) × (40 + 6 * length c.seconds ≤ log)
unfolding length_for
write_room o c log e =
    let (l, f, room) = write_passed o c log e in
    (sym f.as_many, f.requests_most, room)
