-- Who is refused with 43: what is to be written or started of a class that has ended, and nothing else. Assumes nothing.
use Rattle.std.specs.Prelude.{true, false, List, [], ◌∷◌, ◌++◌, ◌≡◌, ℕ, ◌<◌, length, Ok, Err}
use Rattle.base.specs.declared.reasons.Reason.TheVariants as reason
use Rattle.std.proofs.Common.{ap, ◌∙◌, arith}
use Rattle.std.proofs.lemmas.Bool.{lt-leb}
use Rattle.base.specs.Refusals.{Condition, refuse, first, otherwise, short, each, Never, Verdict}
use Rattle.base.specs.RefusalLaws.{first_met, first_failed, first_append}
use Rattle.base.specs.NumberLaws.{Without, empty, other, unmet, joined, of_each, otherwise_never}
use Rattle.base.specs.declared.Refusal.{Refusal}
use Rattle.prices.specs.declared.Prices.{Prices}
use Rattle.prices.specs.Tariff.{Tariff}
use Rattle.prices.specs.Offer.{Offer}
use Rattle.request_log.specs.declared.Setup.{Setup}
use Rattle.request_log.specs.Fields.{setup_of, server_count_of, request_count, length_for, seconds_of, servers_of}
use Rattle.request_log.specs.Conditions.{class_condition, setup_conditions, no_longer_sold, offered_conditions, header_conditions, request_conditions, log_conditions, verdict_of}
use Rattle.request_log.specs.Contents.{Contents, setup_in, contents_conditions}
use Rattle.request_log.specs.Answers.{write_verdict}

-- ---- a class that has ended

-- it is refused with 43 where 3 does not hold
pub offered_refused : (o : Offer) (s : Setup) → s.«class» < length o.tariff.table → o.ended s.«class» ≡ true
    → first (offered_conditions o s) ≡ Err no_longer_sold
unfolding offered_conditions
offered_refused o s l e = first_failed (class_condition o.tariff.table s) _ (lt-leb _ _ l) ∙ first_met (refuse reason.EndedClass 0 (o.ended s.«class»)) _ e

-- by the writer too, whatever else it is handed
refused_first : (xs ys : List Condition) (r : Refusal) → first xs ≡ Err r → first (xs ++ ys) ≡ Err r
refused_first xs ys r e = first_append xs ys ∙ rw e

pub write_refused : (o : Offer) (c : Contents) (log : ℕ) → o.tariff.judged ≡ Ok tt → c.header.«class» < length o.tariff.table
    → o.ended c.header.«class» ≡ true → write_verdict o c log ≡ Err no_longer_sold
unfolding write_verdict contents_conditions
write_refused o c log j l e =
    let refused = refused_first (offered_conditions o (setup_in c.header)) _ no_longer_sold (offered_refused o (setup_in c.header) l e) in
    ap (λ (v : Verdict). otherwise v (first (contents_conditions o c ++ (short (length_for (length c.seconds)) log ∷ [])))) j
    ∙ refused_first (contents_conditions o c) _ no_longer_sold refused

-- ---- one that has not

-- the conditions on what is offered, on a setup, on requests
pub offered_without : (o : Offer) (s : Setup) → o.ended s.«class» ≡ false → Without 43 (offered_conditions o s)
unfolding offered_conditions
offered_without o s e = other (λ z. omega arith) (unmet e (other (λ z. omega arith) (other (λ z. omega arith) empty)))

pub setup_without : (table : List Prices) (s : Setup) → Without 43 (setup_conditions table s)
unfolding setup_conditions
setup_without table s = other (λ z. omega arith) (other (λ z. omega arith) (other (λ z. omega arith) empty))

requests_without : (count : ℕ) (seconds servers : List ℕ) (m : ℕ) → Without 43 (each (request_conditions count seconds servers) m)
unfolding request_conditions
requests_without count seconds servers m =
    of_each (request_conditions count seconds servers) (λ i. other (λ z. omega arith) (other (λ z. omega arith) (other (λ z. omega arith) empty))) m

-- so the writer does not say 43
pub write_never : (o : Offer) (c : Contents) (log : ℕ) → Never 43 o.tariff.judged → o.ended c.header.«class» ≡ false → Never 43 (write_verdict o c log)
unfolding write_verdict contents_conditions
write_never o c log j e =
    otherwise_never 43 o.tariff.judged _ j
    (joined
    (joined (offered_without o (setup_in c.header) e)
    (other (λ z. omega arith) (requests_without c.header.server_count c.seconds c.servers (length c.seconds))))
    (other (λ z. omega arith) empty))

-- nor is a log refused with it
pub log_never : (t : Tariff) (s : List ℕ) → Never 43 t.judged → Never 43 (verdict_of t s)
unfolding verdict_of log_conditions header_conditions
log_never t s j =
    otherwise_never 43 t.judged _ j
    (joined
    (joined
    (joined
    (other (λ z. omega arith) (other (λ z. omega arith) (joined (setup_without t.table (setup_of s))
    (other (λ z. omega arith) (other (λ z. omega arith) (other (λ z. omega arith) empty))))))
    (other (λ z. omega arith) empty))
    (other (λ z. omega arith) empty))
    (requests_without (server_count_of s) (seconds_of s) (servers_of s) (request_count s)))
