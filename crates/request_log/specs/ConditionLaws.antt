-- The conditions on each request, and a log's verdict part by part, as the code comes by them; conditions after a log's.
use Rattle.std.specs.Prelude.{false, not, List, [], ◌∷◌, ◌++◌, ◌≡◌, refl, ℕ, suc, ◌+◌, ◌*◌, ◌<◌, eqb, get_or, length, Ok, Err}
use Rattle.base.specs.declared.reasons.Reason.TheVariants as reason
use Rattle.std.proofs.Common.{ap, sym, ◌∙◌}
use Rattle.base.specs.Refusals.{Condition, refuse, first, or_else, from, each, otherwise, Verdict}
use Rattle.base.specs.RefusalLaws.{each_suc, first_append, from_append, from_otherwise, otherwise_assoc}
use Rattle.base.specs.Bytes.{le16, le32}
use Rattle.base.specs.Lists.{build_at}
use Rattle.prices.specs.declared.Prices.{Prices}
use Rattle.prices.specs.Tariff.{Tariff, tariff}
use Rattle.prices.specs.Offer.{Offer}
use Rattle.checksum.specs.Sum.{sum_of}
use Rattle.base.specs.declared.reasons.Reason.{Reason}
use Rattle.request_log.specs.declared.Setup.{Setup}
use Rattle.request_log.specs.Fields.{server_count_of, request_count, seconds_of, servers_of, total_length, written_sum}
use Rattle.request_log.specs.Conditions.{setup_conditions, offered_conditions, head_conditions, form_conditions, header_conditions, before, request_check, request_conditions, log_conditions, head_verdict, verdict_of, Accepted}

-- a test that fails adds nothing
or_else_false : (v : Verdict) (r : Reason) (place : ℕ) → or_else v (refuse r place false) ≡ v
unfolding or_else first
or_else_false (Ok _) r place = refl
or_else_false (Err q) r place = refl

-- where the class has not ended, 3 to 5 are left
pub offered_setup : (v : Verdict) (o : Offer) (s : Setup) → o.ended s.«class» ≡ false
    → from v (offered_conditions o s) ≡ from v (setup_conditions o.tariff.table s)
unfolding offered_conditions setup_conditions from
offered_setup v o s e = rw (e, or_else_false)

-- the conditions on each request of a log
abbrev pub log_requests : List ℕ → ℕ → List Condition
log_requests s = request_conditions (server_count_of s) (seconds_of s) (servers_of s)

-- the second of request i, as the next one sees it
pub before_next : (s : List ℕ) (i : ℕ) → i < request_count s → before (seconds_of s) (suc i) ≡ le32 s (40 + 6 * i)
unfolding before seconds_of
before_next s i h = build_at (request_count s) _ i 0 h

-- the conditions on request i, by what its bytes say
pub log_request : (s : List ℕ) (i : ℕ) → i < request_count s
    → log_requests s i ≡ request_check (server_count_of s) (le16 s (44 + 6 * i)) (le32 s (40 + 6 * i)) (before (seconds_of s) i) (suc i)
unfolding request_conditions seconds_of servers_of
log_request s i h = rw (build_at (request_count s) (λ i. le32 s (40 + 6 * i)) i 0 h, build_at (request_count s) (λ i. le16 s (44 + 6 * i)) i 0 h)

-- one more that passes
pub each_more : (f : ℕ → List Condition) (i : ℕ) → first (each f i) ≡ Ok tt → first (f i) ≡ Ok tt → first (each f (suc i)) ≡ Ok tt
each_more f i p q = each_suc f i ∙ rw (p, q)

-- what a check of request i finds, from the values that it was handed
pub request_found : (s : List ℕ) (i count server second earlier place : ℕ) (v : Verdict) → i < request_count s → count ≡ server_count_of s
    → server ≡ le16 s (44 + 6 * i) → second ≡ le32 s (40 + 6 * i) → earlier ≡ before (seconds_of s) i → place ≡ suc i
    → v ≡ first (request_check count server second earlier place) → first (log_requests s i) ≡ v
request_found s i count server second earlier place v h p a b q z e = rw (log_request s i h, ← p, ← a, ← b, ← q, ← z) (sym e)

pub list_found : (count : ℕ) (seconds servers : List ℕ) (i earlier place : ℕ) (v : Verdict) → earlier ≡ before seconds i → place ≡ suc i
    → v ≡ first (request_check count (get_or servers i 0) (get_or seconds i 0) earlier place) → first (request_conditions count seconds servers i) ≡ v
unfolding request_conditions
list_found count seconds servers i earlier place v p q e = rw (← p, ← q) (sym e)

-- one condition more
one_more : (w : Verdict) (c : Condition) → from w (c ∷ []) ≡ or_else w c
unfolding from
one_more w c = refl

-- 1 to 8, one after the other
pub head_parts : (v : Verdict) (table : List Prices) (s : List ℕ) → from v (head_conditions table s) ≡ head_verdict (tariff v table) s
unfolding head_verdict
head_parts v table s = from_otherwise v (head_conditions table s)

-- 1 to 9: the header's verdict, then 9
pub form_parts : (v : Verdict) (table : List Prices) (s : List ℕ)
    → from v (form_conditions table s) ≡ or_else (head_verdict (tariff v table) s) (refuse reason.Length 0 (not (eqb (length s) (total_length s))))
form_parts v table s =
    let nine = refuse reason.Length 0 (not (eqb (length s) (total_length s))) in
    from_append v (head_conditions table s) (nine ∷ []) ∙ one_more (from v (head_conditions table s)) nine
    ∙ ap (λ (w : Verdict). or_else w nine) (head_parts v table s)

-- the verdict part by part: 1 to 9, 10, then the requests
pub verdict_parts : (v : Verdict) (table : List Prices) (s : List ℕ)
    → verdict_of (tariff v table) s
    ≡ otherwise (otherwise (from v (form_conditions table s)) (first (refuse reason.Sum 0 (not (eqb (written_sum s) (sum_of s))) ∷ []))) (first (each (log_requests s) (request_count s)))
unfolding verdict_of log_conditions header_conditions
verdict_parts judged table s =
    let form = form_conditions table s in
    let sum = refuse reason.Sum 0 (not (eqb (written_sum s) (sum_of s))) ∷ [] in
    let requests = first (each (log_requests s) (request_count s)) in
    ap (otherwise judged) (first_append (header_conditions table s) (each (log_requests s) (request_count s)) ∙ ap (λ (v : Verdict). otherwise v requests) (first_append form sum))
    ∙ otherwise_assoc judged (otherwise (first form) (first sum)) requests
    ∙ ap (λ (v : Verdict). otherwise v requests)
    (otherwise_assoc judged (first form) (first sum) ∙ ap (λ (v : Verdict). otherwise v (first sum)) (sym (from_otherwise judged form)))

-- conditions after a log's
pub after_log : (t : Tariff) (s : List ℕ) (own : List Condition)
    → otherwise t.judged (first (log_conditions t.table s ++ own)) ≡ otherwise (verdict_of t s) (first own)
unfolding verdict_of
after_log t s own =
    ap (otherwise t.judged) (first_append (log_conditions t.table s) own) ∙ otherwise_assoc t.judged (first (log_conditions t.table s)) (first own)

-- they decide after an accepted log
pub after_accepted : (t : Tariff) (s : List ℕ) (own : List Condition) → Accepted t s
    → otherwise t.judged (first (log_conditions t.table s ++ own)) ≡ first own
unfolding Accepted
after_accepted t s own a = after_log t s own ∙ ap (λ (v : Verdict). otherwise v (first own)) a
