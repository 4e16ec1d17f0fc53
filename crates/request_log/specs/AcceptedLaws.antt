-- What is not refused is in range, and the other way round. Assumes nothing.
use Rattle.std.specs.Prelude.{false, not, List, [], ◌∷◌, ◌++◌, ◌≢◌, ◌↔◌, ◌≡◌, refl, ℕ, zero, suc, ◌+◌, ◌*◌, ◌≤◌, ◌<◌, leb, ltb, eqb, get_or, length, take, drop, Ok}
use Rattle.std.proofs.Common.{sym, ◌∙◌, arith}
use borrow.Author.Tests.{ltb-false, leb-false, eqb-false, eqb-true, not-false, le-ltb, lt-leb, eq-eqb, ne_eqb}
use Rattle.base.specs.Choice.{either}
use Rattle.base.specs.ChoiceLaws.{either_false, neither_of}
use Rattle.base.specs.Refusals.{Condition, first, from, each, Verdict}
use Rattle.base.specs.RefusalLaws.{first_failed, from_otherwise, otherwise_passed, append_passed, each_passed, first_passed}
use Rattle.base.specs.Bytes.{le16, le32}
use Rattle.base.specs.Lists.{build_length, build_at, build_same, build_read}
use Rattle.std.proofs.Math.ListN.{length-drop}
use Rattle.std.proofs.Math.Seq.{get_or-drop}
use Rattle.prices.specs.declared.Prices.{Prices}
use Rattle.prices.specs.Tariff.{Tariff}
use Rattle.prices.specs.Offer.{Offer, Sold}
use Rattle.request_log.specs.declared.Setup.{Setup}
use Rattle.request_log.specs.Fields.{class_of, server_count_of, request_count, requests_offset, id_offset, total_length, id_of, length_for, seconds_of, servers_of}
use Rattle.request_log.specs.Conditions.{servers_conditions, setup_conditions, offered_conditions, form_conditions, header_conditions, before, request_conditions, log_conditions, verdict_of, Accepted}
use Rattle.request_log.specs.Contents.{Contents, contents_conditions}
use Rattle.request_log.specs.Ranges.{Allowed, InOrder, Sound, Proper, Writable}

-- ---- tests that fail, both ways

-- two numbers are the same
differ_false : (a b : ℕ) → not (eqb a b) ≡ false → a ≡ b
differ_false a b e = eqb-true a b (not-false (eqb a b) e)

same_false : (a b : ℕ) → a ≡ b → not (eqb a b) ≡ false
same_false a b e = rw (eq-eqb a b e)

-- a number is in range
range_false : (x m : ℕ) → either (eqb x 0) (ltb m x) ≡ false → (1 ≤ x) × (x ≤ m)
range_false x m e =
    let (p, q) = either_false (eqb x 0) (ltb m x) e in
    let no : x ≢ 0 = eqb-false x 0 p in omega (arith, ltb-false)

false_range : (x m : ℕ) → 1 ≤ x → x ≤ m → either (eqb x 0) (ltb m x) ≡ false
false_range x m l h = neither_of (ne_eqb x 0 (omega arith)) (le-ltb m x h)

-- ---- lists of conditions that pass

-- no condition, and one more
passed_nil : first [] ≡ Ok tt
unfolding first
passed_nil = refl

passed_cons : (c : Condition) (cs : List Condition) → c.holds ≡ false → first cs ≡ Ok tt → first (c ∷ cs) ≡ Ok tt
passed_cons c cs h e = first_failed c cs h ∙ e

-- ---- the conditions on a setup and on a request, both ways

-- server count and home
allowed : (s : Setup) → either (eqb s.server_count 0) (ltb 64 s.server_count) ≡ false
    → leb s.server_count s.home ≡ false → Allowed s
allowed s q r = let range = range_false s.server_count 64 q in omega (arith, ltb-false, leb-false)

passed_servers : (s : Setup) (cs : List Condition) → Allowed s → first cs ≡ Ok tt → first (servers_conditions s ++ cs) ≡ Ok tt
passed_servers s cs f e =
    passed_cons _ _ (false_range _ _ f.servers_least f.servers_most) (passed_cons _ _ (lt-leb _ _ f.home_below) e)

passed_setup : (table : List Prices) (s : Setup) (cs : List Condition) → s.«class» < length table → Allowed s → first cs ≡ Ok tt → first (setup_conditions table s ++ cs) ≡ Ok tt
unfolding setup_conditions
passed_setup table s cs l f e = passed_cons _ _ (lt-leb _ _ l) (passed_servers s cs f e)

passed_offered : (o : Offer) (s : Setup) (cs : List Condition) → Sold o s.«class» → Allowed s → first cs ≡ Ok tt → first (offered_conditions o s ++ cs) ≡ Ok tt
unfolding offered_conditions
passed_offered o s cs l f e = passed_cons _ _ (lt-leb _ _ l.listed) (passed_cons _ _ l.unended (passed_servers s cs f e))

-- no condition on a setup holds exactly if its class is one of the table and the rest is allowed
pub setup_allowed : (table : List Prices) (s : Setup) → (first (setup_conditions table s) ≡ Ok tt) ↔ ((s.«class» < length table) × Allowed s)
unfolding setup_conditions
setup_allowed table s = (
  λ e. let f = (first_passed (setup_conditions table s)).0 e in (leb-false _ _ (f 0), allowed s (f 1) (f 2)),
  λ (l, a). passed_setup table s [] l a passed_nil,
)

-- nor on one that is offered, if its class is sold too
pub offered_allowed : (o : Offer) (s : Setup) → (first (offered_conditions o s) ≡ Ok tt) ↔ (Sold o s.«class» × Allowed s)
unfolding offered_conditions
offered_allowed o s = (
  λ e. let f = (first_passed (offered_conditions o s)).0 e in (record { listed = leb-false _ _ (f 0); unended = f 1 }, allowed s (f 2) (f 3)),
  λ (l, a). passed_offered o s [] l a passed_nil,
)

-- the first m requests
module _ (n : ℕ) (seconds servers : List ℕ) (m : ℕ) where
  in_order_of : first (each (request_conditions n seconds servers) m) ≡ Ok tt
      → (i : ℕ) → i < m → InOrder n seconds servers i
  unfolding request_conditions
  in_order_of e i l =
      let f = (first_passed (request_conditions n seconds servers i)).0 ((each_passed (request_conditions n seconds servers) m).0 e i l) in
      let range = range_false (get_or seconds i 0) 4000000 (f 1) in
      omega (arith, leb-false n (get_or servers i 0) (f 0), leb-false (get_or seconds i 0) (before seconds i) (f 2))

  passed_in_order : ((i : ℕ) → i < m → InOrder n seconds servers i)
      → first (each (request_conditions n seconds servers) m) ≡ Ok tt
  unfolding request_conditions
  passed_in_order o = (each_passed (request_conditions n seconds servers) m).1 λ i l.
      let f = o i l in
      passed_cons _ _ (lt-leb _ _ f.server_below)
      (passed_cons _ _ (false_range _ _ f.second_least f.second_most)
      (passed_cons _ _ (lt-leb _ _ f.later) passed_nil))

-- ---- the log

-- where none of 1 to 9 holds the log is as long as its requests need
pub form_length : (v : Verdict) (table : List Prices) (s : List ℕ) → from v (form_conditions table s) ≡ Ok tt → length s ≡ length_for (request_count s)
unfolding setup_conditions
form_length v table s a =
    let f = (first_passed (form_conditions table s)).0 (otherwise_passed v _ (sym (from_otherwise v (form_conditions table s)) ∙ a)).1 in
    let at_others = (either_false (not (eqb (requests_offset s) 40)) _ (f 7)).1 in
    let at_total = (either_false (not (eqb (id_offset s) 24)) _ at_others).1 in
    differ_false _ _ (f 8) ∙ differ_false _ _ at_total

-- the price file of an accepted log is not refused
pub accepted_judged : (t : Tariff) (s : List ℕ) → Accepted t s → t.judged ≡ Ok tt
unfolding Accepted verdict_of
accepted_judged t s a = (otherwise_passed t.judged _ a).0

-- its class is one of the table
pub accepted_class : (t : Tariff) (s : List ℕ) → Accepted t s → class_of s < length t.table
unfolding Accepted verdict_of log_conditions header_conditions setup_conditions
accepted_class t s a =
    let p = ((append_passed (header_conditions t.table s) _).0 (otherwise_passed t.judged _ a).1).0 in
    leb-false _ _ ((first_passed (header_conditions t.table s)).0 p 2)

-- an accepted log is sound
pub accepted_sound : (t : Tariff) (s : List ℕ) → Accepted t s → Sound s
unfolding Accepted verdict_of log_conditions header_conditions setup_conditions
accepted_sound t s a =
    let each_request = each (request_conditions (server_count_of s) (seconds_of s) (servers_of s)) (request_count s) in
    let (p, q) = (append_passed (header_conditions t.table s) each_request).0 (otherwise_passed t.judged _ a).1 in
    let f = (first_passed (header_conditions t.table s)).0 p in
    let (at_requests, at_others) = either_false _ _ (f 7) in
    let (at_id, at_total) = either_false _ _ at_others in
    let total : total_length s ≡ length_for (request_count s) = differ_false _ _ at_total in
    record {
      version_is = differ_false _ _ (f 1);
      setup = allowed _ (f 3) (f 4);
      zero_is = differ_false _ _ (f 5);
      requests_most = ltb-false _ _ (f 6);
      requests_at = differ_false _ _ at_requests;
      id_at = differ_false _ _ at_id;
      total_is = total;
      length_is = differ_false _ _ (f 8) ∙ total;
      sum_is = differ_false _ _ (f 9);
      in_order = in_order_of _ _ _ _ q;
    }

-- a sound log is accepted, if its price file is not refused and has its class
pub sound_accepted : (t : Tariff) (s : List ℕ) → t.judged ≡ Ok tt → class_of s < length t.table → Sound s → Accepted t s
unfolding Accepted verdict_of log_conditions header_conditions setup_conditions length_for
sound_accepted t s j l f = rw j (
    (append_passed (header_conditions t.table s) _).1 (
      passed_cons _ _ (le-ltb (length s) 40 (omega (arith, f.length_is)))
          (passed_cons _ _ (same_false _ _ f.version_is)
          (passed_setup t.table _ _ l f.setup
          (passed_cons _ _ (same_false _ _ f.zero_is)
          (passed_cons _ _ (le-ltb _ _ f.requests_most)
          (passed_cons _ _ (neither_of (same_false _ _ f.requests_at) (neither_of (same_false _ _ f.id_at) (same_false _ _ f.total_is)))
          (passed_cons _ _ (same_false _ _ (f.length_is ∙ sym f.total_is))
          (passed_cons _ _ (same_false _ _ f.sum_is) passed_nil))))))),
      passed_in_order _ _ _ _ f.in_order,
    ))

-- ---- the contents

-- the writer refuses all contents but proper ones of a class that is sold
pub writable_proper : (o : Offer) (c : Contents) → Writable o c ↔ (Sold o c.header.«class» × Proper c)
unfolding contents_conditions offered_conditions
writable_proper o c = (to, from)
  where
    to : Writable o c → Sold o c.header.«class» × Proper c
    to w =
        let f = (first_passed (contents_conditions o c)).0 w in
        let (few, as_many) = either_false _ _ (f 4) in (
          record { listed = leb-false _ _ (f 0); unended = f 1 },
          record {
            setup = allowed _ (f 2) (f 3);
            requests_most = ltb-false _ _ few;
            as_many = sym (differ_false _ _ as_many);
            in_order = in_order_of _ _ _ _ ((first_passed _).1 (λ i. f (suc (suc (suc (suc (suc i)))))));
          },
        )

    from : Sold o c.header.«class» × Proper c → Writable o c
    from (l, f) =
        passed_offered o _ _ l f.setup
        (passed_cons _ _ (neither_of (le-ltb _ _ f.requests_most) (same_false _ _ (sym f.as_many)))
        (passed_in_order _ _ _ _ f.in_order))

-- ---- the lists that are read from a log

-- there are as many seconds and servers as the header says
pub seconds_length : (s : List ℕ) → length (seconds_of s) ≡ request_count s
unfolding seconds_of
seconds_length s = build_length (request_count s) _

pub servers_length : (s : List ℕ) → length (servers_of s) ≡ request_count s
unfolding servers_of
servers_length s = build_length (request_count s) _

-- each stands in its place
pub second_at : (s : List ℕ) (i : ℕ) → i < request_count s → get_or (seconds_of s) i 0 ≡ le32 s (40 + 6 * i)
unfolding seconds_of
second_at s i l = build_at (request_count s) _ i 0 l

pub server_at : (s : List ℕ) (i : ℕ) → i < request_count s → get_or (servers_of s) i 0 ≡ le16 s (44 + 6 * i)
unfolding servers_of
server_at s i l = build_at (request_count s) _ i 0 l

-- the id has sixteen elements
pub id_length : (s : List ℕ) → length (id_of s) ≡ 16
unfolding id_of
id_length s = build_length 16 _

-- they are cut out of a log that has them
pub id_taken : (s : List ℕ) → 40 ≤ length s → id_of s ≡ take 16 (drop 24 s)
unfolding id_of
id_taken s h =
    build_same 16 _ _ (λ i l. sym (get_or-drop 24 s i 0))
    ∙ build_read 16 (drop 24 s) 0 (rw length-drop (omega arith))

-- the second before request i, where 0 stands before the seconds
pub before_is : (seconds : List ℕ) (i : ℕ) → before seconds i ≡ get_or (0 ∷ seconds) i 0
unfolding before
before_is seconds zero = refl
before_is seconds (suc i) = refl
