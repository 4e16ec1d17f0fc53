-- A log's header: its verdict hangs on the first bytes alone, a log is refused as its header is, and where that passes by its length or by 10 to 13.
use Rattle.std.specs.Prelude.{not, List, [], ◌∷◌, ◌≢◌, ◌≡◌, ℕ, ◌+◌, ◌≤◌, ◌<◌, eqb, length, Ok, Err}
use Rattle.base.specs.declared.reasons.Reason.TheVariants as reason
use Rattle.std.proofs.Common.{sym, ap, ◌∙◌, arith}
use borrow.Author.Tests.{le-ltb, ltb-false, eqb-true, not-false, eq-eqb, ne_eqb}
use Rattle.base.specs.Choice.{either}
use Rattle.base.specs.ChoiceLaws.{either_false}
use Rattle.base.specs.Bytes.{byte, le16, le32}
use Rattle.base.specs.Refusals.{Condition, refuse, first, from, or_else, otherwise, each, Verdict}
use Rattle.base.specs.RefusalLaws.{first_append, first_passed, otherwise_passed}
use Rattle.base.specs.NumberLaws.{Between, end, between, both_between, each_between, first_between}
use Rattle.base.specs.declared.Refusal.{Refusal}
use Rattle.prices.specs.declared.Prices.{Prices}
use Rattle.prices.specs.Tariff.{Tariff}
use Rattle.checksum.specs.Sum.{sum_of}
use Rattle.request_log.specs.Sizes.{most_requests}
use Rattle.request_log.specs.Fields.{version, class_of, server_count_of, home_of, request_count, requests_offset, id_offset, total_length, written_sum, length_for}
use Rattle.request_log.specs.Conditions.{setup_conditions, head_conditions, form_conditions, request_conditions, head_verdict, verdict_of}
use Rattle.request_log.specs.ConditionLaws.{log_requests, form_parts, verdict_parts}
use Rattle.base.specs.Reasons.{number}

-- 1 to 8 look at no byte after 19
module _ (table : List Prices) (s t : List ℕ) (same : (k : ℕ) → k < 20 → byte t k ≡ byte s k) where
  le16_same : (k : ℕ) → k < 19 → le16 t k ≡ le16 s k
  le16_same k l = rw (same k (omega arith), same (k + 1) (omega arith))

  le32_same : (k : ℕ) → k < 17 → le32 t k ≡ le32 s k
  le32_same k l = rw (le16_same k (omega arith), le16_same (k + 2) (omega arith))

  head_alike : 40 ≤ length s → 40 ≤ length t → head_conditions table t ≡ head_conditions table s
  unfolding version class_of server_count_of home_of request_count requests_offset id_offset total_length
  head_alike h l =
      rw (
        le-ltb (length s) 40 h,
        le-ltb (length t) 40 l,
        le16_same 0 (omega arith),
        same 2 (omega arith),
        same 3 (omega arith),
        same 4 (omega arith),
        same 5 (omega arith),
        le16_same 6 (omega arith),
        le32_same 8 (omega arith),
        le32_same 12 (omega arith),
        le32_same 16 (omega arith),
      )

-- two inputs with a header each, the same in their first 20 bytes
pub head_same : (t : Tariff) (s u : List ℕ) → 40 ≤ length s → 40 ≤ length u → ((k : ℕ) → k < 20 → byte u k ≡ byte s k) → head_verdict t u ≡ head_verdict t s
unfolding head_verdict
head_same t s u h l same = ap (λ (cs : List Condition). otherwise t.judged (first cs)) (head_alike t.table s u same h l)

-- what a header that passes says
pub record Headed (s : List ℕ) : Type 0 where
  pub long : 40 ≤ length s
  pub few : request_count s ≤ most_requests
  pub total_is : total_length s ≡ length_for (request_count s)

pub headed : (t : Tariff) (s : List ℕ) → head_verdict t s ≡ Ok tt → Headed s
unfolding head_verdict setup_conditions
headed t s e =
    let f = (first_passed (head_conditions t.table s)).0 (otherwise_passed t.judged _ e).1 in
    let a = not (eqb (requests_offset s) 40) in
    let b = not (eqb (id_offset s) 24) in
    let d = eqb (total_length s) (length_for (request_count s)) in
    record {
      long = ltb-false (length s) 40 (f 0);
      few = ltb-false most_requests (request_count s) (f 6);
      total_is = eqb-true _ _ (not-false d (either_false b (not d) (either_false a (either b (not d)) (f 7)).1).1);
    }

-- 9, whose place is 0
abbrev pub nine : Refusal
nine = record { reason = reason.Length; place = 0 }

-- a header that is refused refuses the log
pub head_refused : (t : Tariff) (s : List ℕ) (r : Refusal) → head_verdict t s ≡ Err r → verdict_of t s ≡ Err r
unfolding or_else
head_refused t s r e = verdict_parts t.judged t.table s ∙ rw (form_parts t.judged t.table s, e)

-- where it passes, a log that is not as long as it says is refused by 9
pub length_refused : (t : Tariff) (s : List ℕ) → head_verdict t s ≡ Ok tt → length s ≢ total_length s → verdict_of t s ≡ Err nine
unfolding or_else first
length_refused t s e h = verdict_parts t.judged t.table s ∙ rw (form_parts t.judged t.table s, e, ne_eqb (length s) (total_length s) h)

-- a request is refused by 11 to 13, so within 10 to 13
requests_between : (s : List ℕ) (i : ℕ) → Between 10 13 (log_requests s i)
unfolding request_conditions
requests_between s i = between (omega arith, omega arith) (between (omega arith, omega arith) (between (omega arith, omega arith) end))

-- and one that is, by 10 to 13
pub late_refused : (t : Tariff) (s : List ℕ) (r : Refusal) → head_verdict t s ≡ Ok tt → length s ≡ total_length s → verdict_of t s ≡ Err r
    → (10 ≤ number r.reason) × (number r.reason ≤ 13)
unfolding or_else first
late_refused t s r e h v =
    let sum = refuse reason.Sum 0 (not (eqb (written_sum s) (sum_of s))) ∷ [] in
    let f : from t.judged (form_conditions t.table s) ≡ (Ok tt) =
    form_parts t.judged t.table s ∙ rw (e, eq-eqb (length s) (total_length s) h) in
    let w : otherwise (first sum) (first (each (log_requests s) (request_count s))) ≡ Err r =
    ap (λ (x : Verdict). otherwise (otherwise x (first sum)) (first (each (log_requests s) (request_count s)))) (sym f) ∙ sym (verdict_parts t.judged t.table s) ∙ v in
    let b : Between 10 13 sum = between (omega arith, omega arith) end in
    let l : Between 10 13 (each (log_requests s) (request_count s)) = each_between (log_requests s) (requests_between s) (request_count s) in
    first_between r (both_between b l)
    (first_append sum (each (log_requests s) (request_count s)) ∙ w)

-- a header is refused by 1 to 8, whatever its table
pub head_number : (t : Tariff) (s : List ℕ) (r : Refusal) → t.judged ≡ Ok tt → head_verdict t s ≡ Err r → (1 ≤ number r.reason) × (number r.reason ≤ 8)
unfolding head_verdict setup_conditions
head_number t s r j e =
    let f : first (head_conditions t.table s) ≡ Err r = rw j at e in
    let cs : Between 1 8 (head_conditions t.table s) =
    between (omega arith, omega arith) (between (omega arith, omega arith) (between (omega arith, omega arith) (between (omega arith, omega arith)
    (between (omega arith, omega arith) (between (omega arith, omega arith) (between (omega arith, omega arith) (between (omega arith, omega arith) end))))))) in
    first_between r cs f
