-- A quote within twice (02's Req 07): who is quoted and who is refused, and for every table that loads and every accepted log, cut or whole: neither part of
-- the quote exceeds the least cost, and the quote lies between it and its double.
use Rattle.std.specs.Prelude.{List, ◌++◌, ◌↔◌, ◌≡◌, refl, ℕ, ◌*◌, ◌≤◌, Ok, Err}
use Rattle.std.proofs.Math.Option.{none}
use Rattle.std.proofs.Common.{arith}
use Rattle.base.specs.declared.Refusal.{Refusal}
use Rattle.base.specs.Refusals.{First, Verdict}
use Rattle.prices.specs.Tariff.{Tariff, Given, conditions_of}
use Rattle.request_log.specs.Fields.{request_count, server_count_of}
use Rattle.request_log.specs.Conditions.{Accepted, verdict_of, log_conditions}
use Rattle.model.specs.Requests.{requests}
use Rattle.model.specs.Sums.{sum}
use Rattle.model.specs.LogRequests.{requests_in, prices_in, rates_in}
use Rattle.model.proofs.LogRequestLaws.{log_rising, log_within}
use Rattle.model.specs.Least.{Least}
use Rattle.model.specs.Quote.{sum_part, hold_part, quote_of}
use Rattle.model.proofs.QuoteLaws.{sum_below, hold_below, quote_above}
use Rattle.quote.specs.Answers.{quote_in, quoted, quote_answer}
use Rattle.guarantees.specs.Calls.{quote_decided}

-- a quote is answered where the verdict passed, a refusal where it is refused
cost_passed : (v : Verdict) (q c : ℕ) → quoted v q ≡ Ok c → (v ≡ Ok tt) × (c ≡ q)
unfolding quoted
cost_passed (Ok _) q c e = (refl, cc)
cost_passed (Err r) q c e = absurd (let z : ◌≡◌ {A = ℕ} 0 1 = cc in omega arith)

refused_with : (v : Verdict) (q : ℕ) (r : Refusal) → quoted v q ≡ Err r → v ≡ Err r
unfolding quoted
refused_with (Ok _) q r e = absurd (let z : ◌≡◌ {A = ℕ} 0 1 = cc in omega arith)
refused_with (Err s) q r e = cc

-- WHO IS QUOTED: exactly the accepted logs, with their quote
pub quoted_exactly : (t : Tariff) (log : List ℕ) (c : ℕ) → (quote_answer t log ≡ Ok c) ↔ (Accepted t log × (c ≡ quote_in t log))
unfolding quote_answer quoted Accepted
quoted_exactly t log c = (cost_passed (verdict_of t log) (quote_in t log) c, λ (a, e). rw (a, e))

-- WHO IS REFUSED: by the first condition that holds, the price file's before the log's
pub refused_exactly : (t : Tariff) (g : Given t) (log : List ℕ) (r : Refusal)
    → (quote_answer t log ≡ Err r) ↔ First (conditions_of g ++ log_conditions t.table log) r
unfolding quote_answer quoted
refused_exactly t g log r = (
  λ e. ((quote_decided t g log).refused r).0 (refused_with (verdict_of t log) (quote_in t log) r e),
  λ f. rw (((quote_decided t g log).refused r).1 f),
)

-- an empty log's quote is 0
pub empty_quoted : (t : Tariff) (log : List ℕ) → request_count log ≡ 0 → quote_in t log ≡ 0
unfolding quote_of sum requests_in requests
empty_quoted t log e = rw e (omega arith)

-- a log's quote, and its least cost
pub record WithinTwice (t : Tariff) (log : List ℕ) (least : ℕ) : Type 0 where
  -- the quote is what the call answers
  pub answered : quote_answer t log ≡ Ok (quote_in t log)
  -- `least` is the least cost of all its requests
  pub is_least : Least (rates_in t none log) (server_count_of log) (requests_in log) (request_count log) least
  -- neither part exceeds it
  pub sum_most : sum_part (prices_in t log) (requests_in log) (request_count log) ≤ least
  pub hold_most : hold_part (prices_in t log) (requests_in log) (request_count log) ≤ least
  -- and the quote lies between it and its double
  pub least_most : least ≤ quote_in t log
  pub quote_most : quote_in t log ≤ 2 * least

-- EVERY ACCEPTED LOG, with the least cost of its requests
pub within_twice : (t : Tariff) (log : List ℕ) → Accepted t log → (least : ℕ)
    → Least (rates_in t none log) (server_count_of log) (requests_in log) (request_count log) least → WithinTwice t log least
unfolding quote_of
within_twice t log a least l =
    let p = prices_in t log in
    let q = requests_in log in
    let n = request_count log in
    let s = sum_below p (server_count_of log) q n least (log_rising t log a) (log_within t log a) l in
    let h = hold_below p (server_count_of log) q n least (log_rising t log a) (log_within t log a) l in
    record {
      answered = (quoted_exactly t log (quote_in t log)).1 (a, refl);
      is_least = l;
      sum_most = s;
      hold_most = h;
      least_most = quote_above p (server_count_of log) q n least (log_rising t log a) (log_within t log a) l;
      quote_most = omega (arith, s, h);
    }
