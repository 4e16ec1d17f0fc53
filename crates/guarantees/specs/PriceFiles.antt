-- Price files (02's Req 05): which load, that their refusals come before all others, and demand 3 with Req 02's bound for every tariff in one statement.
use Rattle.std.specs.Prelude.{List, ◌↔◌, ◌≡◌, refl, ℕ, ◌≤◌, ◌<◌, length, take, Ok, Err}
use Rattle.std.proofs.Math.Option.{Option}
use Rattle.base.specs.declared.Refusal.{Refusal}
use Rattle.prices.specs.Prices.{prices_of, InRange}
use Rattle.prices.specs.PriceLaws.{given_priced}
use Rattle.prices.specs.PriceFile.{built_in_bytes, Loads}
use Rattle.prices.specs.FileLaws.{built_in_file, loads_exactly}
use Rattle.prices.specs.Tariff.{Tariff, built_in, price_file, Given}
use Rattle.prices.specs.Offer.{file_offer}
use Rattle.prices.specs.Uploads.{Taken}
use Rattle.request_log.specs.Sizes.{log_limit}
use Rattle.request_log.specs.declared.Setup.{Setup}
use Rattle.request_log.specs.declared.Header.{Header}
use Rattle.request_log.specs.Fields.{request_count}
use Rattle.request_log.specs.Conditions.{Accepted, verdict_of}
use Rattle.request_log.specs.Contents.{Contents}
use Rattle.request_log.specs.Answers.{read_verdict, write_verdict}
use Rattle.model.specs.LogRequests.{prices_in}
use Rattle.model.proofs.LogRequestLaws.{log_priced}
use Rattle.checker.specs.Answers.{check_verdict_of}
use Rattle.planner.specs.Answers.{plan_verdict, least_verdict}
use Rattle.quote.specs.Answers.{quoted, quote_answer}
use Rattle.online.specs.declared.Cache.{Cache}
use Rattle.online.specs.Answers.{start_verdict, log_start_verdict}
use Rattle.bounds.specs.Calls.{Call, TakenClose}
use Rattle.bounds.specs.Claim.{Claim}
use Rattle.report.specs.Sheet.{sheet_verdict}
use Rattle.report.specs.Output.{output, price_limit}
use Rattle.report.specs.OutputLaws.{enough, enough_prices}
use Rattle.guarantees.specs.Demand3.{PlannedBest, Ready}
use Rattle.guarantees.specs.Closes.{ClosedWithin}

-- THE FILES THAT LOAD: count 1 to 256, offset 4, length to the count, every price from 1 to 1,000,000
pub file_loads : (file : List ℕ) → ((price_file file).judged ≡ Ok tt) ↔ Loads file
file_loads = loads_exactly

-- every class of what loads, and of the built-in table, is in range, and so are the prices of each log accepted with it
pub class_in_range : (t : Tariff) → Given t → t.judged ≡ Ok tt → (class : ℕ) → class < length t.table → InRange (prices_of t.table class)
class_in_range = given_priced

pub log_in_range : (t : Tariff) → Given t → (log : List ℕ) → Accepted t log → InRange (prices_in t log)
log_in_range t g = log_priced t (given_priced t g)

-- the eight built-in classes as a file are the built-in tariff, so logs are read, checked, planned and printed with it as without
pub built_in_as_file : price_file built_in_bytes ≡ built_in
built_in_as_file = built_in_file built_in_bytes refl

-- a refused file refuses each call, whatever else the call is given
pub record FirstOfAll (file : List ℕ) (r : Refusal) : Type 0 where
  pub log : (log : List ℕ) → verdict_of (price_file file) log ≡ Err r
  pub read : (log : List ℕ) (seconds servers : ℕ) → read_verdict (price_file file) log seconds servers ≡ Err r
  pub write : (c : Contents) (log : ℕ) → write_verdict (file_offer file) c log ≡ Err r
  pub check : (u : Option ℕ) (log rows : List ℕ) → check_verdict_of (price_file file) u log rows ≡ Err r
  pub plan : (u : Option ℕ) (log : List ℕ) (marks rows : ℕ) → plan_verdict (price_file file) u log marks rows ≡ Err r
  pub least : (u : Option ℕ) (log : List ℕ) (costs : ℕ) → least_verdict (price_file file) u log costs ≡ Err r
  pub quote : (log : List ℕ) → quote_answer (price_file file) log ≡ Err r
  pub start : (s : Setup) → start_verdict (file_offer file) s ≡ Err r
  pub log_start : (s : Setup) → log_start_verdict (price_file file) s ≡ Err r
  pub sheet : (log : List ℕ) (text : ℕ) → sheet_verdict (price_file file) log text ≡ Err r

-- THE FILE COMES FIRST
pub file_first : (file : List ℕ) (r : Refusal) → (price_file file).judged ≡ Err r → FirstOfAll file r
unfolding verdict_of read_verdict write_verdict check_verdict_of plan_verdict least_verdict quote_answer quoted start_verdict log_start_verdict sheet_verdict
file_first file r e =
    record {
      log = λ log. rw e;
      read = λ log seconds servers. rw e;
      write = λ c log. rw e;
      check = λ u log rows. rw e;
      plan = λ u log marks rows. rw e;
      least = λ u log costs. rw e;
      quote = λ log. rw e;
      start = λ s. rw e;
      log_start = λ s. rw e;
      sheet = λ log text. rw e;
    }

-- the program reads no more of a price file than one byte past the longest: what it writes is the same
pub first_bytes_enough : (file log : List ℕ) → output (price_file (take price_limit file)) log ≡ output (price_file file) log
first_bytes_enough = enough_prices

-- nor of an input
pub input_enough : (t : Tariff) (s : List ℕ) → output t (take log_limit s) ≡ output t s
input_enough = enough

-- demand 3 by one tariff
pub record Demand3 (t : Tariff) (g : Given t) : Type 0 where
  -- every log accepted with it, cut to its first requests, with an upload price that is taken or with none
  pub planner : (u : Option ℕ) → Taken u → (log : List ℕ) (k : ℕ) → Accepted t log → k ≤ request_count log → PlannedBest t u log k
  -- every start that is not refused, of what is sold or for a log that there is, and every list of calls after it
  pub online : (s : Header) (c : Cache) → Ready t g s c → (calls : List Call) → Claim t.table s c calls
  -- every close among them that is not refused
  pub closes : (s : Header) (c : Cache) → Ready t g s c → (calls : List Call) (x : TakenClose c calls) → ClosedWithin t s c x.before
