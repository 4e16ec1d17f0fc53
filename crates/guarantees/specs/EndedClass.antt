-- Class 7 of the built-in table is no longer sold (02's Req 10): who is refused with 43, and what its logs keep.
use Rattle.std.specs.Prelude.{true, false, List, ◌⊎◌, ◌↔◌, ◌≡◌, refl, ℕ, ◌≤◌, ◌<◌, eqb, length, get_or, Err}
use Rattle.std.proofs.Common.{inl, inr, arith, eqb-true, eq-eqb}
use Rattle.std.proofs.Math.Option.{Option}
use Rattle.std.proofs.Math.Option as option
use Rattle.base.specs.Choice.{not_both, true_or_false}
use Rattle.base.specs.Refusals.{Never}
use Rattle.prices.specs.Prices.{priced, classes}
use Rattle.prices.specs.PriceLaws.{judged_never}
use Rattle.prices.specs.Tariff.{Tariff, built_in, price_file, Given, none, file}
use Rattle.prices.specs.Offer.{built_in_offer, file_offer, offer_of}
use Rattle.prices.specs.Uploads.{Taken}
use Rattle.request_log.specs.declared.Setup.{Setup}
use Rattle.request_log.specs.Fields.{setup_of, header_of, request_count}
use Rattle.request_log.specs.Conditions.{no_longer_sold, verdict_of, Accepted}
use Rattle.request_log.specs.Contents.{Contents, decode}
use Rattle.request_log.specs.Answers.{write_verdict}
use Rattle.request_log.specs.EndedLaws.{write_refused, write_never, log_never}
use Rattle.model.specs.LogRequests.{prices_in}
use Rattle.online.specs.Answers.{start_verdict, log_start_verdict}
use Rattle.online.specs.Passed.{start_refused, start_never, log_start_never}
use Rattle.bounds.specs.Calls.{Call}
use Rattle.bounds.specs.Claim.{Claim}
use Rattle.live.specs.Live.{opened}
use Rattle.planner.specs.Answers.{least_costs}
use Rattle.guarantees.specs.Quotes.{WithinTwice}
use Rattle.guarantees.specs.Demand3.{PlannedBest, Ready}

-- eight classes are built in
pub seven : 7 < length classes
unfolding classes
seven = omega arith

-- a price file is not answered 43
judged_43 : (t : Tariff) → Given t → Never 43 t.judged
judged_43 = judged_never 43 (λ z. omega arith) (λ z. omega arith)

-- ---- who is refused with 43

-- THE WRITER says 43 of class 7 of the built-in table, whatever else it is handed, and of no other
pub written_43 : (c : Contents) (log : ℕ) → (write_verdict built_in_offer c log ≡ Err no_longer_sold) ↔ (c.header.«class» ≡ 7)
written_43 c log = (to (true_or_false (eqb c.header.«class» 7)), from)
  where
    to : (eqb c.header.«class» 7 ≡ true) ⊎ (eqb c.header.«class» 7 ≡ false) → write_verdict built_in_offer c log ≡ Err no_longer_sold → c.header.«class» ≡ 7
    to (inl e) v = eqb-true c.header.«class» 7 e
    to (inr e) v = absurd (write_never built_in_offer c log (judged_43 built_in none) e no_longer_sold v refl)

    from : c.header.«class» ≡ 7 → write_verdict built_in_offer c log ≡ Err no_longer_sold
    from e = write_refused built_in_offer c log refl (rw e seven) (eq-eqb c.header.«class» 7 e)

-- A START too
pub started_43 : (s : Setup) → (start_verdict built_in_offer s ≡ Err no_longer_sold) ↔ (s.«class» ≡ 7)
started_43 s = (to (true_or_false (eqb s.«class» 7)), from)
  where
    to : (eqb s.«class» 7 ≡ true) ⊎ (eqb s.«class» 7 ≡ false) → start_verdict built_in_offer s ≡ Err no_longer_sold → s.«class» ≡ 7
    to (inl e) v = eqb-true s.«class» 7 e
    to (inr e) v = absurd (start_never built_in_offer s (judged_43 built_in none) e no_longer_sold v refl)

    from : s.«class» ≡ 7 → start_verdict built_in_offer s ≡ Err no_longer_sold
    from e = start_refused built_in_offer s refl (rw e seven) (eq-eqb s.«class» 7 e)

-- WITH A PRICE FILE neither ever does, whatever its bytes
pub file_written : (bytes : List ℕ) (c : Contents) (log : ℕ) → Never 43 (write_verdict (file_offer bytes) c log)
file_written bytes c log = write_never (file_offer bytes) c log (judged_43 (price_file bytes) (file bytes)) refl

pub file_started : (bytes : List ℕ) (s : Setup) → Never 43 (start_verdict (file_offer bytes) s)
file_started bytes s = start_never (file_offer bytes) s (judged_43 (price_file bytes) (file bytes)) refl

-- A LOG THAT THERE IS is not refused with 43, nor a start for one
pub log_read : (t : Tariff) → Given t → (log : List ℕ) → Never 43 (verdict_of t log)
log_read t g log = log_never t log (judged_43 t g)

pub log_started : (t : Tariff) → Given t → (s : Setup) → Never 43 (log_start_verdict t s)
log_started t g s = log_start_never t s (judged_43 t g)

-- THE ONE CLASS that has ended is class 7 of the built-in table
pub only_seven : (t : Tariff) (g : Given t) (class : ℕ) → (offer_of g).ended class ≡ true → (t ≡ built_in) × (class ≡ 7)
unfolding offer_of
only_seven t none class e = (refl, eqb-true class 7 e)
only_seven t (file bytes) class e = absurd (not_both e refl)

-- ---- the logs of class 7

-- what a log of class 7 keeps, and what is refused
pub record OldLog (log : List ℕ) : Type 0 where
  -- it is read, at its old prices, and planned best with each of its cuts, with an upload price or with none
  pub accepted : Accepted built_in log
  pub prices_are : prices_in built_in log ≡ priced 1 1000000
  pub planned : (u : Option ℕ) → Taken u → (k : ℕ) → k ≤ request_count log → PlannedBest built_in u log k
  -- it is quoted too
  pub quoted : WithinTwice built_in log (get_or (least_costs built_in option.none log) (request_count log) 0)
  -- a cache that a program starts for it is within threefold, after every list of calls
  pub started : Ready built_in none (header_of log) (opened built_in log)
  pub within : (calls : List Call) → Claim classes (header_of log) (opened built_in log) calls
  -- no other is started, and it is not written again
  pub unstarted : start_verdict built_in_offer (setup_of log) ≡ Err no_longer_sold
  pub unwritten : (room : ℕ) → write_verdict built_in_offer (decode log) room ≡ Err no_longer_sold
