-- What the quote's calls answer, by the conditions 1 to 13 of 01's 'Refused because of the input'. Assumes nothing.
use Rattle.std.specs.Prelude.{List, ℕ, Ok, Err, Result}
use Rattle.base.specs.declared.Refusal.{Refusal}
use Rattle.base.specs.Refusals.{Verdict}
use Rattle.prices.specs.Tariff.{Tariff}
use Rattle.request_log.specs.Fields.{request_count}
use Rattle.request_log.specs.Conditions.{verdict_of}
use Rattle.model.specs.LogRequests.{requests_in, prices_in}
use Rattle.model.specs.Quote.{quote_of}

-- the quote of all requests of a log
abbrev pub quote_in : Tariff → List ℕ → ℕ
quote_in t log = quote_of (prices_in t log) (requests_in log) (request_count log)

-- the answer by a verdict: the quote, or the refusal
unfoldable pub quoted : Verdict → ℕ → Result ℕ Refusal
quoted (Ok _) cost = Ok cost
quoted (Err r) cost = Err r

-- what is answered to the bytes of a log: what its price file or the log is refused with, else its quote
unfoldable pub quote_answer : Tariff → List ℕ → Result ℕ Refusal
quote_answer t log = quoted (verdict_of t log) (quote_in t log)
