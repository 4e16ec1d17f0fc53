-- The least costs' answer from requests that were read. Assumes nothing.
use Rattle.std.specs.Prelude.{ℕ, suc, Ok, Err, Result}
use Rattle.base.specs.declared.Refusal.{Refusal}
use Rattle.base.specs.Refusals.{Verdict}

-- the answer by a verdict: one cost for each prefix of n requests, or the refusal
unfoldable pub costs_answer : Verdict → ℕ → Result ℕ Refusal
costs_answer (Ok _) n = Ok (suc n)
costs_answer (Err r) n = Err r
