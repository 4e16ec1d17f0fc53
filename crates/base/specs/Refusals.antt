-- Refusals: a call's conditions in 01's order, and the first that holds. Assumes nothing.
use Rattle.std.specs.Prelude.{Bool, true, false, List, [], ◌∷◌, ◌++◌, ◌≢◌, ◌≡◌, ℕ, zero, suc, ◌<◌, ltb, get_or, Result, Ok, Err, ⊤}
use Rattle.base.specs.declared.reasons.Reason.{Reason}
use Rattle.base.specs.declared.reasons.Reason.TheVariants as reason
use Rattle.base.specs.Reasons.{number}
use Rattle.base.specs.declared.Refusal.{Refusal}
use Rattle.base.specs.Choice.{pick}

-- what a list of conditions gives: nothing, or the refusal by the first that holds
abbrev pub Verdict : Type 0
Verdict = Result ⊤ Refusal

-- a condition: does it hold, and the reason and place that a refusal by it gives
pub record Condition : Type 0 where
  pub holds : Bool
  pub reason : Reason
  pub place : ℕ

-- refuse for a reason at `place` when a test holds
abbrev pub refuse : Reason → ℕ → Bool → Condition
refuse r p b = record { holds = b; reason = r; place = p }

-- what a condition refuses with
abbrev pub refusal : Condition → Refusal
refusal c = record { reason = c.reason; place = c.place }

-- refused by the first condition that holds, passed where none does
unfoldable pub first : List Condition → Verdict
first [] = Ok tt
first (c ∷ cs) = pick c.holds (Err (refusal c)) (first cs)

-- what was found so far, or the refusal by a further condition where that is the first to hold
unfoldable pub or_else : Verdict → Condition → Verdict
or_else (Ok _) c = first (c ∷ [])
or_else (Err r) c = Err r

-- the conditions of a list, each tried in its turn
unfoldable pub from : Verdict → List Condition → Verdict
from v [] = v
from v (c ∷ cs) = from (or_else v c) cs

-- the first verdict where it refuses, else the second
abbrev pub otherwise : Verdict → Verdict → Verdict
otherwise (Ok _) w = w
otherwise (Err r) w = Err r

-- a verdict does not refuse with a number
abbrev pub Never : ℕ → Verdict → Type 0
Never n v = (r : Refusal) → v ≡ Err r → number r.reason ≢ n

-- 31: a lent output of a given length is too short for what is needed
abbrev pub short : ℕ → ℕ → Condition
short needed length = refuse reason.ShortOutput needed (ltb length needed)

-- the conditions of each of the first n things, in order
unfoldable pub each : (ℕ → List Condition) → ℕ → List Condition
each f zero = []
each f (suc n) = each f n ++ f n

-- the i-th condition of a list, from 0; past the end one that does not hold
abbrev pub nth : List Condition → ℕ → Condition
nth cs i = get_or cs i (refuse (reason.Unlisted 0) 0 false)

-- r is what the first condition that holds refuses with: it stands at `index`, and none before it holds
pub record First (cs : List Condition) (r : Refusal) : Type 0 where
  pub index : ℕ
  pub before : (j : ℕ) → j < index → (nth cs j).holds ≡ false
  pub met : (nth cs index).holds ≡ true
  pub gives : refusal (nth cs index) ≡ r
