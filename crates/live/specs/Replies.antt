-- What the code takes from the answers of scans and closes. Assumes nothing.
use Rattle.std.specs.Prelude.{List, ℕ, Ok, Err, Result}
use Rattle.base.specs.declared.Refusal.{Refusal}
use Rattle.online.specs.declared.Cache.{Cache}
use Rattle.online.specs.declared.Service.{Service}
use Rattle.online.specs.declared.Service.TheVariants.{Kept, Sent}
use Rattle.online.specs.Answers.{scanned}
use Rattle.live.specs.declared.Turn.{Turn}

-- the letter of a scan's mark; a refused scan has none
unfoldable pub outcome_letter : Result Service Refusal → ℕ
outcome_letter (Ok (Kept cost)) = 75
outcome_letter (Ok (Sent from cost)) = 83
outcome_letter (Err r) = 0

-- the running cost that it gives; a refused one gives none
unfoldable pub outcome_cost : Result Service Refusal → ℕ
outcome_cost (Ok (Kept cost)) = cost
outcome_cost (Ok (Sent from cost)) = cost
outcome_cost (Err r) = 0

-- a scan, with the letter of its mark and the running cost
unfoldable pub turn : Cache → List ℕ → ℕ → ℕ → Turn
turn c id second server =
    let s = scanned c id second server in
    record { cache = s.cache; mark = outcome_letter s.outcome; cost = outcome_cost s.outcome }

-- the closing cost that a close gives; a refused one gives none
unfoldable pub close_cost : Result ℕ Refusal → ℕ
close_cost (Ok cost) = cost
close_cost (Err r) = 0
