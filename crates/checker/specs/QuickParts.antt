-- The conditions 14 to 18 part by part, as the code comes by them.
use Rattle.std.specs.Prelude.{Bool, not, List, [], ◌∷◌, ◌++◌, ◌≡◌, ℕ, ◌%◌, eqb, length}
use Rattle.base.specs.declared.reasons.Reason.TheVariants as reason
use Rattle.std.proofs.Common.{sym, ap, ◌∙◌}
use Rattle.base.specs.Refusals.{Condition, refuse, first, each, otherwise, Verdict}
use Rattle.base.specs.RefusalLaws.{first_append}
use Rattle.request_log.specs.Fields.{server_count_of, home_of, request_count, seconds_of}
use Rattle.request_log.specs.Conditions.{before}
use Rattle.model.specs.LogRequests.{requests_in}
use Rattle.model.proofs.LogRequestLaws.{last_is}
use Rattle.model.specs.Checking.{row_count}
use Rattle.rows.specs.Passes.{row_tests}
use Rattle.checker.specs.Quick.{copy_tests, serve_test, schedule_tests}

-- 14
abbrev pub whole_test : List ℕ → List Condition
whole_test ns = refuse reason.PartialRow 0 (not (eqb (length ns % 4) 0)) ∷ []

-- 15 and 16 of each row, 17 of each row, 18 of each request
abbrev pub row_part : Bool → List ℕ → List ℕ → List Condition
row_part given log ns = each (row_tests given (server_count_of log) (request_count log) ((requests_in log).time (request_count log)) ns) (row_count ns)

abbrev pub copy_part : List ℕ → List ℕ → List Condition
copy_part log ns = copy_tests (server_count_of log) (home_of log) ns

abbrev pub serve_part : List ℕ → List ℕ → List Condition
serve_part log ns = each (serve_test log ns) (request_count log)

-- four lists of conditions, one after the other
pub four_parts : (a b c d : List Condition)
    → first (a ++ (b ++ (c ++ d))) ≡ otherwise (first a) (otherwise (first b) (otherwise (first c) (first d)))
four_parts a b c d =
    first_append a (b ++ (c ++ d))
    ∙ ap (otherwise (first a)) (first_append b (c ++ d) ∙ ap (otherwise (first b)) (first_append c d))

pub schedule_parts : (given : Bool) (log ns : List ℕ)
    → first (schedule_tests given log ns)
    ≡ otherwise (first (whole_test ns)) (otherwise (first (row_part given log ns)) (otherwise (first (copy_part log ns)) (first (serve_part log ns))))
unfolding schedule_tests
schedule_parts given log ns = four_parts (whole_test ns) (row_part given log ns) (copy_part log ns) (serve_part log ns)

-- two parts, from the numbers that were read
pub row_part_read : (given : Bool) (log ns : List ℕ) (count n last : ℕ) (v : Verdict) → count ≡ server_count_of log → n ≡ request_count log
    → last ≡ before (seconds_of log) (request_count log) → v ≡ first (each (row_tests given count n last ns) (row_count ns)) → first (row_part given log ns) ≡ v
row_part_read given log ns count n last v p q r e = rw (← last_is log, ← r, ← p, ← q) (sym e)

pub copy_part_read : (log ns : List ℕ) (count home : ℕ) (v : Verdict) → count ≡ server_count_of log → home ≡ home_of log
    → v ≡ first (copy_tests count home ns) → first (copy_part log ns) ≡ v
copy_part_read log ns count home v p q e = rw (← p, ← q) (sym e)
