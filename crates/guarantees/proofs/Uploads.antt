-- An upload price makes no plan dearer, proved.
use Rattle.std.specs.Prelude.{ℕ, ◌*◌, ◌≤◌}
use mathlib.Core.List.{List}
use Rattle.std.proofs.Common.{ap, arith}
use Rattle.std.proofs.Math.Option.{some}
use Rattle.std.proofs.Math.Path.{refl}
use Rattle.prices.specs.declared.Prices.{Prices}
use Rattle.model.specs.Rates.{rates, plain, or_zero}
use Rattle.model.specs.Requests.{Requests, Rising, Within}
use Rattle.model.specs.Schedule.{Row, Feasible, is_upload, cost_of}
use Rattle.model.proofs.RateLaws.{no_upload, no_uploads}
use Rattle.model.specs.Plan.{plan_cost, plan_rows}
use Rattle.guarantees.specs.Optimality.{optimal}
use Rattle.guarantees.specs.Uploads.{not_offered}

-- AN UPLOAD PRICE MAKES NO PLAN DEARER
pub no_dearer : (p : Prices) (y count : ℕ) (q : Requests) (n : ℕ) → Rising q n → Within count q n
    → plan_cost (rates p (some y)) q n ≤ plan_cost (plain p) q n
unfolding cost_of rates or_zero is_upload
no_dearer p y count q n rising within =
    let o = optimal (plain p) count q n rising within in
    let rows = plan_rows (plain p) q count n in
    omega (
      arith,
      o.costs,
      ap (λ (x : ℕ). y * x) (no_uploads (plain p) q n rows o.feasible (not_offered p q n) is_upload (λ x a b. refl) (λ z x τ. refl)),
      (optimal (rates p (some y)) count q n rising within).none_less rows (still o.feasible),
    )
  where
    still : {rows : List Row} → Feasible (plain p) q n rows → Feasible (rates p (some y)) q n rows
    still {rows} F =
        record { begins = F.begins; leaves = F.leaves; serves = F.serves; offered = λ x τ m. absurd (no_upload (plain p) q n rows F (not_offered p q n) x τ m) }
