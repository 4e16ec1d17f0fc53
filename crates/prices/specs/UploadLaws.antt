-- An upload price passes exactly if it is taken.
use Rattle.std.specs.Prelude.{false, [], ◌↔◌, ◌≡◌, refl, ℕ, ◌≤◌, ltb, eqb, Ok}
use Rattle.base.specs.declared.reasons.Reason.TheVariants as reason
use Rattle.std.proofs.Math.Option.{Option, none, some}
use Rattle.std.proofs.Common.{arith, ltb-false, le-ltb, ne_eqb}
use Rattle.std.proofs.lemmas.Bool.{eqb-false}
use Rattle.base.specs.ChoiceLaws.{either_false}
use Rattle.base.specs.Refusals.{refuse, first}
use Rattle.base.specs.RefusalLaws.{first_passed, first_failed}
use Rattle.prices.specs.Prices.{price_outside}
use Rattle.prices.specs.Uploads.{upload_conditions, Taken}

-- a price that is not outside is in range
in_range : (y : ℕ) → price_outside y ≡ false → (1 ≤ y) × (y ≤ 1000000)
in_range y e =
    let (a, b) = either_false (eqb y 0) (ltb 1000000 y) e in
    let some : y ≡ 0 → ⊥ = eqb-false y 0 a in
    (omega arith, ltb-false 1000000 y b)

-- it passes exactly if it is taken
pub taken_iff : (u : Option ℕ) → (first (upload_conditions u) ≡ Ok tt) ↔ Taken u
unfolding upload_conditions first
taken_iff none = (λ e. tt, λ t. refl)
taken_iff (some y) = (
  λ e. in_range y ((first_passed (upload_conditions (some y))).0 e 0),
  λ (a, b). first_failed (refuse reason.UploadPrice 0 (price_outside y)) [] (rw (ne_eqb y 0 (omega arith)) (le-ltb 1000000 y b)),
)
