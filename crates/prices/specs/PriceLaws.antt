-- Prices in range, 1 to 1,000,000: what the test tells, and that each class of the built-in table and of every price file that loads is. Assumes nothing.
use Rattle.std.specs.Prelude.{false, not, List, ◌≢◌, ◌↔◌, ◌≡◌, refl, ℕ, suc, ◌≤◌, ◌<◌, ltb, eqb, length, Ok}
use Rattle.std.proofs.Common.{arith, ltb-false, le-ltb, ne_eqb}
use Rattle.std.proofs.Math.ListN.{get_or-eq_default}
use Rattle.std.proofs.lemmas.Bool.{eqb-false, not-true}
use Rattle.base.specs.Choice.{either}
use Rattle.base.specs.ChoiceLaws.{either_false, neither_of}
use Rattle.base.specs.Refusals.{each, Never}
use Rattle.base.specs.RefusalLaws.{first_passed, each_passed}
use Rattle.base.specs.NumberLaws.{Without, empty, other, of_each, first_never}
use Rattle.base.specs.Lists.{build_length, build_at, every, every_at}
use Rattle.prices.specs.declared.Prices.{Prices}
use Rattle.prices.specs.Prices.{priced, classes, prices_of, outside, InRange}
use Rattle.prices.specs.PriceFile.{class_count, pair_at, table_in, pair_condition, file_conditions}
use Rattle.prices.specs.Tariff.{Tariff, price_file, Given, none, file}
use Rattle.prices.specs.Offer.{offer_of}

-- a number that is no class has no price
pub no_class : (table : List Prices) (class : ℕ) → length table ≤ class → prices_of table class ≡ priced 0 0
unfolding prices_of
no_class table class h = get_or-eq_default table (priced 0 0) h

-- such a price, both ways
range_of : (x : ℕ) → either (eqb x 0) (ltb 1000000 x) ≡ false → (1 ≤ x) × (x ≤ 1000000)
range_of x e =
    let (p, q) = either_false (eqb x 0) (ltb 1000000 x) e in
    let no : x ≢ 0 = eqb-false x 0 p in omega (arith, ltb-false)

of_range : (x : ℕ) → 1 ≤ x → x ≤ 1000000 → either (eqb x 0) (ltb 1000000 x) ≡ false
of_range x l h = neither_of (ne_eqb x 0 (omega arith)) (le-ltb 1000000 x h)

-- prices are in range exactly if none is outside it
pub in_range : (p : Prices) → (outside p ≡ false) ↔ InRange p
unfolding outside
in_range p = (to, from)
  where
    to : outside p ≡ false → InRange p
    to e =
        let (h, t) = either_false _ _ e in
        let hold = range_of p.hold h in
        let transfer = range_of p.transfer t in
        record { hold_least = hold.0; hold_most = hold.1; transfer_least = transfer.0; transfer_most = transfer.1 }

    from : InRange p → outside p ≡ false
    from r =
        neither_of (of_range p.hold r.hold_least r.hold_most) (of_range p.transfer r.transfer_least r.transfer_most)

-- every class of a table is in range
abbrev pub Ranged : List Prices → Type 0
Ranged table = (class : ℕ) → class < length table → InRange (prices_of table class)

-- every class of a tariff is, if its file is not refused
abbrev pub Priced : Tariff → Type 0
Priced t = t.judged ≡ Ok tt → Ranged t.table

-- the built-in table
pub classes_ranged : Ranged classes
unfolding prices_of classes outside every
classes_ranged class l =
    (in_range (prices_of classes class)).0 (not-true _ (every_at (λ (p : Prices). not (outside p)) classes (priced 0 0) class refl l))

-- the classes of a price file
pub table_length : (bytes : List ℕ) → length (table_in bytes) ≡ class_count bytes
unfolding table_in
table_length bytes = build_length (class_count bytes) (pair_at bytes)

pub table_at : (bytes : List ℕ) (class : ℕ) → class < class_count bytes → prices_of (table_in bytes) class ≡ pair_at bytes class
unfolding prices_of table_in
table_at bytes class l = build_at (class_count bytes) (pair_at bytes) class (priced 0 0) l

-- where neither 37 nor 38 refuses a price file its classes are in range
pub file_priced : (bytes : List ℕ) → Priced (price_file bytes)
unfolding file_conditions pair_condition
file_priced bytes e class l =
    let m : class < class_count bytes = omega (arith, table_length bytes) in
    let pairs = (first_passed (each (pair_condition bytes) (class_count bytes))).1 (λ i. (first_passed (file_conditions bytes)).0 e (suc i)) in
    let fits = (first_passed (pair_condition bytes class)).0 ((each_passed (pair_condition bytes) (class_count bytes)).0 pairs class m) 0 in
    rw (table_at bytes class m) ((in_range (pair_at bytes class)).0 fits)

-- both that there are
pub given_priced : (t : Tariff) → Given t → Priced t
given_priced t none e = classes_ranged
given_priced t (file bytes) e = file_priced bytes e

-- a price file is answered no number but 37 and 38, and where none is given nothing is
file_without : (n : ℕ) → 37 ≢ n → 38 ≢ n → (bytes : List ℕ) → Without n (file_conditions bytes)
unfolding file_conditions pair_condition
file_without n f p bytes = other f (of_each (pair_condition bytes) (λ class. other p empty) (class_count bytes))

pub judged_never : (n : ℕ) → 37 ≢ n → 38 ≢ n → (t : Tariff) → Given t → Never n t.judged
judged_never n f p t none r e = absurd (let z : ◌≡◌ {A = ℕ} 0 1 = cc in omega arith)
judged_never n f p t (file bytes) r e = first_never n (file_conditions bytes) (file_without n f p bytes) r e

-- what is sold by each is priced by it
pub offer_tariff : (t : Tariff) (g : Given t) → (offer_of g).tariff ≡ t
unfolding offer_of
offer_tariff t none = refl
offer_tariff t (file bytes) = refl
