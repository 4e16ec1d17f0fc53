-- A price file as the code comes by it, and the built-in table as one.
use Rattle.std.specs.Prelude.{true, false, not, List, [], ◌≢◌, ◌↔◌, ◌≡◌, refl, ℕ, suc, ◌+◌, ◌*◌, ◌≤◌, ◌<◌, ltb, eqb, length, Ok, Err}
use Rattle.base.specs.declared.reasons.Reason.TheVariants as reason
use Rattle.std.proofs.Common.{inl, inr, sym, ap, ap₂, ◌∙◌, arith, eqb-true, ltb-false, le-ltb, eq-eqb, ne_eqb}
use Rattle.std.proofs.lemmas.Bool.{eqb-false, not-false}
use Rattle.base.specs.Choice.{either, true_or_false}
use Rattle.base.specs.ChoiceLaws.{either_false, neither_of}
use Rattle.base.specs.Bytes.{le32}
use Rattle.base.specs.Lists.{build}
use Rattle.base.specs.Refusals.{refuse, first, each, Verdict}
use Rattle.base.specs.RefusalLaws.{first_met, first_failed, first_passed, each_suc, each_refused, each_passed}
use Rattle.prices.specs.Prices.{priced, classes, outside}
use Rattle.prices.specs.PriceFile.{most_classes, price_room, class_count, prices_offset, pair_at, table_in, form_condition, pair_condition, file_conditions, Loads, built_in_bytes}
use Rattle.prices.specs.Tariff.{tariff, built_in, price_file}
use Rattle.prices.specs.PriceLaws.{in_range, Priced, classes_ranged, file_priced}

-- the table of the built-in bytes is the built-in one
pub built_in_table : table_in built_in_bytes ≡ classes
unfolding built_in_bytes table_in class_count pair_at classes build
built_in_table = refl

pub built_in_given : (file : List ℕ) → file ≡ built_in_bytes → classes ≡ table_in file
built_in_given file e = sym (ap table_in e ∙ built_in_table)

-- so as a price file it is the built-in tariff
pub built_in_file : (file : List ℕ) → file ≡ built_in_bytes → price_file file ≡ built_in
unfolding built_in_bytes file_conditions pair_condition pair_at class_count prices_offset outside first each
built_in_file file e = ap price_file e ∙ ap₂ tariff refl built_in_table

-- the classes of a tariff are in range: the built-in one's, and those of a file by what it was answered
pub built_in_priced : (file : List ℕ) → file ≡ built_in_bytes → Priced (tariff (Ok tt) (table_in file))
built_in_priced file e p = rw (← built_in_given file e) classes_ranged

pub judged_priced : (v : Verdict) (file : List ℕ) → v ≡ first (file_conditions file) → Priced (tariff v (table_in file))
judged_priced v file e p = file_priced file (sym e ∙ p)

-- the prices of a class, read where they stand
pub pair_read : (file : List ℕ) (class i j hold transfer : ℕ) → i ≡ 4 + 8 * class → j ≡ 8 + 8 * class → hold ≡ le32 file i → transfer ≡ le32 file j
    → priced hold transfer ≡ pair_at file class
unfolding pair_at
pair_read file class i j hold transfer p q h t = ap₂ priced (h ∙ ap (le32 file) p) (t ∙ ap (le32 file) q)

-- the first class out of range is refused by its number
pub pair_refused : (file : List ℕ) (class : ℕ) → class < class_count file → first (each (pair_condition file) class) ≡ Ok tt
    → outside (pair_at file class) ≡ true → Err (record { reason = reason.PriceRange; place = class }) ≡ first (each (pair_condition file) (class_count file))
unfolding pair_condition
pair_refused file class l p o =
    sym (each_refused (pair_condition file) class (class_count file) _ l p (first_met (refuse reason.PriceRange class (outside (pair_at file class))) [] o))

-- one more in range
pub pair_passed : (file : List ℕ) (class : ℕ) → first (each (pair_condition file) class) ≡ Ok tt → outside (pair_at file class) ≡ false
    → first (each (pair_condition file) (suc class)) ≡ Ok tt
unfolding pair_condition first
pair_passed file class p o = each_suc (pair_condition file) class ∙ rw p (first_failed (refuse reason.PriceRange class (outside (pair_at file class))) [] o)

-- a file that 37 does not refuse has at most 256 classes, and room for them and no more
count_most : (file : List ℕ) → (form_condition file).holds ≡ false → class_count file ≤ most_classes
count_most file e =
    let n = class_count file in
    let count = (either_false (either (eqb n 0) (ltb most_classes n)) _ (either_false (ltb (length file) 4) _ e).1).0 in
    ltb-false most_classes n (either_false (eqb n 0) (ltb most_classes n) count).1

pub form_length : (file : List ℕ) → (form_condition file).holds ≡ false → length file ≡ 4 + 8 * class_count file
form_length file e =
    let n = class_count file in
    let others = (either_false (ltb (length file) 4) _ e).1 in
    let rest = (either_false (either (eqb n 0) (ltb most_classes n)) _ others).1 in
    eqb-true _ _ (not-false _ (either_false (not (eqb (prices_offset file) 4)) _ rest).1)

-- a file that is longer than any can be is refused by 37
pub long_refused : (file : List ℕ) → price_room < length file → first (file_conditions file) ≡ Err (record { reason = reason.PriceFile; place = 0 })
unfolding file_conditions
long_refused file h = elim (true_or_false (form_condition file).holds) [
  | inl e ↦ first_met (form_condition file) _ e
  | inr e ↦ absurd (omega (arith, form_length file e, count_most file e))
]

-- neither 37 nor 38 refuses it exactly if it has these
pub loads_exactly : (file : List ℕ) → (first (file_conditions file) ≡ Ok tt) ↔ Loads file
unfolding file_conditions pair_condition first
loads_exactly file = (to, from)
  where
    to : first (file_conditions file) ≡ Ok tt → Loads file
    to e =
        let n = class_count file in
        let f = (first_passed (file_conditions file)).0 e in
        let others = (either_false (ltb (length file) 4) _ (f 0)).1 in
        let (count, rest) = either_false (either (eqb n 0) (ltb most_classes n)) _ others in
        let some : n ≢ 0 = eqb-false n 0 (either_false (eqb n 0) (ltb most_classes n) count).0 in
        let pairs = (first_passed (each (pair_condition file) n)).1 (λ i. f (suc i)) in
        record {
          count_least = omega arith;
          count_most = count_most file (f 0);
          offset_is = eqb-true _ _ (not-false _ (either_false (not (eqb (prices_offset file) 4)) _ rest).0);
          length_is = form_length file (f 0);
          ranged = λ class l. (in_range (pair_at file class)).0 ((first_passed (pair_condition file class)).0 ((each_passed (pair_condition file) n).0 pairs class l) 0);
        }

    from : Loads file → first (file_conditions file) ≡ Ok tt
    from l =
        let n = class_count file in
        let some : n ≢ 0 = omega (arith, l.count_least) in
        let long : 4 ≤ length file = omega (arith, l.length_is) in
        let counted : either (eqb n 0) (ltb most_classes n) ≡ false = neither_of (ne_eqb n 0 some) (le-ltb most_classes n l.count_most) in
        let offset : not (eqb (prices_offset file) 4) ≡ false = ap not (eq-eqb (prices_offset file) 4 l.offset_is) in
        let whole : not (eqb (length file) (4 + 8 * n)) ≡ false = ap not (eq-eqb (length file) (4 + 8 * n) l.length_is) in
        let formed : (form_condition file).holds ≡ false = neither_of (le-ltb (length file) 4 long) (neither_of counted (neither_of offset whole)) in
        first_failed (form_condition file) (each (pair_condition file) n) formed
        ∙ (each_passed (pair_condition file) n).1
        (λ class h. first_failed (refuse reason.PriceRange class (outside (pair_at file class))) [] ((in_range (pair_at file class)).1 (l.ranged class h)))
