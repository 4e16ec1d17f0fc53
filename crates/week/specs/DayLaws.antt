-- The seconds of a hold in a day, and a cell as their total over the rows.
use Rattle.std.specs.Prelude.{Bool, false, ◌⊎◌, ◌≢◌, ◌≡◌, ℕ, suc, ◌+◌, ◌-◌, ◌*◌, ◌≤◌, ◌<◌, min, leb, ltb, eqb}
use Rattle.std.proofs.Math.Bool.{true}
use mathlib.Core.List.{List, [], ◌∷◌}
use Rattle.std.proofs.Common.{inl, inr, ◌∙◌, arith, ltb-true, leb-true, eqb-true, le-ltb, eq-eqb, ne_eqb}
use Rattle.std.proofs.Math.Path.{refl}
use Rattle.base.specs.Choice.{pick, both, same_or_not, true_or_false, not_both}
use Rattle.base.specs.ChoiceLaws.{both_true, either_true}
use Rattle.model.specs.Sums.{sum, total}
use Rattle.model.proofs.SumLaws.{sum_same, sum_zero, sum_beyond, total_same, sum_total, inside, sum_inside}
use Rattle.model.proofs.CountLaws.{sum_at_most}
use Rattle.model.specs.Schedule.{Row, hold, move}
use Rattle.model.specs.RowForm.{fits, follows, ordered, all_fit}
use Rattle.model.proofs.RowLaws.{fits_hold}
use Rattle.week.specs.Days.{day_seconds, holds_over, held_over, cell}

-- the seconds of a hold from a to b that lie in day d: those before the day's end less those before its begin
unfoldable pub in_day : ℕ → ℕ → ℕ → ℕ
in_day a b d = (min (day_seconds * suc d) b - a) - (min (day_seconds * d) b - a)

-- the seconds that a row holds at server y in day d
unfoldable pub row_in_day : ℕ → ℕ → Row → ℕ
row_in_day y d (hold x a b) = pick (eqb x y) (in_day a b d) 0
row_in_day y d (move v) = 0

-- the rest of an ordered list is ordered
ordered_tail : (r : Row) (rows : List Row) → ordered (r ∷ rows) ≡ true → ordered rows ≡ true
unfolding ordered
ordered_tail r [] e = refl
ordered_tail r (s ∷ rows) e = (both_true (follows r s) (ordered (s ∷ rows)) e).1

-- past server y's second that ends at τ: a hold of y that reaches τ, a hold of a later server, or a move
Past : ℕ → ℕ → Row → Type 0
Past y τ (hold x a b) = (y ≤ x) × (x ≡ y → τ ≤ b)
Past y τ (move v) = Unit {0}

-- a row that holds over that second is past it
holds_past : (y τ : ℕ) (r : Row) → holds_over y τ r ≡ true → Past y τ r
unfolding holds_over Past
holds_past y τ (hold x a b) e =
    let (p, q) = both_true (eqb x y) (both (ltb a τ) (leb τ b)) e in
    (omega (arith, eqb-true x y p), λ z. leb-true τ b (both_true (ltb a τ) (leb τ b) q).1)
holds_past y τ (move v) e = tt

-- a row that may follow one past that second is past it too, and does not hold over it
past_next : (count last y τ : ℕ) (r s : Row) → fits count last s ≡ true → Past y τ r → follows r s ≡ true
    → Past y τ s × (holds_over y τ s ≡ false)
unfolding holds_over Past follows
past_next count last y τ (hold x a b) (hold x' c d) fit (p, q) e =
    go (fits_hold count last x' c d fit) (either_true (ltb x x') (both (eqb x x') (ltb b c)) e) (same_or_not x' y)
  where
    go : (x' < count) × (c < d) × (d ≤ last) → (ltb x x' ≡ true) ⊎ (both (eqb x x') (ltb b c) ≡ true) → (x' ≡ y) ⊎ (x' ≢ y)
        → Past y τ (hold x' c d) × (holds_over y τ (hold x' c d) ≡ false)
    go f (inl l) z =
        let h = ltb-true x x' l in
        ((omega arith, λ w. absurd (omega arith)), rw (ne_eqb x' y (omega arith)))
    go f (inr l) (inl z) =
        let (u, v) = both_true (eqb x x') (ltb b c) l in
        let g = eqb-true x x' u in
        let h = ltb-true b c v in
        let k : τ ≤ b = q (g ∙ z) in
        ((omega arith, λ w. omega arith), rw (eq-eqb x' y z, le-ltb c τ (omega arith)))
    go f (inr l) (inr z) =
        let g = eqb-true x x' (both_true (eqb x x') (ltb b c) l).0 in
        ((omega arith, λ w. absurd (z w)), rw (ne_eqb x' y z))
past_next count last y τ (hold x a b) (move v) fit p e = (tt, refl)
past_next count last y τ (move u) (hold x' c d) fit p e = absurd (not_both e refl)
past_next count last y τ (move u) (move v) fit p e = (tt, refl)

-- 1 for a row that holds over that second
over : ℕ → ℕ → Row → ℕ
over y τ r = pick (holds_over y τ r) 1 0

module _ (count last y τ : ℕ) where
  -- after a row past that second none holds over it
  past_all : (r : Row) (rows : List Row) → all_fit count last rows ≡ true → ordered (r ∷ rows) ≡ true → Past y τ r
      → total (over y τ) rows ≡ 0
  unfolding total all_fit ordered over
  past_all r [] fit order past = refl
  past_all r (s ∷ rows) fit order past =
      let (f, g) = both_true (fits count last s) (all_fit count last rows) fit in
      let (o, p) = both_true (follows r s) (ordered (s ∷ rows)) order in
      let (t, e) = past_next count last y τ r s f past o in
      rw e (omega (arith, past_all s rows g p t))

  -- so of ordered rows that fit at most one does
  held_once : (rows : List Row) → all_fit count last rows ≡ true → ordered rows ≡ true
      → pick (held_over y τ rows) 1 0 ≡ total (over y τ) rows
  unfolding total all_fit held_over over
  held_once [] fit order = refl
  held_once (r ∷ rows) fit order =
      let (f, g) = both_true (fits count last r) (all_fit count last rows) fit in
      go g (true_or_false (holds_over y τ r)) (held_once rows g (ordered_tail r rows order))
    where
      go : all_fit count last rows ≡ true → (holds_over y τ r ≡ true) ⊎ (holds_over y τ r ≡ false)
          → pick (held_over y τ rows) 1 0 ≡ total (over y τ) rows → pick (held_over y τ (r ∷ rows)) 1 0 ≡ total (over y τ) (r ∷ rows)
      go g (inl e) ih = rw e (omega (arith, past_all r rows g order (holds_past y τ r e)))
      go g (inr e) ih = rw e (omega arith)

-- where days have n seconds: the seconds of day d that are in (a, b]
day_part : (n a b d : ℕ) → sum n (λ i. inside a b (n * d + i)) ≡ (min (n * suc d) b - a) - (min (n * d) b - a)
day_part n a b d =
    let e : n * suc d ≡ n * d + n = omega arith in
    rw e (less (sum_beyond (inside a b) (n * d) n) (sum_inside a b (n * d + n)) (sum_inside a b (n * d)))
  where
    less : {all first rest u v : ℕ} → all ≡ first + rest → all ≡ u → first ≡ v → rest ≡ u - v
    less p q r = omega arith

-- the seconds of a day over which a row holds
row_part : (y d : ℕ) (r : Row) → sum day_seconds (λ i. over y (day_seconds * d + i) r) ≡ row_in_day y d r
unfolding over holds_over row_in_day in_day inside
row_part y d (hold x a b) = go (eqb x y)
  where
    go : (t : Bool)
        → sum day_seconds (λ i. pick (both t (both (ltb a (day_seconds * d + i)) (leb (day_seconds * d + i) b))) 1 0) ≡ pick t (in_day a b d) 0
    go true = day_part day_seconds a b d
    go false = sum_zero day_seconds (λ i. 0) (λ i c e. refl)
row_part y d (move v) = sum_zero day_seconds (λ i. 0) (λ i a b. refl)

-- rows that are ordered and fit hold nothing twice, so a cell is the total of its rows' seconds
pub cell_total : (count last : ℕ) (rows : List Row) → all_fit count last rows ≡ true → ordered rows ≡ true → (y d : ℕ)
    → cell rows y d ≡ total (row_in_day y d) rows
unfolding cell
cell_total count last rows fit order y d =
    sum_same day_seconds (λ i. pick (held_over y (day_seconds * d + i) rows) 1 0) (λ i. total (over y (day_seconds * d + i)) rows)
    (λ i a b. held_once count last y (day_seconds * d + i) rows fit order)
    ∙ sum_total day_seconds rows (λ r i. over y (day_seconds * d + i) r)
    ∙ total_same (λ r. sum day_seconds (λ i. over y (day_seconds * d + i) r)) (row_in_day y d) rows (row_part y d)

-- no cell is more than a day
pub cell_most : (rows : List Row) (y d : ℕ) → cell rows y d ≤ day_seconds
unfolding cell
cell_most rows y d =
    sum_at_most day_seconds (λ i. pick (held_over y (day_seconds * d + i) rows) 1 0)
    (λ i a b. one (held_over y (day_seconds * d + i) rows))
  where
    one : (t : Bool) → pick t 1 0 ≤ 1
    one true = omega arith
    one false = omega arith
