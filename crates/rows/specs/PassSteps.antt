-- One turn of each pass: what the code's step gives is the next value of the definition.
use Rattle.std.specs.Prelude.{Bool, true, false, not, List, [], ◌∷◌, ◌≢◌, ◌≡◌, refl, ℕ, zero, suc, ◌+◌, ◌-◌, ◌≤◌, ◌<◌, eqb}
use Rattle.base.specs.declared.reasons.Reason.TheVariants as reason
use Rattle.std.proofs.Common.{inl, inr, eq-eqb, ne_eqb, lt-ltb, le-ltb}
use native.Mathlib.Omega.{arith}
use Rattle.base.specs.Choice.{either, le_or_lt}
use Rattle.base.specs.Refusals.{refuse, from}
use Rattle.model.specs.RowForm.{row_at, fits, follows}
use Rattle.model.specs.Checking.{row_count, kind_fits, misplaced}
use Rattle.rows.specs.declared.Quad.{Quad}
use Rattle.rows.specs.Reading.{quad_at, as_row}
use Rattle.rows.specs.ReadingLaws.{server_read}
use Rattle.rows.specs.Passes.{join, servers, arrival, along, settle, upto, offering, row_tests, any_below, aims}
use Rattle.rows.specs.AnyLaws.{any_of, any_more}

-- one more row of a second
pub along_more : (ns : List ℕ) (t from start i w v : ℕ) (r : Quad) → from ≤ i → w ≡ along ns t from start (i - from)
    → r ≡ quad_at ns i → v ≡ arrival t w (as_row r) → v ≡ along ns t from start (i + 1 - from)
unfolding along quad_at row_at
along_more ns t from start i w v r h e d p =
    let n : i + 1 - from ≡ suc (i - from) = omega arith in
    let m : from + (i - from) ≡ i = omega arith in
    rw (n, m, ← e) (rw d at p)

-- one more of their servers
pub server_more : (ns : List ℕ) (from start i w v : ℕ) (r : Quad) → from ≤ i → w ≡ servers ns from start (i - from)
    → r ≡ quad_at ns i → v ≡ join w r.a → v ≡ servers ns from start (i + 1 - from)
unfolding servers quad_at row_at
server_more ns from start i w v r h e d p =
    let n : i + 1 - from ≡ suc (i - from) = omega arith in
    let m : from + (i - from) ≡ i = omega arith in
    rw (n, m, ← e, server_read) (rw d at p)

-- a pass that adds nothing ends it; one that adds something is one of those that are left
pub settle_stop : (f : ℕ → ℕ) (left w : ℕ) → 0 < left → f w ≡ w → settle left f w ≡ w
unfolding settle
settle_stop f zero w h e = absurd (omega arith)
settle_stop f (suc left) w h e = rw (eq-eqb (f w) w e)

pub settle_on : (f : ℕ → ℕ) (left w : ℕ) → 0 < left → f w ≢ w → settle left f w ≡ settle (left - 1) f (f w)
unfolding settle
settle_on f zero w h e = absurd (omega arith)
settle_on f (suc left) w h e = let d : suc left - 1 ≡ left = omega arith in rw (ne_eqb (f w) w e, d)

-- rows that end before the last one, or with it, end there
pub upto_same : (ns : List ℕ) (to : ℕ) → to ≤ row_count ns → upto ns to ≡ to
unfolding upto
upto_same ns to l = elim (le_or_lt (row_count ns) to) [
  | inl h ↦ rw (le-ltb to (row_count ns) h) (omega arith)
  | inr h ↦ rw (lt-ltb to (row_count ns) h)
]

-- the first row is in place; another by the row before it
pub misplaced_first : (ns : List ℕ) (i : ℕ) → i ≡ 0 → misplaced ns i ≡ false
unfolding misplaced
misplaced_first ns i e = rw e

pub misplaced_read : (ns : List ℕ) (i : ℕ) (r s : Quad) → i ≢ 0 → r ≡ quad_at ns (i - 1) → s ≡ quad_at ns i
    → misplaced ns i ≡ not (follows (as_row r) (as_row s))
unfolding misplaced quad_at row_at
misplaced_read ns zero r s n p q = absurd (n refl)
misplaced_read ns (suc i) r s n p q =
    let d : suc i - 1 ≡ i = omega arith in
    rw (lt-ltb 0 (suc i) (omega arith), rw d at p, q)

-- 15, then 16, by the numbers that were read
pub row_found : (given : Bool) (count n last : ℕ) (ns : List ℕ) (i p : ℕ) (r : Quad) (m : Bool) → p ≡ suc i → r ≡ quad_at ns i
    → m ≡ either (not (kind_fits (offering given) r.kind r.c)) (either (eqb n 0) (not (fits count last (as_row r))))
    → row_tests given count n last ns i ≡ refuse reason.RowForm p m ∷ refuse reason.RowOrder p (misplaced ns i) ∷ []
unfolding row_tests quad_at row_at
row_found given count n last ns i p r m d q e = rw (d, e, q)

-- ---- transfers to a server

module _ (ns : List ℕ) (x from : ℕ) where
  -- row from + j is one
  abbrev pub aims_on : ℕ → Bool
  aims_on j = aims x (row_at ns (from + j))

  -- row i, by the numbers that were read
  aims_read : (i : ℕ) (r : Quad) (b : Bool) → from ≤ i → r ≡ quad_at ns i → aims x (as_row r) ≡ b → aims_on (i - from) ≡ b
  unfolding quad_at row_at
  aims_read i r b h d e = let m : from + (i - from) ≡ i = omega arith in rw m (rw d at e)

  -- it is one, or none up to it
  pub aimed_there : (to i : ℕ) (r : Quad) → from ≤ i → i < to → r ≡ quad_at ns i → aims x (as_row r) ≡ true → any_below (to - from) aims_on ≡ true
  aimed_there to i r h l d e = any_of (to - from) aims_on (i - from) (omega arith) (aims_read i r true h d e)

  pub aimed_more : (i : ℕ) (r : Quad) → from ≤ i → any_below (i - from) aims_on ≡ false → r ≡ quad_at ns i → aims x (as_row r) ≡ false
      → any_below (i + 1 - from) aims_on ≡ false
  aimed_more i r h p d e =
      let n : i + 1 - from ≡ suc (i - from) = omega arith in
      rw n (any_more (i - from) aims_on p (aims_read i r false h d e))
