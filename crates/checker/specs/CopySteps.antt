-- One turn of each loop of 17, and its answer from its parts.
use Rattle.std.specs.Prelude.{Bool, true, false, not, List, [], ◌∷◌, ◌≡◌, ℕ, zero, suc, ◌+◌, ◌-◌, ◌≤◌, ◌<◌, min, ltb, eqb}
use Rattle.base.specs.declared.reasons.Reason.{Reason}
use Rattle.base.specs.declared.reasons.Reason.TheVariants as reason
use Rattle.std.proofs.Common.{sym, ap, arith, lt-ltb, le-ltb}
use Rattle.base.specs.Choice.{pick, either, both}
use Rattle.base.specs.Refusals.{refuse, first, each, otherwise}
use Rattle.base.specs.RefusalLaws.{first_append}
use Rattle.base.specs.Sets.{has}
use Rattle.model.specs.RowForm.{row_at}
use Rattle.model.specs.Checking.{row_count}
use Rattle.rows.specs.declared.Quad.{Quad}
use Rattle.rows.specs.Reading.{quad_at, as_row, server_of, second_of}
use Rattle.rows.specs.ReadingLaws.{server_read, target_read}
use Rattle.rows.specs.Passes.{any_below, puts, starts}
use Rattle.rows.specs.PassSteps.{aims_on}
use Rattle.checker.specs.Search.{hold_key, second_key, upload_key, position}
use Rattle.checker.specs.Quick.{standing_at, first_of, number_of, first_upload, loaded, fed, unfed, starved, unbacked, hold_test, transfer_test, copy_tests}
use Rattle.checker.specs.QuickSteps.{unless, alone}

-- one condition, which refuses where a test holds
found : (b : Bool) (why : Reason) (place : ℕ) → first (refuse why place b ∷ []) ≡ unless (not b) why place
found true why place = alone false why place
found false why place = alone true why place

-- the transfers of a second, and its upload to the server
pub fed_read : (home : ℕ) (ns : List ℕ) (t x from to : ℕ) (b d : Bool) → from ≡ position ns (second_key t) → to ≡ position ns (second_key (suc t))
    → b ≡ both (eqb t 0) (eqb x home) → d ≡ any_below (to - from) (aims_on ns x from) → fed home ns t x ≡ either b (either d (loaded ns t x))
unfolding fed first_of number_of
fed_read home ns t x from to b d p q e f =
    rw e (ap (λ (v : Bool). either (both (eqb t 0) (eqb x home)) (either v (loaded ns t x))) (sym (simp (p, q) at f)))

-- the upload, by the numbers that were read
pub loaded_past : (ns : List ℕ) (t x p : ℕ) → p ≡ position ns (upload_key t x) → row_count ns ≤ p → loaded ns t x ≡ false
unfolding loaded
loaded_past ns t x p e l = rw (← e, le-ltb p (row_count ns) l)

pub loaded_read : (ns : List ℕ) (t x p : ℕ) (r : Quad) (b : Bool) → p ≡ position ns (upload_key t x) → p < row_count ns → r ≡ quad_at ns p
    → b ≡ puts t x (as_row r) → loaded ns t x ≡ b
unfolding loaded quad_at row_at
loaded_read ns t x p r b e l d f = rw (← e, lt-ltb p (row_count ns) l, f, d)

-- ---- the first hold without a copy

pub unfed_read : (ns : List ℕ) (w t x p : ℕ) (r : Quad) (m b : Bool) → m ≡ has w x → p ≡ position ns (hold_key x t) → r ≡ quad_at ns p
    → b ≡ starts t x (as_row r) → unfed ns w t x ≡ pick m (row_count ns) (pick b p (row_count ns))
unfolding unfed quad_at row_at
unfed_read ns w t x p r m b e q d f = rw (← q, e, f, d)

pub starved_more : (count home : ℕ) (ns : List ℕ) (from i low t w u v : ℕ) (r : Quad) → from ≤ i → low ≡ starved count home ns from (i - from)
    → r ≡ quad_at ns i → t ≡ second_of (as_row r) → w ≡ standing_at count home ns t → u ≡ unfed ns w t r.b → v ≡ min u low
    → v ≡ starved count home ns from (i + 1 - from)
unfolding starved quad_at row_at
starved_more count home ns from i low t w u v r h e d p q f g =
    let n : i + 1 - from ≡ suc (i - from) = omega arith in
    let m : from + (i - from) ≡ i = omega arith in
    rw (n, m, ← e, target_read) (rw (f, q, p, d) at g)

-- ---- the first transfer without a copy

pub unbacked_more : (count home : ℕ) (ns : List ℕ) (from i late t w v : ℕ) (r : Quad) → from ≤ i → late ≡ unbacked count home ns from (i - from)
    → r ≡ quad_at ns i → t ≡ second_of (as_row r) → w ≡ standing_at count home ns t → v ≡ min (pick (has w r.a) (row_count ns) i) late
    → v ≡ unbacked count home ns from (i + 1 - from)
unfolding unbacked quad_at row_at
unbacked_more count home ns from i late t w v r h e d p q g =
    let n : i + 1 - from ≡ suc (i - from) = omega arith in
    let m : from + (i - from) ≡ i = omega arith in
    rw (n, m, ← e, server_read) (rw (q, p, d) at g)

-- it is not past the last row
pub unbacked_most : (count home : ℕ) (ns : List ℕ) (from n : ℕ) → unbacked count home ns from n ≤ row_count ns
unfolding unbacked
unbacked_most count home ns from zero = omega arith
unbacked_most count home ns from (suc n) = omega (arith, unbacked_most count home ns from n)

-- 17 for it
pub transfer_found : (ns : List ℕ) (late : ℕ) (b : Bool) → ltb late (row_count ns) ≡ b → first (transfer_test ns late) ≡ unless (not b) reason.NoCopy (suc late)
unfolding transfer_test
transfer_found ns late b e = rw e (found b reason.NoCopy (suc late))

-- ---- holds

-- hold i, by the numbers that were read
pub fails_read : (home : ℕ) (ns : List ℕ) (i t : ℕ) (r : Quad) (b : Bool) → r ≡ quad_at ns i → t ≡ second_of (as_row r) → b ≡ fed home ns t r.a
    → fed home ns (second_of (row_at ns i)) (server_of (row_at ns i)) ≡ b
unfolding quad_at row_at
fails_read home ns i t r b d p e = rw server_read (sym (rw (p, d) at e))

-- 17 for a hold
pub hold_found : (home : ℕ) (ns : List ℕ) (low i : ℕ) (b : Bool)
    → b ≡ either (eqb i low) (not (fed home ns (second_of (row_at ns i)) (server_of (row_at ns i))))
    → first (hold_test home ns low i) ≡ unless (not b) reason.NoCopy (suc i)
unfolding hold_test
hold_found home ns low i b e = rw (← e) (found b reason.NoCopy (suc i))

-- holds, then transfers
pub copy_parts : (count home : ℕ) (ns : List ℕ) (holds uploads low late : ℕ) → holds ≡ position ns (second_key 0) → uploads ≡ first_upload ns 0
    → low ≡ starved count home ns holds (uploads - holds) → late ≡ unbacked count home ns holds (uploads - holds)
    → first (copy_tests count home ns) ≡ otherwise (first (each (hold_test home ns low) holds)) (first (transfer_test ns late))
unfolding copy_tests first_of
copy_parts count home ns holds uploads low late p u q r = rw (← p, ← u, ← q, ← r) (first_append (each (hold_test home ns low) holds) (transfer_test ns late))
