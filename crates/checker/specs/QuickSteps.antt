-- One turn of each loop: what the code's step gives is the next value of the definition.
use Rattle.std.specs.Prelude.{Bool, true, false, not, List, [], ◌∷◌, ◌≢◌, ◌≡◌, refl, ℕ, zero, suc, ◌-◌, ◌≤◌, Ok, Err}
use Rattle.base.specs.declared.reasons.Reason.{Reason}
use Rattle.base.specs.declared.reasons.Reason.TheVariants as reason
use Rattle.std.proofs.Common.{arith, ne_eqb}
use Rattle.base.specs.Choice.{pick}
use Rattle.base.specs.Refusals.{refuse, first, Verdict}
use Rattle.model.specs.RowForm.{row_at}
use Rattle.model.specs.Checking.{row_count}
use Rattle.rows.specs.declared.Quad.{Quad}
use Rattle.rows.specs.Reading.{quad_at, as_row}
use Rattle.rows.specs.Passes.{covers, servers, along, settle, upto}
use Rattle.rows.specs.PassSteps.{upto_same}
use Rattle.checker.specs.Search.{hold_key, second_key, upload_key, position, InOrder}
use Rattle.checker.specs.SearchLaws.{position_most, position_up}
use Rattle.checker.specs.Quick.{reaches, gather, begun, first_of, number_of, first_upload, upload_number, sources, uploaded_to, before_transfers, second_pass, standing_at, served, serve_test}

-- the uploads of a second; where the first of all is past the last row there is none
pub uploads_none : (home : ℕ) (ns : List ℕ) → InOrder ns → (t uploads start : ℕ) → uploads ≡ first_upload ns 0 → row_count ns ≤ uploads
    → start ≡ begun home t → start ≡ uploaded_to home ns t
unfolding uploaded_to first_upload upload_number upload_key servers
uploads_none home ns up t uploads start p l e =
    let z : position ns (upload_key t 64) - position ns (upload_key t 0) ≡ 0 =
    omega (arith, position_most ns (upload_key t 64), position_up ns up (upload_key 0 0) (upload_key t 0) (omega arith)) in
    rw z e

pub uploads_read : (home : ℕ) (ns : List ℕ) (t from to start w : ℕ) → from ≡ position ns (upload_key t 0) → to ≡ position ns (upload_key t 64)
    → start ≡ begun home t → w ≡ servers ns from start (upto ns to - from) → w ≡ uploaded_to home ns t
unfolding uploaded_to first_upload upload_number
uploads_read home ns t from to start w p q s e =
    let u : upto ns to ≡ to = upto_same ns to (rw q (position_most ns (upload_key t 64))) in
    simp (p, q, s) at (rw u at e)

-- the set at a second, from its parts
pub standing_read : (count home : ℕ) (ns : List ℕ) (t from to some start w v : ℕ) → from ≡ position ns (second_key t)
    → to ≡ position ns (second_key (suc t)) → some ≡ servers ns from 0 (upto ns to - from) → start ≡ uploaded_to home ns t → w ≡ gather ns t some start count
    → v ≡ settle count (λ w. along ns t from w (upto ns to - from)) w → v ≡ standing_at count home ns t
unfolding standing_at before_transfers second_pass sources first_of number_of
standing_read count home ns t from to some start w v p q m s g e =
    let u : upto ns to ≡ to = upto_same ns to (rw q (position_most ns (second_key (suc t)))) in
    let n : some ≡ servers ns from 0 (to - from) = rw u at m in
    let d : v ≡ settle count (λ (w : ℕ). along ns t from w (to - from)) w = rw u at e in
    simp (g, n, s, p, q) at d

-- the row before the first after the holds of x that begin before t
pub reaches_read : (ns : List ℕ) (t x p : ℕ) (r : Quad) → p ≡ position ns (hold_key x t) → p ≢ 0 → r ≡ quad_at ns (p - 1)
    → reaches ns t x ≡ covers t x (as_row r)
unfolding reaches quad_at row_at
reaches_read ns t x zero r e n d = absurd (n refl)
reaches_read ns t x (suc p) r e n d =
    let q : suc p - 1 ≡ p = omega arith in
    rw (← e, ne_eqb (suc p) 0 n, rw q at d)

-- one condition, which refuses where a test fails
abbrev pub unless : Bool → Reason → ℕ → Verdict
unless b why place = pick b (Ok tt) (Err (record { reason = why; place = place }))

pub alone : (b : Bool) (why : Reason) (place : ℕ) → first (refuse why place (not b) ∷ []) ≡ unless b why place
unfolding first
alone true why place = refl
alone false why place = refl

-- 18 for a request
pub serve_found : (log ns : List ℕ) (i : ℕ) (b : Bool) → b ≡ served log ns i → first (serve_test log ns i) ≡ unless b reason.Unserved (suc i)
unfolding serve_test
serve_found log ns i b e = rw (← e) (alone b reason.Unserved (suc i))
