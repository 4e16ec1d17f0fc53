-- Uploads from the ticket office (02's Req 11). What Optimality, Sources, CheckerAccepts, Calls and the planner's half of Demand3 say, they say for every
-- upload price and for none. Here: with none all is as 01 has it; which uploads a plan has; an upload price makes no plan dearer; and who is refused
-- with 44.
use Rattle.std.specs.Prelude.{true, false, ◌≢◌, ◌≡◌, ℕ, ◌+◌, ◌*◌, ◌≤◌, ◌<◌, Err}
use Rattle.base.specs.declared.reasons.Reason.TheVariants as reason
use mathlib.Core.List.{List, [], Memᴰ}
use Rattle.std.proofs.Common.{inl, inr, ◌∙◌, arith}
use Rattle.std.proofs.Math.Option.{some}
use Rattle.std.proofs.Math.Path.{refl}
use Rattle.base.specs.Choice.{not_both, true_or_false}
use Rattle.base.specs.Refusals.{refuse, first, Verdict}
use Rattle.base.specs.RefusalLaws.{first_failed}
use Rattle.prices.specs.declared.Prices.{Prices}
use Rattle.prices.specs.Prices.{price_outside}
use Rattle.prices.specs.Tariff.{Tariff}
use Rattle.prices.specs.Uploads.{upload_conditions, Taken}
use Rattle.prices.specs.UploadLaws.{taken_iff}
use Rattle.request_log.specs.Conditions.{Accepted}
use Rattle.model.specs.Rates.{Rates, rates, plain, some?, or_zero, offers}
use Rattle.model.specs.Sums.{total}
use Rattle.model.specs.Requests.{Requests}
use Rattle.model.specs.Schedule.{Row, move, upload, Feasible, length_of, is_transfer, cost_of}
use Rattle.model.proofs.RateLaws.{no_upload}
use Rattle.model.specs.Marking.{Mark, K, S, U, legal, Valid, cost, source, rows}
use Rattle.model.proofs.MarkLaws.{loads_U}
use Rattle.model.proofs.RowMembers.{Made, as_hold, as_transfer, as_upload, rows_row, upload_in}
use Rattle.model.specs.Plan.{plan, plan_rows, rank, Before}
use Rattle.model.proofs.PlanLaws.{plan_planned}
use Rattle.checker.specs.Answers.{check_conditions, check_verdict_of}
use Rattle.planner.specs.Answers.{plan_verdict, least_verdict}
use Rattle.request_log.specs.ConditionLaws.{after_accepted}

-- ---- without an upload price

-- 01's schedules and plan, where no upload price is given
pub record WithoutUploads (p : Prices) (q : Requests) (n : ℕ) : Type 0 where
  -- no feasible schedule has an upload
  pub no_upload : (rows : List Row) → Feasible (plain p) q n rows → (x τ : ℕ) → Memᴰ (move (upload x τ)) rows → ⊥
  -- it costs the hold price × its seconds and the transfer price × its transfers
  pub costs : (rows : List Row) → Feasible (plain p) q n rows → cost_of (plain p) rows ≡ p.hold * total length_of rows + p.transfer * total is_transfer rows
  -- no legal mark is U
  pub no_U : (m : ℕ → Mark) → Valid (plain p) q m n → (i : ℕ) → 1 ≤ i → i ≤ n → m i ≢ U
  -- and at the latest request where another marking of the plan's cost differs from it, the plan has K
  pub ties : (m : ℕ → Mark) → Valid (plain p) q m n → cost (plain p) q m n ≡ cost (plain p) q (plan (plain p) q n) n → (d : ℕ) → 1 ≤ d → d ≤ n
      → plan (plain p) q n d ≢ m d → ((i : ℕ) → d < i → i ≤ n → plan (plain p) q n i ≡ m i) → plan (plain p) q n d ≡ K

module _ (p : Prices) (q : Requests) (n : ℕ) where
  -- uploads are not offered
  pub not_offered : offers (plain p) ≡ false
  unfolding rates some?
  not_offered = refl

  no_U : (m : ℕ → Mark) → Valid (plain p) q m n → (i : ℕ) → 1 ≤ i → i ≤ n → m i ≢ U
  unfolding legal
  no_U m v i a b e = not_both (rw e at (v i a b)) not_offered

-- of two marks that are not U, a tie goes to the first only if it is K
first_K : (a b : Mark) → rank a < rank b → a ≢ U → b ≢ U → a ≡ K
unfolding rank
first_K K b h x y = refl
first_K S K h x y = absurd (omega arith)
first_K S S h x y = absurd (omega arith)
first_K S U h x y = absurd (y refl)
first_K U b h x y = absurd (x refl)

-- WITHOUT AN UPLOAD PRICE all is as 01 has it
pub without_uploads : (p : Prices) (q : Requests) (n : ℕ) → WithoutUploads p q n
unfolding cost_of rates or_zero Before
without_uploads p q n =
    let P = plan_planned (plain p) q n in
    let m = plan (plain p) q n in
    record {
      no_upload = λ rows F. no_upload (plain p) q n rows F (not_offered p q n);
      costs = λ rows F. omega arith;
      no_U = no_U p q n;
      ties = λ m' v e d a b x y. first_K (m d) (m' d) (P.before m' v e d a b x y) (no_U p q n m P.lawful d a b) (no_U p q n m' v d a b);
    }

-- ---- with one

-- an upload to x at τ serves a request of the plan that is marked U
pub record ServesU (p : Rates) (q : Requests) (n x τ : ℕ) : Type 0 where
  pub request : ℕ
  pub first : 1 ≤ request
  pub upto : request ≤ n
  pub marked : plan p q n request ≡ U
  pub target : x ≡ q.server request
  pub second : τ ≡ q.time request

-- THE UPLOADS among the plan's rows are these: each serves a U, and each U has one
pub record Uploaded (p : Rates) (count : ℕ) (q : Requests) (n : ℕ) : Type 0 where
  pub each : (x τ : ℕ) → Memᴰ (move (upload x τ)) (plan_rows p q count n) → ServesU p q n x τ
  pub every_u : (i : ℕ) → 1 ≤ i → i ≤ n → plan p q n i ≡ U → Memᴰ (move (upload (q.server i) (q.time i))) (plan_rows p q count n)

pub uploaded : (p : Rates) (count : ℕ) (q : Requests) (n : ℕ) → Uploaded p count q n
unfolding plan_rows rows
uploaded p count q n = record { each = λ x τ r. go (rows_row q m n from count r); every_u = λ i a b e. upload_in q m n from count i a b e }
  where
    m : ℕ → Mark
    m = plan p q n

    from : ℕ → ℕ
    from = source q count (plan p q n) n

    go : {x τ : ℕ} → Made q m n from count (move (upload x τ)) → ServesU p q n x τ
    go (as_hold h) = absurd (let z : ◌≡◌ {A = ℕ} 0 1 = cc h.is in omega arith)
    go (as_transfer h) = absurd (let z : ◌≡◌ {A = ℕ} 0 1 = cc h.is in omega arith)
    go (as_upload h) =
        record { request = h.request; first = h.first; upto = h.upto; marked = loads_U (m h.request) h.passes; target = cc h.is; second = cc h.is }

-- ---- 44

-- the refusal of an upload price
abbrev pub out_of_range : Verdict
out_of_range = Err (record { reason = reason.UploadPrice; place = 0 })

-- each call that is given it, for a log that is accepted, whatever else it is given
pub record PriceRefused (t : Tariff) (y : ℕ) (log : List ℕ) : Type 0 where
  pub plan : (marks rows : ℕ) → plan_verdict t (some y) log marks rows ≡ out_of_range
  pub least : (costs : ℕ) → least_verdict t (some y) log costs ≡ out_of_range
  pub check : (rows : List ℕ) → check_verdict_of t (some y) log rows ≡ out_of_range

-- WHO IS REFUSED WITH 44: where the log is accepted, every call whose price is not from 1 to 1,000,000. A refused log is refused by its own conditions,
-- which come before (Calls)
pub price_refused : (t : Tariff) (y : ℕ) (log : List ℕ) → Accepted t log → (Taken (some y) → ⊥) → PriceRefused t y log
unfolding plan_verdict least_verdict check_verdict_of check_conditions upload_conditions first
price_refused t y log a out =
    record {
      plan = λ marks rows. after_accepted t log _ a ∙ rw outside;
      least = λ costs. after_accepted t log _ a ∙ rw outside;
      check = λ rows. after_accepted t log _ a ∙ rw outside;
    }
  where
    outside : price_outside y ≡ true
    outside = elim (true_or_false (price_outside y)) [
      | inl e ↦ e
      | inr e ↦ absurd (out ((taken_iff (some y)).0 (first_failed (refuse reason.UploadPrice 0 (price_outside y)) [] e)))
    ]
