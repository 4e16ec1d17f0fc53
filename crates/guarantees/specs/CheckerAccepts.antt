-- The checker accepts exactly the schedules, and refuses by where copies stand, over the definitions that its contract cites.
use Rattle.std.specs.Prelude.{true, List, ◌↔◌, ◌≡◌, refl, ℕ, suc, Ok}
use Rattle.std.proofs.Math.Option.{Option}
use Rattle.std.proofs.Common.{sym, ◌∙◌}
use Rattle.base.specs.Refusals.{first, nth}
use Rattle.prices.specs.Tariff.{Tariff}
use Rattle.prices.specs.Uploads.{Taken}
use Rattle.prices.specs.UploadLaws.{taken_iff}
use Rattle.request_log.specs.Fields.{server_count_of, request_count}
use Rattle.request_log.specs.Conditions.{Accepted}
use Rattle.model.specs.Rates.{Rates}
use Rattle.model.specs.Requests.{Requests}
use Rattle.model.specs.Schedule.{Row, Stands, Backed, Feasible, cost_of}
use Rattle.model.specs.RowForm.{row_at, rows_of, flat, well_formed}
use Rattle.model.specs.LogRequests.{requests_in, rates_in}
use Rattle.model.specs.Checking.{row_count, check_cost, copy_condition, serve_condition, form_conditions}
use Rattle.model.proofs.FlatLaws.{flat_rows_of}
use Rattle.model.proofs.CheckingLaws.{flat_scheduled, flat_cost, unbacked, unserved}
use Rattle.checker.specs.Answers.{check_answer, Answered}
use Rattle.checker.proofs.Accepts.{answers_cost}

-- it answers a cost if and only if the log is accepted, the upload price, if one is given, is in range, the numbers are rows that are well formed and
-- feasible for the log, and that is their cost
pub check_accepts : (t : Tariff) (u : Option ℕ) (log numbers : List ℕ) (cost : ℕ)
    → (check_answer t u log numbers ≡ Ok cost) ↔ Answered t u log numbers cost
check_accepts = answers_cost

-- a list of rows, well formed and feasible for an accepted log, with its numbers and its cost
pub record ScheduleOf (t : Tariff) (u : Option ℕ) (log numbers : List ℕ) (cost : ℕ) : Type 0 where
  pub log_accepted : Accepted t log
  pub price_taken : Taken u
  pub rows : List Row
  pub numbers_are : numbers ≡ flat rows
  pub formed : well_formed (server_count_of log) (request_count log) ((requests_in log).time (request_count log)) rows ≡ true
  pub feasible : Feasible (rates_in t u log) (requests_in log) (request_count log) rows
  pub cost_is : cost ≡ cost_of (rates_in t u log) rows

-- THE CHECKER ACCEPTS exactly the numbers of such rows
pub accepts_schedules : (t : Tariff) (u : Option ℕ) (log numbers : List ℕ) (cost : ℕ)
    → (check_answer t u log numbers ≡ Ok cost) ↔ ScheduleOf t u log numbers cost
unfolding check_cost row_count
accepts_schedules t u log numbers cost = (λ e. to ((check_accepts t u log numbers cost).0 e), λ s. (check_accepts t u log numbers cost).1 (from s))
  where
    to : Answered t u log numbers cost → ScheduleOf t u log numbers cost
    to a =
        let s = a.rows_accepted in
        record {
          log_accepted = a.log_accepted;
          price_taken = (taken_iff u).0 a.price_accepted;
          rows = rows_of numbers;
          numbers_are = sym (flat_rows_of (rates_in t u log) numbers s.whole s.kinds);
          formed = s.shaped;
          feasible = s.feasible;
          cost_is = a.cost_is;
        }

    from : ScheduleOf t u log numbers cost → Answered t u log numbers cost
    from s =
        rw s.numbers_are
        (record {
          log_accepted = s.log_accepted;
          price_accepted = (taken_iff u).1 s.price_taken;
          rows_accepted = flat_scheduled (rates_in t u log) (server_count_of log) (requests_in log) (request_count log) s.rows s.formed s.feasible;
          cost_is = s.cost_is ∙ sym (flat_cost (rates_in t u log) s.rows);
        })

-- so rows that are well formed and feasible for an accepted log are accepted, with their cost
pub schedule_accepted : (t : Tariff) (u : Option ℕ) (log : List ℕ) (rows : List Row) → Accepted t log → Taken u
    → well_formed (server_count_of log) (request_count log) ((requests_in log).time (request_count log)) rows ≡ true
    → Feasible (rates_in t u log) (requests_in log) (request_count log) rows
    → check_answer t u log (flat rows) ≡ Ok (cost_of (rates_in t u log) rows)
schedule_accepted t u log rows accepted taken formed feasible =
    (accepts_schedules t u log (flat rows) (cost_of (rates_in t u log) rows)).1
    (record { log_accepted = accepted; price_taken = taken; rows = rows; numbers_are = refl; formed = formed; feasible = feasible; cost_is = refl })

-- the conditions 17 and 18 of a list of rows, over the relation Stands
pub record ByStanding (count : ℕ) (q : Requests) (numbers : List ℕ) : Type 0 where
  -- 17 holds of row i, from 0, exactly if no copy stands where and when it begins
  pub seventeen : (i : ℕ) → ((nth (copy_condition count q numbers i) 0).holds ≡ true) ↔ (Backed (q.server 0) (rows_of numbers) (row_at numbers i) → ⊥)
  -- 18 holds of request i + 1 exactly if none stands at its server and second
  pub eighteen : (i : ℕ)
      → ((nth (serve_condition count q numbers i) 0).holds ≡ true) ↔ (Stands (q.server 0) (rows_of numbers) (q.server (suc i)) (q.time (suc i)) → ⊥)

-- they do wherever none of 14 to 16 holds, which come before them
pub by_standing : (p : Rates) (count : ℕ) (q : Requests) (n : ℕ) (numbers : List ℕ) → first (form_conditions p count q n numbers) ≡ Ok tt → ByStanding count q numbers
by_standing p count q n numbers e = record { seventeen = unbacked p count q n numbers e; eighteen = unserved p count q n numbers e }
