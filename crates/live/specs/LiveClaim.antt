-- An accepted log's requests as calls: demand 3's claim holds of the first k of them, and bounds the running cost after all of them.
use Rattle.std.specs.Prelude.{List, ◌≡◌, refl, leb, length, take, replicate, Ok}
use Rattle.std.proofs.Math.Option.{none}
use Rattle.std.proofs.Math.Path.{sym, ap, ap₂}
use Rattle.std.proofs.Common.{◌∙◌, arith, take_all, leb-true}
use Rattle.std.proofs.Math.Nat.{mul-le-mul_left}
use Prim.Native.Nat.{ℕ, zero, suc, ◌+◌, ◌*◌, ◌^◌, ◌≤◌, ◌<◌}
use Rattle.base.specs.Lists.{build, build_length, every, every_at}
use Rattle.base.specs.Refusals.{first}
use Rattle.prices.specs.declared.Prices.{Prices}
use Rattle.prices.specs.Prices.{priced, classes, prices_of}
use Rattle.prices.specs.PriceLaws.{Priced, classes_ranged}
use Rattle.prices.specs.Tariff.{Tariff, built_in}
use Rattle.request_log.specs.Fields.{id_of, class_of, home_of, server_count_of, request_count, seconds_of, servers_of, header_of}
use Rattle.request_log.specs.Conditions.{Accepted}
use Rattle.request_log.specs.Contents.{Contents, decode, first_requests, cut}
use Rattle.request_log.specs.Cutting.{cut_decodes}
use Rattle.request_log.specs.AnswerLaws.{accepted_header}
use Rattle.request_log.specs.AcceptedLaws.{accepted_class, accepted_sound, seconds_length, servers_length}
use Rattle.model.specs.Requests.{requests}
use Rattle.model.specs.LogRequests.{requests_in, prices_in, rates_in}
use Rattle.model.proofs.LogRequestLaws.{log_priced, log_rising, log_within, cut_prices}
use Rattle.model.specs.Plan.{plan_cost}
use Rattle.model.proofs.PlanLeast.{plan_least}
use Rattle.model.proofs.QuoteLaws.{hold_below}
use Rattle.online.specs.declared.Cache.{Cache}
use Rattle.online.specs.Rules.{running}
use Rattle.online.specs.Conditions.{running_conditions}
use Rattle.online.specs.Answers.{running_verdict, running_by, running_answer}
use Rattle.online.specs.Intact.{intact_unbroken}
use Rattle.bounds.specs.Calls.{verdicts, requests_of}
use Rattle.bounds.specs.Progress.{begun, taken}
use Rattle.bounds.specs.Claim.{Claim, served, served_count}
use Rattle.bounds.proofs.ClaimLaws.{claim}
use Rattle.live.specs.Live.{calls_of, state_after, opened, running_bill, state_of}
use Rattle.live.specs.LiveLaws.{Runs, opened_fresh, goes_on, intact_after}
use Rattle.live.specs.LiveCalls.{scans_passed, request, scans_taken, requests_taken}

module _ (t : Tariff) (ranged : Priced t) (log : List ℕ) (k : ℕ) (a : Accepted t log) (h : k ≤ request_count log) where
  -- none of the first k calls is refused
  pub passed : verdicts (opened t log) (calls_of log k) ≡ replicate k (Ok tt)
  unfolding Runs
  passed = scans_passed (opened t log) (id_of log) (seconds_of log) (servers_of log) k (λ i l. goes_on t ranged log a i (omega arith))

  -- the claim holds of them
  pub claim_of : Claim t.table (header_of log) (opened t log) (calls_of log k)
  unfolding header_of prices_in
  claim_of =
      rw (opened_fresh t ranged log a)
      (claim t.table (header_of log) (accepted_sound t log a).setup (log_priced t ranged log a) (calls_of log k))

  -- they are all taken
  list_of : taken (header_of log) begun (calls_of log k) ≡ build k (request (id_of log) (seconds_of log) (servers_of log))
  list_of = scans_taken (header_of log) begun (id_of log) (seconds_of log) (servers_of log) k (sym claim_of.refused ∙ passed)

  pub count_is : served_count t.table (header_of log) (opened t log) (calls_of log k) ≡ k
  count_is = ap length list_of ∙ build_length k (request (id_of log) (seconds_of log) (servers_of log))

  -- the requests taken are the log's first k
  first_served : served t.table (header_of log) (opened t log) (calls_of log k) ≡ requests (home_of log) (take k (seconds_of log)) (take k (servers_of log))
  unfolding header_of
  first_served =
      ap (requests_of (home_of log)) list_of
      ∙ requests_taken (home_of log) k (id_of log) (seconds_of log) (servers_of log) (omega (arith, seconds_length log)) (omega (arith, servers_length log))

  -- which are those of the log cut there
  pub served_is : served t.table (header_of log) (opened t log) (calls_of log k) ≡ requests_in (cut k log)
  unfolding decode first_requests header_of requests_in
  served_is =
      first_served ∙ sym (ap (λ (c : Contents). requests c.header.home c.seconds c.servers) (cut_decodes t log k a h))

  -- a claim's least cost is that of the cut log's plan
  pub least_of : (x : Claim t.table (header_of log) (opened t log) (calls_of log k)) → x.least ≡ plan_cost (rates_in t none (cut k log)) (requests_in (cut k log)) k
  unfolding prices_in header_of
  least_of x = x.is_planned ∙ rw (served_is, count_is, cut_prices t log k a h)

-- ---- all requests

-- the running cost after all requests of a log: at least the least cost of these, at most three times that, and at most what 256,000,000 seconds and
-- 2,048 transfers cost
pub record Bills (t : Tariff) (log : List ℕ) : Type 0 where
  pub no_less : plan_cost (rates_in t none log) (requests_in log) (request_count log) ≤ running_bill t log
  pub no_more : running_bill t log ≤ 3 * plan_cost (rates_in t none log) (requests_in log) (request_count log)
  pub most : running_bill t log ≤ (prices_in t log).hold * 256000000 + (prices_in t log).transfer * 2048

module _ (t : Tariff) (ranged : Priced t) (log : List ℕ) (a : Accepted t log) where
  abbrev n : ℕ
  n = request_count log

  abbrev final : Cache
  final = state_after (opened t log) (id_of log) (seconds_of log) (servers_of log) n

  all_claimed : Claim t.table (header_of log) (opened t log) (calls_of log n)
  all_claimed = claim_of t ranged log n a (omega arith)

  -- all of them are taken
  all_served : served t.table (header_of log) (opened t log) (calls_of log n) ≡ requests_in log
  unfolding requests_in
  all_served =
      first_served t ranged log n a (omega arith)
      ∙ ap₂ (requests (home_of log))
      (take_all n (seconds_of log) (omega (arith, seconds_length log)))
      (take_all n (servers_of log) (omega (arith, servers_length log)))

  -- so the claim's least cost is that of the log's plan
  all_least : all_claimed.least ≡ plan_cost (rates_in t none log) (requests_in log) n
  unfolding prices_in header_of
  all_least = all_claimed.is_planned ∙ rw (all_served, count_is t ranged log n a (omega arith))

  -- by the log's prices
  all_priced : final.prices ≡ prices_in t log
  unfolding state_after prices_in header_of
  all_priced = all_claimed.prices_are

  -- 32 never holds, so no more is held nor sent than it lets pass
  running_most : running_bill t log ≤ (prices_in t log).hold * 256000000 + (prices_in t log).transfer * 2048
  unfolding running_bill running
  running_most =
      let s = intact_after t ranged log a n (omega arith) in
      let transfers : final.transfers ≤ 2048 = omega (arith, s.transfers_most, s.requests_most) in
      rw (← all_priced) (omega (arith, mul-le-mul_left final.prices.hold s.held_most, mul-le-mul_left final.prices.transfer transfers))

  pub bills : Bills t log
  unfolding running_bill state_after
  bills =
      record {
        no_less = omega (arith, all_claimed.no_less, all_least);
        no_more = omega (arith, all_claimed.no_more, all_least);
        most = running_most;
      }

  -- where there is a request one copy is held for a second at least
  pub least_some : 1 ≤ n → 1 ≤ plan_cost (rates_in t none log) (requests_in log) n
  unfolding requests_in requests
  least_some h =
      let l = plan_least (rates_in t none log) (server_count_of log) (requests_in log) n (log_rising t log a) (log_within t log a) in
      let held = hold_below (prices_in t log) (server_count_of log) (requests_in log) n _ (log_rising t log a) (log_within t log a) l in
      omega (arith, held, mul-le-mul_left (prices_in t log).hold (last_late n refl), (log_priced t ranged log a).hold_least)
    where
      last_late : (m : ℕ) → m ≡ n → 1 ≤ (requests_in log).time m
      last_late zero e = absurd (omega arith)
      last_late (suc i) e = ((accepted_sound t log a).in_order i (omega arith)).second_least

-- and of any bytes that are an accepted log it is what the call answers
pub running_answered : (t : Tariff) → Priced t → (log : List ℕ) → Accepted t log → running_answer (state_of t log) ≡ Ok (running_bill t log)
unfolding state_of running_bill opened header_of running_answer running_verdict running_by running_conditions first
running_answered t ranged log a =
    rw (accepted_header t log a, intact_unbroken _ (intact_after t ranged log a (request_count log) (omega arith)))

-- ---- the built-in table

-- no class of it makes 256,000,000 seconds and 2,048 transfers cost more than 2,304,000,000
class_most : (class : ℕ) → class < length classes → (prices_of classes class).hold * 256000000 + (prices_of classes class).transfer * 2048 ≤ 2304000000
unfolding prices_of classes every
class_most class l =
    leb-true _ _ (every_at (λ (p : Prices). leb (p.hold * 256000000 + p.transfer * 2048) 2304000000) classes (priced 0 0) class refl l)

-- so with it the running cost after all requests has 32 bits
pub built_in_bills : (log : List ℕ) → Accepted built_in log → running_bill built_in log < 2 ^ 32
unfolding prices_in
built_in_bills log a =
    omega (arith, (bills built_in (λ e. classes_ranged) log a).most, class_most (class_of log) (accepted_class built_in log a))

-- and so has the least cost
pub least_most : (log : List ℕ) → Accepted built_in log → plan_cost (rates_in built_in none log) (requests_in log) (request_count log) < 2 ^ 32
least_most log a = omega (arith, (bills built_in (λ e. classes_ranged) log a).no_less, built_in_bills log a)
