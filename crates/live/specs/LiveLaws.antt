-- No scan of an accepted log's requests is refused, nor a close after them.
use Rattle.std.specs.Prelude.{Bool, true, false, List, [], ◌∷◌, ◌++◌, ◌≡◌, ℕ, zero, suc, ◌+◌, ◌*◌, ◌≤◌, ◌<◌, get_or, Ok}
use Rattle.std.proofs.Math.Path.{refl, ap}
use Rattle.std.proofs.Common.{sym, ◌∙◌, arith, le-ltb, ne_eqb}
use Rattle.std.proofs.lemmas.Bool.{lt-leb}
use Rattle.base.specs.Choice.{pick}
use Rattle.base.specs.Refusals.{first, Verdict}
use Rattle.base.specs.Bytes.{le16, le32}
use Rattle.base.specs.Lists.{build}
use Rattle.base.specs.SameLaws.{equal_same}
use Rattle.prices.specs.Prices.{prices_of, InRange}
use Rattle.prices.specs.PriceLaws.{Priced}
use Rattle.prices.specs.Tariff.{Tariff}
use Rattle.request_log.specs.Fields.{class_of, id_of, setup_of, header_of, request_count, seconds_of, servers_of}
use Rattle.request_log.specs.Conditions.{Accepted}
use Rattle.request_log.specs.Ranges as ranges
use Rattle.request_log.specs.AcceptedLaws as accepted
use Rattle.model.specs.Requests.{Requests, requests}
use Rattle.model.specs.LogRequests.{requests_in, prices_in}
use Rattle.model.proofs.LogRequestLaws.{log_priced}
use Rattle.online.specs.declared.Cache.{Cache}
use Rattle.online.specs.declared.Service.TheVariants.{Kept, Sent}
use Rattle.online.specs.Rules.{fresh, kept, accept, running}
use Rattle.online.specs.Conditions.{scan_conditions, close_conditions}
use Rattle.online.specs.Answers.{log_start_verdict, scan_verdict, close_verdict, started_for_log, started_by, mark_outcome, scanned, scanned_by}
use Rattle.bounds.specs.Calls.{Call, scan, after, run}
use Rattle.bounds.proofs.CallLaws.{after_scan}
use Rattle.online.specs.Intact.{Intact, intact_unbroken}
use Rattle.bounds.proofs.Reached.{Reached, reached_fresh, reached_scan, reached_intact}
use Rattle.live.specs.declared.Turn.{Turn}
use Rattle.live.specs.Live.{scans, state_after, live_mark, live_cost, opened}
use Rattle.live.specs.Replies.{outcome_letter, outcome_cost, turn}

-- a request whose scan is not refused is answered by the rules
pub turn_passed : (c : Cache) (id : List ℕ) (second server : ℕ) → scan_verdict c id second server ≡ Ok tt
    → turn c id second server
    ≡ record { cache = accept c second server; mark = pick (kept c second server) 75 83; cost = running (accept c second server) }
unfolding turn outcome_cost outcome_letter scanned scanned_by mark_outcome
turn_passed c id second server e = rw e (go (kept c second server))
  where
    cost : ℕ
    cost = running (accept c second server)

    go : (b : Bool)
        → let o = pick b (Ok (Kept cost)) (Ok (Sent c.last cost)) in
        ◌≡◌ {A = Turn}
        (record { cache = accept c second server; mark = outcome_letter o; cost = outcome_cost o })
        (record { cache = accept c second server; mark = pick b 75 83; cost = cost })
    go true = refl
    go false = refl

-- the scans of the first n of some requests are not refused
unfoldable pub Runs : Cache → List ℕ → List ℕ → List ℕ → ℕ → Type 0
Runs c id seconds servers n = (i : ℕ) → i < n → scan_verdict (state_after c id seconds servers i) id (get_or seconds i 0) (get_or servers i 0) ≡ Ok tt

-- calls and then others
run_append : (c : Cache) (xs ys : List Call) → run c (xs ++ ys) ≡ run (run c xs) ys
unfolding run
run_append c [] ys = refl
run_append c (x ∷ xs) ys = run_append (after c x) xs ys

-- one scan more
state_step : (c : Cache) (id seconds servers : List ℕ) (k : ℕ)
    → state_after c id seconds servers (suc k) ≡ after (state_after c id seconds servers k) (scan id (get_or seconds k 0) (get_or servers k 0))
unfolding state_after scans build run
state_step c id seconds servers k = run_append c (scans id seconds servers k) (scan id (get_or seconds k 0) (get_or servers k 0) ∷ [])

-- of a log's requests, as they stand in its bytes
pub state_read : (c : Cache) (id log : List ℕ) (k : ℕ) → k < request_count log
    → state_after c id (seconds_of log) (servers_of log) (suc k)
    ≡ (scanned (state_after c id (seconds_of log) (servers_of log) k) id (le32 log (40 + 6 * k)) (le16 log (44 + 6 * k))).cache
unfolding after
state_read c id log k h =
    state_step c id (seconds_of log) (servers_of log) k ∙ rw (accepted.second_at log k h, accepted.server_at log k h)

-- one that is not refused
pub state_next : (c : Cache) (id seconds servers : List ℕ) (k : ℕ)
    → scan_verdict (state_after c id seconds servers k) id (get_or seconds k 0) (get_or servers k 0) ≡ Ok tt
    → state_after c id seconds servers (suc k) ≡ accept (state_after c id seconds servers k) (get_or seconds k 0) (get_or servers k 0)
state_next c id seconds servers k e =
    state_step c id seconds servers k ∙ after_scan (state_after c id seconds servers k) id (get_or seconds k 0) (get_or servers k 0) e

-- and what its calls answer
pub turn_next : (c : Cache) (id seconds servers : List ℕ) (i : ℕ) (state : Cache) → state ≡ state_after c id seconds servers i
    → scan_verdict (state_after c id seconds servers i) id (get_or seconds i 0) (get_or servers i 0) ≡ Ok tt
    → turn state id (get_or seconds i 0) (get_or servers i 0)
    ≡ record {
      cache = state_after c id seconds servers (suc i);
      mark = live_mark c id seconds servers i;
      cost = live_cost c id seconds servers i;
    }
unfolding live_mark live_cost
turn_next c id seconds servers i state e g =
    rw (e, state_next c id seconds servers i g)
    (turn_passed (state_after c id seconds servers i) id (get_or seconds i 0) (get_or servers i 0) g)

-- the verdict of a close for which nothing holds
close_passes : (c : Cache) → Intact c → c.closed ≡ false → close_verdict c ≡ Ok tt
unfolding close_verdict close_conditions first
close_passes c s e = rw (intact_unbroken c s, e)

-- the verdict of a scan for which nothing holds
scan_passes : (c : Cache) (id : List ℕ) (second server : ℕ) → id ≡ c.id → server < c.server_count → 1 ≤ second → second ≤ 4000000 → Intact c → c.closed ≡ false
    → c.requests < 2048 → c.second < second → scan_verdict c id second server ≡ Ok tt
unfolding scan_verdict scan_conditions first
scan_passes c id second server z a b d s e f g =
    rw (z, equal_same c.id, lt-leb _ _ a, ne_eqb second 0 (λ z. omega arith), le-ltb _ _ d, intact_unbroken c s, lt-leb _ _ f, lt-leb _ _ g, e)

module _ (t : Tariff) (priced : Priced t) (log : List ℕ) (a : Accepted t log) where
  -- what the log has
  abbrev facts : ranges.Sound log
  facts = accepted.accepted_sound t log a

  abbrev q : Requests
  q = requests_in log

  -- its start is not refused
  pub starts : log_start_verdict t (setup_of log) ≡ Ok tt
  unfolding log_start_verdict
  starts = rw (accepted.accepted_judged t log a) ((accepted.setup_allowed t.table (setup_of log)).1 (accepted.accepted_class t log a, facts.setup))

  -- with prices in range
  range : InRange (prices_of t.table (class_of log))
  unfolding prices_in
  range = log_priced t priced log a

  pub opened_fresh : opened t log ≡ fresh t.table (header_of log)
  unfolding opened started_for_log started_by header_of
  opened_fresh = ap (λ (v : Verdict). (started_by v t.table (header_of log)).cache) starts

  -- the state after its first k requests
  abbrev state : ℕ → Cache
  state k = state_after (opened t log) (id_of log) (seconds_of log) (servers_of log) k

  abbrev second : ℕ → ℕ
  second k = get_or (seconds_of log) k 0

  abbrev server : ℕ → ℕ
  server k = get_or (servers_of log) k 0

  -- it is the one that the history of the log's requests gives, and it is not closed
  pub record At (k : ℕ) : Type 0 where
    pub reached : Reached t.table (header_of log) q (state k) k
    pub unclosed : (state k).closed ≡ false

  -- 32 does not hold of it
  intact_at : (k : ℕ) → At k → Intact (state k)
  unfolding header_of
  intact_at k s = reached_intact t.table (header_of log) facts.setup range q (state k) k s.reached

  -- the scan of the next request passes
  passes : (k : ℕ) → k < request_count log → At k → scan_verdict (state k) (id_of log) (second k) (server k) ≡ Ok tt
  unfolding requests_in requests header_of
  passes k h s =
      let r = s.reached in
      let o = facts.in_order k h in
      scan_passes (state k) (id_of log) (second k) (server k) (sym r.id_is)
      (omega (arith, r.count_is, o.server_below)) o.second_least o.second_most (intact_at k s) s.unclosed
      (omega (arith, r.agrees.requests_are, facts.requests_most))
      (omega (arith, r.agrees.second_is, accepted.before_is (seconds_of log) k, o.later))

  -- at the start
  at_start : At 0
  unfolding state_after scans build run fresh requests_in requests header_of
  at_start =
      record {
        reached = rw opened_fresh (reached_fresh t.table (header_of log) facts.setup q refl refl);
        unclosed = rw opened_fresh refl;
      }

  -- after one request more
  at_next : (k : ℕ) → k < request_count log → At k → At (suc k)
  unfolding requests_in requests accept header_of
  at_next k h s =
      let e = passes k h s in
      let n = state_next (opened t log) (id_of log) (seconds_of log) (servers_of log) k e in
      record {
        reached = rw n (reached_scan t.table (header_of log) q (state k) k (id_of log) (second k) (server k) s.reached e refl refl);
        unclosed = rw n s.unclosed;
      }

  -- after each of its requests
  at : (k : ℕ) → k ≤ request_count log → At k
  at zero h = at_start
  at (suc k) h = at_next k (omega arith) (at k (omega arith))

  -- 32 never holds
  pub intact_after : (k : ℕ) → k ≤ request_count log → Intact (state k)
  intact_after k h = intact_at k (at k h)

  -- every request is scanned
  pub goes_on : (k : ℕ) → k < request_count log → scan_verdict (state k) (id_of log) (second k) (server k) ≡ Ok tt
  goes_on k h = passes k h (at k (omega arith))

  -- and the close after them is not refused
  pub closes : close_verdict (state (request_count log)) ≡ Ok tt
  closes = let s = at (request_count log) (omega arith) in close_passes (state (request_count log)) (intact_at (request_count log) s) s.unclosed
