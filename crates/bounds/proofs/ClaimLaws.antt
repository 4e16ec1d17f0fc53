-- The claim holds of every list of scan and close calls from a fresh state, for all prices in range.
use Rattle.std.specs.Prelude.{List, [], ◌≡◌, ℕ, ◌+◌, ◌*◌}
use Rattle.std.proofs.Math.Path.{refl, ap, ap₂}
use Rattle.std.proofs.Common.{◌∙◌, arith}
use Rattle.prices.specs.declared.Prices.{Prices}
use Rattle.prices.specs.Prices.{prices_of, window, InRange}
use Rattle.request_log.specs.declared.Header.{Header}
use Rattle.request_log.specs.Contents.{setup_in}
use Rattle.request_log.specs.Ranges.{Allowed}
use Rattle.model.specs.Rates.{plain}
use Rattle.model.specs.Requests.{Requests, requests, Within}
use Rattle.model.specs.Plan.{plan_cost}
use Rattle.model.proofs.PlanLaws.{plan_best}
use Rattle.model.proofs.PlanLeast.{plan_least}
use Rattle.online.specs.declared.Cache.{Cache}
use Rattle.online.specs.Servers.{across}
use Rattle.online.specs.ServerLaws.{across_same}
use Rattle.online.specs.Rules.{fresh, running, remaining, closing}
use Rattle.online.specs.ClosingLaws.{closing_more}
use Rattle.online.specs.Intact.{intact_unbroken}
use Rattle.bounds.specs.Calls.{Call, run, requests_of}
use Rattle.bounds.specs.Progress.{begun, taken, progress}
use Rattle.bounds.proofs.ProgressLaws as progress_laws
use Rattle.bounds.specs.History.{held, running_cost, closing_cost}
use Rattle.bounds.specs.History as history
use Rattle.bounds.proofs.WithinThree.{within_three, closing_within, closing_zero}
use Rattle.bounds.proofs.Agreement.{remaining_left}
use Rattle.bounds.proofs.NotBelow.{not_below}
use Rattle.bounds.proofs.Follows.{follows_of}
use Rattle.bounds.proofs.Reached.{reached_fresh, reached_intact}
use Rattle.bounds.proofs.Onward.{Along, Led, onward}
use Rattle.bounds.specs.Claim.{Claim, served, served_count}

module _ (table : List Prices) (s : Header) (k : Allowed (setup_in s)) (range : InRange (prices_of table s.«class»)) (calls : List Call) where
  -- in short
  abbrev p : Prices
  p = prices_of table s.«class»

  abbrev c : Cache
  c = run (fresh table s) calls

  abbrev q : Requests
  q = served table s (fresh table s) calls

  abbrev n : ℕ
  n = served_count table s (fresh table s) calls

  -- where the calls lead
  led : Led table s k range q calls (fresh table s) begun n
  unfolding requests_of requests fresh begun
  led =
      onward table s k range q calls (fresh table s) begun 0 n
      (record { reached = reached_fresh table s k q refl refl; second_is = refl; taken_is = refl; closed_is = refl })
      (follows_of s.home (taken s begun calls)) (omega arith)

  end : Along table s k range q c (progress s begun calls) n
  end = led.along

  -- the running cost is that of the history
  running_is : running c ≡ running_cost p q 64 n
  unfolding running running_cost
  running_is =
      let r = end.reached in
      ap (λ (x : Prices). x.hold * c.held + x.transfer * c.transfers) r.prices_are
      ∙ ap (λ (x : ℕ). p.hold * x + p.transfer * c.transfers) r.agrees.held_are
      ∙ ap (λ (x : ℕ). p.hold * held (window p) q 64 n + p.transfer * x) r.agrees.transfers_are

  -- all servers are below 64
  within_64 : Within 64 q n
  unfolding Within
  within_64 i h = omega (arith, end.reached.within i h, k.servers_most)

  -- so is the closing cost
  closing_is : closing c ≡ closing_cost p q 64 n
  unfolding closing closing_cost
  closing_is =
      let r = end.reached in
      ap₂ (λ (x y : ℕ). x + y) running_is
      (ap (λ (x : Prices). x.hold * across 64 (remaining c)) r.prices_are
      ∙ ap (λ (x : ℕ). p.hold * x) (across_same 64 (remaining c) (history.remaining (window p) q n) (remaining_left (window p) q c n r.agrees)))

  -- every list of calls from a fresh state is as claimed
  pub claim : Claim table s (fresh table s) calls
  claim =
      let r = end.reached in
      record {
        refused = led.refused;
        never_32 = λ x m. progress_laws.never_32 s begun calls x (rw led.refused at m);
        unbroken = intact_unbroken c (reached_intact table s k range q c n r);
        own_file = progress_laws.taken_own s begun calls;
        rising = r.rising;
        within = r.within;
        prices_are = r.prices_are;
        id_is = r.id_is;
        count_is = r.count_is;
        last_is = r.agrees.last_is;
        second_is = r.agrees.second_is;
        closed_is = end.closed_is;
        requests_are = r.agrees.requests_are;
        held_are = r.agrees.held_are;
        transfers_are = r.agrees.transfers_are;
        remaining_are = remaining_left (window p) q c n r.agrees;
        least = plan_cost (plain p) q n;
        is_least = plan_least (plain p) s.server_count q n r.rising r.within;
        is_planned = refl;
        no_less = omega (arith, running_is, plan_best (plain p) q n, not_below p q 64 n r.rising within_64);
        no_more =
            omega (
              arith,
              running_is,
              plan_best (plain p) q n,
              within_three p q 64 n range.hold_least r.rising within_64,
            );
        closing_no_less = closing_more c;
        closing_no_more =
            omega (
              arith,
              closing_is,
              plan_best (plain p) q n,
              closing_within p q 64 n range.hold_least r.rising within_64,
            );
      }

-- the closing cost of a fresh state is the holding of one window
pub closing_fresh : (table : List Prices) (s : Header) → Allowed (setup_in s) → InRange (prices_of table s.«class»)
    → closing (fresh table s) ≡ (prices_of table s.«class»).hold * window (prices_of table s.«class»)
unfolding run taken requests_of requests
closing_fresh table s k range =
    closing_is table s k range []
    ∙ closing_zero (prices_of table s.«class») (requests_of s.home []) 64 refl (omega (arith, k.home_below, k.servers_most))
