-- The close (02's Req 02): what it answers in any state, and after a list of calls how that stands to the least cost of the requests taken.
use Rattle.std.specs.Prelude.{true, List, ◌≡◌, ℕ, ◌+◌, ◌*◌, ◌≤◌, ◌<◌, Ok}
use Rattle.base.specs.Refusals.{Verdict}
use Rattle.std.proofs.Common.{ap, arith}
use Rattle.prices.specs.Prices.{prices_of, window}
use Rattle.prices.specs.Tariff.{Tariff, Given}
use Rattle.request_log.specs.declared.Header.{Header}
use Rattle.online.specs.declared.Cache.{Cache}
use Rattle.online.specs.Rules.{window_of, copy_at, use_at, running, remaining, closing, shut}
use Rattle.online.specs.Answers.{close_verdict, closed_by, closed_answer}
use Rattle.online.specs.Passed.{close_passed}
use Rattle.online.specs.ClosingLaws.{remaining_at, closing_more}
use Rattle.online.proofs.ClosingLaws.{remaining_most, closing_most}
use Rattle.bounds.specs.Calls.{Call, TakenClose}
use Rattle.bounds.proofs.CloseLaws.{close_once}
use Rattle.bounds.specs.Claim.{Claim, prices, final}
use Rattle.bounds.proofs.ClaimLaws.{closing_fresh}
use Rattle.guarantees.specs.Demand3.{Ready, ready_fresh}

-- a close that is not refused, in any state
pub record Closing (c : Cache) : Type 0 where
  -- it answers the closing cost, and gives back the same state, closed
  pub answers : closed_answer c ≡ record { cache = shut c; outcome = Ok (closing c) }
  -- of the last server's copy a whole window is left, of a copy at its last second nothing, and of none more than a window
  pub last_whole : remaining c c.last ≡ window_of c
  pub at_its_end : (y : ℕ) → copy_at c y ≡ true → use_at c y + window_of c ≡ c.second → remaining c y ≡ 0
  pub none_longer : (y : ℕ) → y < 64 → remaining c y ≤ window_of c
  -- the cost is at least the running cost, and in no state more than this
  pub no_less : running c ≤ closing c
  pub most : closing c ≤ c.prices.hold * 256000000 + c.prices.transfer * 2112

-- THE CLOSE OF ANY STATE
pub close_answers : (c : Cache) → close_verdict c ≡ Ok tt → Closing c
unfolding closed_answer closed_by
close_answers c e =
    let s = (close_passed c e).0 in
    record {
      answers = ap (λ (v : Verdict). closed_by v c) e;
      last_whole = omega (arith, remaining_at c c.last s.last_stands, s.last_used);
      at_its_end = λ y a z. omega (arith, remaining_at c y a);
      none_longer = remaining_most c s;
      no_less = closing_more c;
      most = omega (arith, closing_most c s);
    }

-- a close that is not refused, after a list of calls
pub record ClosedWithin (t : Tariff) (s : Header) (c : Cache) (calls : List Call) : Type 0 where
  -- demand 3's claim of the calls before it: its least cost is that of the requests taken
  pub claimed : Claim t.table s c calls
  -- it answers the closing cost, which is at least the running cost, and at most three times the least cost and one transfer price
  pub answers : (closed_answer (final t.table s c calls)).outcome ≡ Ok (closing (final t.table s c calls))
  pub no_less : running (final t.table s c calls) ≤ closing (final t.table s c calls)
  pub no_more : closing (final t.table s c calls) ≤ 3 * claimed.least + (prices t.table s c calls).transfer

-- and there is at most one, from any state
pub closes_once : (c : Cache) (calls : List Call) (x y : TakenClose c calls) → x.before ≡ y.before
closes_once = close_once

-- A CLOSE AT ONCE answers the hold price for one window
pub close_at_once : (t : Tariff) (g : Given t) (s : Header) (c : Cache) → Ready t g s c
    → closing c ≡ (prices_of t.table s.«class»).hold * window (prices_of t.table s.«class»)
close_at_once t g s c r =
    let (a, range, e) = ready_fresh t g s c r in
    rw e (closing_fresh t.table s a range)
