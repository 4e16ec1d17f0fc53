-- What a close after a list of calls costs, proved.
use Rattle.std.specs.Prelude.{List, ◌≡◌, Ok}
use Rattle.std.proofs.Common.{ap}
use Rattle.prices.specs.Tariff.{Tariff, Given}
use Rattle.request_log.specs.declared.Header.{Header}
use Rattle.online.specs.declared.Cache.{Cache}
use Rattle.online.specs.declared.Closed.{Closed}
use Rattle.online.specs.Answers.{close_verdict}
use Rattle.bounds.specs.Calls.{Call, verdict, run, TakenClose}
use Rattle.guarantees.specs.Demand3.{Ready, online_within_three}
use Rattle.guarantees.specs.Closes.{close_answers, ClosedWithin}

-- THE CLOSE AFTER A LIST OF CALLS
pub close_within : (t : Tariff) (g : Given t) (s : Header) (c : Cache) → Ready t g s c → (calls : List Call) → close_verdict (run c calls) ≡ Ok tt
    → ClosedWithin t s c calls
close_within t g s c r calls f =
    let claim = online_within_three t g s c r calls in
    record {
      claimed = claim;
      answers = ap (λ (a : Closed). a.outcome) (close_answers (run c calls) f).answers;
      no_less = claim.closing_no_less;
      no_more = claim.closing_no_more;
    }

-- EVERY CLOSE IN A LIST OF CALLS that is not refused is so bounded by the requests taken before it
pub closes_within : (t : Tariff) (g : Given t) (s : Header) (c : Cache) → Ready t g s c → (calls : List Call) (x : TakenClose c calls)
    → ClosedWithin t s c x.before
unfolding verdict
closes_within t g s c r calls x = close_within t g s c r x.before x.passed
