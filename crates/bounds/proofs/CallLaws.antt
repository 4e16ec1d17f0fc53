-- What each call of a list gives back, by its verdict.
use Rattle.std.specs.Prelude.{List, ◌≡◌, ℕ, Ok, Err}
use Rattle.base.specs.Refusals.{Verdict}
use Rattle.std.proofs.Common.{ap}
use Rattle.base.specs.declared.Refusal.{Refusal}
use Rattle.online.specs.declared.Cache.{Cache}
use Rattle.online.specs.Rules.{accept, shut}
use Rattle.online.specs.Answers.{scan_verdict, close_verdict, scanned_by, scanned, closed_by, closed_answer}
use Rattle.bounds.specs.Calls.{Call, scan, close, verdict, after}

-- a scan that is not refused gives back the next state
pub after_scan : (c : Cache) (id : List ℕ) (second server : ℕ) → scan_verdict c id second server ≡ Ok tt
    → after c (scan id second server) ≡ accept c second server
unfolding after scanned scanned_by
after_scan c id second server e = ap (λ (v : Verdict). (scanned_by v c second server).cache) e

-- a close the closed one
pub after_close : (c : Cache) → close_verdict c ≡ Ok tt → after c close ≡ shut c
unfolding after closed_answer closed_by
after_close c e = ap (λ (v : Verdict). (closed_by v c).cache) e

-- a refused call the same
pub after_refused : (c : Cache) (a : Call) (r : Refusal) → verdict c a ≡ Err r → after c a ≡ c
unfolding verdict after scanned scanned_by closed_answer closed_by
after_refused c (scan id second server) r e = ap (λ (v : Verdict). (scanned_by v c second server).cache) e
after_refused c close r e = ap (λ (v : Verdict). (closed_by v c).cache) e
