-- What a start, a scan and a close have that are not refused.
use Rattle.std.specs.Prelude.{true, false, ◌≢◌, ◌↔◌, List, ◌≡◌, ℕ, ◌≤◌, ◌<◌, ltb, eqb, length, Ok, Err}
use Rattle.std.proofs.Common.{ap, ◌∙◌, arith, leb-false, ltb-false}
use Rattle.std.proofs.lemmas.Bool.{eqb-false, not-false}
use Rattle.base.specs.ChoiceLaws.{either_false}
use Rattle.base.specs.SameLaws.{same_equal}
use Rattle.base.specs.Refusals.{first, otherwise, Never, Verdict}
use Rattle.base.specs.NumberLaws.{otherwise_never}
use Rattle.base.specs.RefusalLaws.{first_passed, otherwise_passed}
use Rattle.prices.specs.Prices.{prices_of, InRange}
use Rattle.prices.specs.PriceLaws.{Priced}
use Rattle.prices.specs.Tariff.{Tariff}
use Rattle.prices.specs.Offer.{Offer}
use Rattle.request_log.specs.declared.Setup.{Setup}
use Rattle.request_log.specs.Ranges.{Allowed}
use Rattle.request_log.specs.Conditions.{no_longer_sold, offered_conditions}
use Rattle.request_log.specs.AcceptedLaws.{setup_allowed, offered_allowed}
use Rattle.request_log.specs.EndedLaws.{offered_refused, offered_without, setup_without}
use Rattle.online.specs.declared.Cache.{Cache}
use Rattle.online.specs.Conditions.{scan_conditions, running_conditions, close_conditions}
use Rattle.online.specs.Answers.{start_verdict, log_start_verdict, scan_verdict, running_verdict, close_verdict}
use Rattle.online.specs.Intact.{Intact, unbroken_intact}

-- a start for a log that is not refused is given what is allowed, and prices in range
pub log_start_passed : (t : Tariff) → Priced t → (s : Setup) → log_start_verdict t s ≡ Ok tt → Allowed s × InRange (prices_of t.table s.«class»)
unfolding log_start_verdict
log_start_passed t p s e =
    let (j, f) = otherwise_passed t.judged _ e in
    let (l, a) = (setup_allowed t.table s).0 f in
    (a, p j s.«class» l)

-- no price file refuses, nor anything after it
passes : (v w : Verdict) → v ≡ Ok tt → w ≡ Ok tt → otherwise v w ≡ Ok tt
passes v w e f = rw (e, f)

-- a start passes exactly if that does, and its class has not ended
pub start_passed : (o : Offer) (s : Setup) → (start_verdict o s ≡ Ok tt) ↔ ((log_start_verdict o.tariff s ≡ Ok tt) × (o.ended s.«class» ≡ false))
unfolding start_verdict log_start_verdict
start_passed o s = (to, from)
  where
    to : start_verdict o s ≡ Ok tt → (log_start_verdict o.tariff s ≡ Ok tt) × (o.ended s.«class» ≡ false)
    to e =
        let (j, f) = otherwise_passed o.tariff.judged _ e in
        let (sold, a) = (offered_allowed o s).0 f in
        (passes o.tariff.judged _ j ((setup_allowed o.tariff.table s).1 (sold.listed, a)), sold.unended)

    from : (log_start_verdict o.tariff s ≡ Ok tt) × (o.ended s.«class» ≡ false) → start_verdict o s ≡ Ok tt
    from (e, going) =
        let (j, f) = otherwise_passed o.tariff.judged _ e in
        let (l, a) = (setup_allowed o.tariff.table s).0 f in
        passes o.tariff.judged _ j ((offered_allowed o s).1 (record { listed = l; unended = going }, a))

-- a start with a class that has ended is refused with 43, whatever else it is given
pub start_refused : (o : Offer) (s : Setup) → o.tariff.judged ≡ Ok tt → s.«class» < length o.tariff.table → o.ended s.«class» ≡ true
    → start_verdict o s ≡ Err no_longer_sold
unfolding start_verdict
start_refused o s j l e = ap (λ (v : Verdict). otherwise v (first (offered_conditions o s))) j ∙ offered_refused o s l e

-- no other is, nor one for a log
pub start_never : (o : Offer) (s : Setup) → Never 43 o.tariff.judged → o.ended s.«class» ≡ false → Never 43 (start_verdict o s)
unfolding start_verdict
start_never o s j e = otherwise_never 43 o.tariff.judged _ j (offered_without o s e)

pub log_start_never : (t : Tariff) (s : Setup) → Never 43 t.judged → Never 43 (log_start_verdict t s)
unfolding log_start_verdict
log_start_never t s j = otherwise_never 43 t.judged _ j (setup_without t.table s)

-- state, second and server of a scan that is not refused
pub record Fit (c : Cache) (second server : ℕ) : Type 0 where
  pub counted : server < c.server_count
  pub second_least : 1 ≤ second
  pub second_most : second ≤ 4000000
  pub intact : Intact c
  pub not_closed : c.closed ≡ false
  pub room : c.requests < 2048
  pub later : c.second < second

-- they have these
pub scan_passed : (c : Cache) (id : List ℕ) (second server : ℕ) → scan_verdict c id second server ≡ Ok tt → Fit c second server
unfolding scan_verdict scan_conditions
scan_passed c id second server e =
    let f = (first_passed (scan_conditions c id second server)).0 e in
    let n = either_false (eqb second 0) (ltb 4000000 second) (f 1) in
    record {
      counted = leb-false _ _ (f 0);
      second_least = let z : second ≢ 0 = eqb-false _ _ n.0 in omega arith;
      second_most = ltb-false _ _ n.1;
      intact = unbroken_intact c (f 2);
      not_closed = f 3;
      room = leb-false _ _ (f 5);
      later = leb-false _ _ (f 6);
    }

-- and it came with the state's id
pub scan_own : (c : Cache) (id : List ℕ) (second server : ℕ) → scan_verdict c id second server ≡ Ok tt → id ≡ c.id
unfolding scan_verdict scan_conditions
scan_own c id second server e = same_equal id c.id (not-false _ ((first_passed (scan_conditions c id second server)).0 e 4))

-- the state of a running cost that is not refused: intact
pub running_passed : (c : Cache) → running_verdict c ≡ Ok tt → Intact c
unfolding running_verdict running_conditions
running_passed c e = unbroken_intact c ((first_passed (running_conditions c)).0 e 0)

-- the state of a close that is not refused: intact, and not closed
pub close_passed : (c : Cache) → close_verdict c ≡ Ok tt → Intact c × (c.closed ≡ false)
unfolding close_verdict close_conditions
close_passed c e = let f = (first_passed (close_conditions c)).0 e in (unbroken_intact c (f 0), f 1)
