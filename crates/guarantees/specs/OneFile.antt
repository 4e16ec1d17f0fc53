-- A cache serves one file (02's Req 06): a scan that comes with another id is refused with 39, and leaves no trace.
use Rattle.std.specs.Prelude.{true, false, not, ◌≢◌, ◌↔◌, ◌≡◌, refl, ℕ, zero, suc, ◌≤◌, ◌<◌, eqb, ltb, Err}
use Rattle.base.specs.declared.reasons.Reason.TheVariants as reason
use mathlib.Core.List.{List, [], Memᴰ}
use Rattle.std.proofs.Common.{ap, arith, leb-false, ltb-false, le-ltb, ne_eqb}
use Rattle.std.proofs.lemmas.Bool.{eqb-false, not-true, lt-leb}
use Rattle.base.specs.Choice.{not_both}
use Rattle.base.specs.ChoiceLaws.{either_false, neither_of}
use Rattle.base.specs.SameLaws.{same_unequal, unequal_same}
use Rattle.base.specs.Refusals.{Condition, nth, refusal}
use Rattle.base.specs.RefusalLaws.{first_refused}
use Rattle.base.specs.declared.Refusal.{Refusal}
use Rattle.prices.specs.Tariff.{Tariff, Given}
use Rattle.request_log.specs.declared.Header.{Header}
use Rattle.online.specs.declared.Cache.{Cache}
use Rattle.online.specs.Conditions.{broken, scan_conditions}
use Rattle.online.specs.Answers.{scan_verdict}
use Rattle.bounds.specs.Calls.{Call, run, of_file, Request}
use Rattle.bounds.specs.Progress.{begun, taken}
use Rattle.bounds.proofs.OtherFiles.{run_own, taken_unmixed}
use Rattle.guarantees.specs.Demand3.{Ready, online_within_three}
use Rattle.base.specs.Reasons.{number}

-- 39
abbrev pub another_file : Refusal
another_file = record { reason = reason.OtherFile; place = 0 }

-- a scan of another file that none of 11, 12, 32 and 33 refuses
pub record OfAnother (c : Cache) (id : List ℕ) (second server : ℕ) : Type 0 where
  pub server_below : server < c.server_count
  pub second_least : 1 ≤ second
  pub second_most : second ≤ 4000000
  pub unbroken : broken c ≡ false
  pub unclosed : c.closed ≡ false
  pub other : id ≢ c.id

-- A SCAN IS REFUSED WITH 39 exactly if it is one, of a full state and at any second too
pub scanned_39 : (c : Cache) (id : List ℕ) (second server : ℕ) → (scan_verdict c id second server ≡ Err another_file) ↔ OfAnother c id second server
unfolding scan_verdict scan_conditions
scanned_39 c id second server = (to, from)
  where
    cs : List Condition
    cs = scan_conditions c id second server

    at : (i : ℕ) → ((j : ℕ) → j < i → (nth cs j).holds ≡ false) → (nth cs i).holds ≡ true → refusal (nth cs i) ≡ another_file → OfAnother c id second server
    at (suc (suc (suc (suc zero)))) b m g =
        let n = either_false (eqb second 0) (ltb 4000000 second) (b 1 (omega arith)) in
        record {
          server_below = leb-false _ _ (b 0 (omega arith));
          second_least = let z : second ≢ 0 = eqb-false _ _ n.0 in omega arith;
          second_most = ltb-false _ _ n.1;
          unbroken = b 2 (omega arith);
          unclosed = b 3 (omega arith);
          other = same_unequal id c.id (not-true _ m);
        }
    at zero b m g = absurd (omega (arith, ap (λ (r : Refusal). number r.reason) g))
    at (suc zero) b m g = absurd (omega (arith, ap (λ (r : Refusal). number r.reason) g))
    at (suc (suc zero)) b m g = absurd (omega (arith, ap (λ (r : Refusal). number r.reason) g))
    at (suc (suc (suc zero))) b m g = absurd (omega (arith, ap (λ (r : Refusal). number r.reason) g))
    at (suc (suc (suc (suc (suc zero))))) b m g = absurd (omega (arith, ap (λ (r : Refusal). number r.reason) g))
    at (suc (suc (suc (suc (suc (suc zero)))))) b m g = absurd (omega (arith, ap (λ (r : Refusal). number r.reason) g))
    at (suc (suc (suc (suc (suc (suc (suc i))))))) b m g = absurd (not_both m refl)

    passed : OfAnother c id second server → (j : ℕ) → j < 4 → (nth cs j).holds ≡ false
    passed a zero l = lt-leb _ _ a.server_below
    passed a (suc zero) l = neither_of (ne_eqb second 0 (λ e. omega (arith, a.second_least))) (le-ltb _ _ a.second_most)
    passed a (suc (suc zero)) l = a.unbroken
    passed a (suc (suc (suc zero))) l = a.unclosed
    passed a (suc (suc (suc (suc j)))) l = absurd (omega arith)

    to : scan_verdict c id second server ≡ Err another_file → OfAnother c id second server
    to e = let f = (first_refused cs another_file).0 e in at f.index f.before f.met f.gives

    from : OfAnother c id second server → scan_verdict c id second server ≡ Err another_file
    from a =
        (first_refused cs another_file).1
        (record { index = 4; before = passed a; met = ap not (unequal_same id c.id a.other); gives = refl })

-- a list of calls after a start that was given s
pub record OneFile (s : Header) (c : Cache) (calls : List Call) : Type 0 where
  -- the requests taken all came with the start's id, and the state has it
  pub own : (r : Request) → Memᴰ r (taken s begun calls) → r.id ≡ s.id
  pub carried : (run c calls).id ≡ s.id
  -- without the scans of other files the list takes the same requests and leads to the same state, so to the same costs
  pub same_taken : taken s begun (of_file s.id calls) ≡ taken s begun calls
  pub same_state : run c (of_file s.id calls) ≡ run c calls

-- EVERY LIST OF CALLS from a start that is not refused is of one file
pub one_file : (t : Tariff) (g : Given t) (s : Header) (c : Cache) → Ready t g s c → (calls : List Call) → OneFile s c calls
unfolding run
one_file t g s c r calls =
    record {
      own = (online_within_three t g s c r calls).own_file;
      carried = (online_within_three t g s c r calls).id_is;
      same_taken = taken_unmixed s begun calls;
      same_state = run_own s.id c (online_within_three t g s c r []).id_is calls;
    }
