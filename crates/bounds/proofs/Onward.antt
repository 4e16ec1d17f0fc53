-- Every list of calls from a fresh state: it refuses what the calls alone say, and ends in the state that the requests taken lead to.
use mathlib.Core.List.{List, [], ◌∷◌}
use Rattle.base.specs.Refusals.{Verdict}
use Rattle.std.specs.Prelude.{◌≡◌, length, Ok, Err}
use Rattle.std.proofs.Math.Path.{refl, sym, ap, ap₂}
use Rattle.std.proofs.Common.{◌∙◌}
use native.Mathlib.Omega.{arith}
use Prim.Native.Nat.{ℕ, suc, ◌+◌}
use Rattle.prices.specs.declared.Prices.{Prices}
use Rattle.prices.specs.Prices.{prices_of, InRange}
use Rattle.request_log.specs.declared.Header.{Header}
use Rattle.request_log.specs.Contents.{setup_in}
use Rattle.request_log.specs.Ranges.{Allowed}
use Rattle.model.specs.Requests.{Requests}
use Rattle.online.specs.declared.Cache.{Cache}
use Rattle.online.specs.Rules.{accept, shut}
use Rattle.online.specs.Intact.{intact_unbroken}
use Rattle.bounds.specs.Calls.{Call, scan, close, verdict, after, run, verdicts}
use Rattle.bounds.proofs.CallLaws.{after_scan, after_close, after_refused}
use Rattle.bounds.specs.Progress.{Progress, due, advanced, with_request, dues, taken, progress}
use Rattle.bounds.proofs.ProgressLaws.{InPace, verdict_due}
use Rattle.bounds.proofs.Follows.{Follows}
use Rattle.bounds.proofs.Reached.{Reached, reached_scan, reached_shut, reached_intact}

module _ (table : List Prices) (s : Header) (k : Allowed (setup_in s)) (range : InRange (prices_of table s.«class»)) (q : Requests) where
  -- a state and the progress so far are those of the first i requests
  pub record Along (c : Cache) (p : Progress) (i : ℕ) : Type 0 where
    pub reached : Reached table s q c i
    pub second_is : p.second ≡ q.time i
    pub taken_is : p.taken ≡ i
    pub closed_is : c.closed ≡ p.closed

  -- then the state keeps pace
  in_pace : (c : Cache) (p : Progress) (i : ℕ) → Along c p i → InPace s c p
  in_pace c p i a =
      record {
        id_is = a.reached.id_is;
        count_is = a.reached.count_is;
        second_is = a.reached.agrees.second_is ∙ sym a.second_is;
        requests_are = a.reached.agrees.requests_are ∙ sym a.taken_is;
        closed_is = a.closed_is;
        unbroken = intact_unbroken c (reached_intact table s k range q c i a.reached);
      }

  -- what some calls lead to: n requests in all, each call refused as the calls alone say
  pub record Led (calls : List Call) (c : Cache) (p : Progress) (n : ℕ) : Type 0 where
    pub along : Along (run c calls) (progress s p calls) n
    pub refused : verdicts c calls ≡ dues s p calls

  abbrev Onward : List Call → Type 0
  Onward calls = (c : Cache) (p : Progress) (i n : ℕ) → Along c p i → Follows q i (taken s p calls) → i + length (taken s p calls) ≡ n
      → Led calls c p n

  -- one call before them
  step : (calls : List Call) → Onward calls → (a : Call) (c : Cache) (p : Progress) (i n : ℕ) (v : Verdict) → verdict c a ≡ v → Along c p i
      → Follows q i (with_request v a (taken s (advanced v a p) calls)) → i + length (with_request v a (taken s (advanced v a p) calls)) ≡ n
      → Led calls (after c a) (advanced v a p) n
  unfolding verdict Follows with_request advanced accept shut
  step calls ih (scan id τ x) c p i n (Ok _) e a f l =
      rw (after_scan c id τ x e)
      (ih (accept c τ x) (advanced (Ok tt) (scan id τ x) p) (suc i) n
      (record {
        reached = reached_scan table s q c i id τ x a.reached e f.0 f.1;
        second_is = sym f.0;
        taken_is = ap suc a.taken_is;
        closed_is = a.closed_is;
      }) f.2 (omega arith))
  step calls ih close c p i n (Ok _) e a f l =
      rw (after_close c e)
      (ih (shut c) (advanced (Ok tt) close p) i n
      (record {
        reached = reached_shut table s q c i a.reached;
        second_is = a.second_is;
        taken_is = a.taken_is;
        closed_is = refl;
      }) f l)
  step calls ih a c p i n (Err x) e al f l = rw (after_refused c a x e) (ih c p i n al f l)

  -- every list does
  pub onward : (calls : List Call) → Onward calls
  unfolding run verdicts dues taken progress
  onward [] c p i n a f l = let e : i ≡ n = omega arith in record { along = rw (← e) a; refused = refl }
  onward (b ∷ calls) c p i n a f l =
      let v = verdict_due s c p (in_pace c p i a) b in
      let d = step calls (onward calls) b c p i n (due s p b) v a f l in
      record { along = d.along; refused = ap₂ (λ (w : Verdict) (ws : List Verdict). w ∷ ws) v d.refused }
