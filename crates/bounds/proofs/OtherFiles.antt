-- A scan of another file leaves no trace: a list of calls leads where it leads without such scans. Assumes nothing.
use Rattle.std.specs.Prelude.{Bool, true, false, List, [], ◌∷◌, ◌≡◌, refl, ℕ, Ok, Err}
use Rattle.base.specs.Refusals.{Verdict}
use Rattle.std.proofs.Common.{ap, ◌∙◌}
use Rattle.base.specs.Lists.{same}
use Rattle.base.specs.SameLaws.{same_unequal}
use Rattle.request_log.specs.declared.Header.{Header}
use Rattle.online.specs.declared.Cache.{Cache}
use Rattle.online.specs.Rules.{accept, shut}
use Rattle.online.specs.Passed.{scan_own}
use Rattle.bounds.specs.Calls.{Call, scan, close, verdict, after, run, of_file}
use Rattle.bounds.proofs.CallLaws.{after_scan, after_close, after_refused}
use Rattle.bounds.specs.Progress.{Progress, due, advanced, with_request, taken}
use Rattle.bounds.proofs.ProgressLaws.{due_own}

-- every call gives back a state with the same id
after_id : (c : Cache) (a : Call) → (after c a).id ≡ c.id
unfolding verdict accept shut
after_id c a = go a (verdict c a) refl
  where
    go : (b : Call) (v : Verdict) → verdict c b ≡ v → (after c b).id ≡ c.id
    go (scan id τ x) (Ok _) e = ap (λ (d : Cache). d.id) (after_scan c id τ x e)
    go close (Ok _) e = ap (λ (d : Cache). d.id) (after_close c e)
    go b (Err r) e = ap (λ (d : Cache). d.id) (after_refused c b r e)

-- a scan of another file gives back the state as it was
after_other : (c : Cache) (id : List ℕ) (τ x : ℕ) → same id c.id ≡ false → after c (scan id τ x) ≡ c
unfolding verdict
after_other c id τ x f = go (verdict c (scan id τ x)) refl
  where
    go : (v : Verdict) → verdict c (scan id τ x) ≡ v → after c (scan id τ x) ≡ c
    go (Ok _) e = absurd (same_unequal id c.id f (scan_own c id τ x e))
    go (Err r) e = after_refused c (scan id τ x) r e

-- so a list leads to the same state without them
pub run_own : (own : List ℕ) (c : Cache) → c.id ≡ own → (calls : List Call) → run c (of_file own calls) ≡ run c calls
unfolding run of_file
run_own own c e [] = refl
run_own own c e (close ∷ calls) = run_own own (after c close) (after_id c close ∙ e) calls
run_own own c e (scan id τ x ∷ calls) =
    go (same id own) refl (run_own own (after c (scan id τ x)) (after_id c (scan id τ x) ∙ e) calls) (run_own own c e calls)
  where
    go : (s : Bool) → same id own ≡ s → run (after c (scan id τ x)) (of_file own calls) ≡ run (after c (scan id τ x)) calls
        → run c (of_file own calls) ≡ run c calls → run c (of_file own (scan id τ x ∷ calls)) ≡ run (after c (scan id τ x)) calls
    go true f taken_on passed_by = rw f taken_on
    go false f taken_on passed_by = rw (f, after_other c id τ x (rw e f)) passed_by

-- and takes the same requests
pub taken_unmixed : (s : Header) (p : Progress) (calls : List Call) → taken s p (of_file s.id calls) ≡ taken s p calls
unfolding taken of_file advanced with_request
taken_unmixed s p [] = refl
taken_unmixed s p (close ∷ calls) =
    ap (with_request (due s p close) close) (taken_unmixed s (advanced (due s p close) close p) calls)
taken_unmixed s p (scan id τ x ∷ calls) =
    go (same id s.id) refl (due s p a) refl (taken_unmixed s (advanced (due s p a) a p) calls) (taken_unmixed s p calls)
  where
    a : Call
    a = scan id τ x

    go : (b : Bool) → same id s.id ≡ b → (v : Verdict) → due s p a ≡ v → taken s (advanced (due s p a) a p) (of_file s.id calls) ≡ taken s (advanced (due s p a) a p) calls
        → taken s p (of_file s.id calls) ≡ taken s p calls → taken s p (of_file s.id (a ∷ calls)) ≡ taken s p (a ∷ calls)
    go true f v e own other = rw f (ap (with_request (due s p a) a) own)
    go false f (Ok _) e own other = absurd (same_unequal id s.id f (due_own s p id τ x e))
    go false f (Err r) e own other = rw (f, e) other
