-- A closed state stays as it is, so of all the closes in a list at most one is not refused.
use Rattle.std.specs.Prelude.{true, List, [], ◌∷◌, ◌++◌, ◌≡◌, refl, Ok, Err}
use Rattle.base.specs.Refusals.{Verdict}
use Rattle.std.proofs.Common.{sym, ap₂, ◌∙◌}
use Rattle.base.specs.Choice.{not_both}
use Rattle.online.specs.declared.Cache.{Cache}
use Rattle.online.specs.Rules.{shut}
use Rattle.online.specs.Passed.{scan_passed, close_passed}
use Rattle.bounds.specs.Calls.{Call, scan, close, verdict, after, run, TakenClose}
use Rattle.bounds.proofs.CallLaws.{after_close, after_refused}

-- no call passes on a closed state
closed_refuses : (c : Cache) (a : Call) → c.closed ≡ true → verdict c a ≡ Ok tt → ⊥
unfolding verdict
closed_refuses c (scan id second server) h e = not_both h (scan_passed c id second server e).not_closed
closed_refuses c close h e = not_both h (close_passed c e).1

-- so each gives it back as it was
closed_after : (c : Cache) (a : Call) → c.closed ≡ true → after c a ≡ c
closed_after c a h = go (verdict c a) refl
  where
    go : (v : Verdict) → verdict c a ≡ v → after c a ≡ c
    go (Ok _) e = absurd (closed_refuses c a h e)
    go (Err r) e = after_refused c a r e

closed_run : (c : Cache) (calls : List Call) → c.closed ≡ true → run c calls ≡ c
unfolding run
closed_run c [] h = refl
closed_run c (a ∷ calls) h = rw (closed_after c a h) (closed_run c calls h)

-- after a close that passes, with any calls between, none does
only_close : (c : Cache) (between : List Call) → verdict c close ≡ Ok tt → verdict (run (after c close) between) close ≡ Ok tt → ⊥
unfolding verdict shut
only_close c between e f =
    closed_refuses (shut c) close refl
    (rw (after_close c e, closed_run (shut c) between refl) at f)

-- two that pass in one list are the same one
same_place : (c : Cache) (xs ys us vs : List Call) → xs ++ (close ∷ us) ≡ ys ++ (close ∷ vs) → verdict (run c xs) close ≡ Ok tt
    → verdict (run c ys) close ≡ Ok tt → xs ≡ ys
unfolding run
same_place c [] [] us vs e f g = refl
same_place c [] (b ∷ ys) us vs e f g = let z : close ≡ b = cc in absurd (only_close c ys f (rw (← z) at g))
same_place c (a ∷ xs) [] us vs e f g = let z : a ≡ close = cc in absurd (only_close c xs g (rw z at f))
same_place c (a ∷ xs) (b ∷ ys) us vs e f g =
    let z : a ≡ b = cc in
    let w : xs ++ (close ∷ us) ≡ ys ++ (close ∷ vs) = cc in
    ap₂ (λ (x : Call) (zs : List Call). x ∷ zs) z (same_place (after c a) xs ys us vs w f (rw (← z) at g))

pub close_once : (c : Cache) (calls : List Call) (x y : TakenClose c calls) → x.before ≡ y.before
close_once c calls x y = same_place c x.before y.before x.later y.later (sym x.among ∙ y.among) x.passed y.passed
