-- The laws of `first`: what the code's chain gives, lists joined, and "refused by r if and only if r is the first condition that holds". Assumes nothing.
use Rattle.std.specs.Prelude.{Bool, true, false, List, [], ◌∷◌, ◌++◌, ◌⊎◌, ◌↔◌, ◌≡◌, refl, ℕ, zero, suc, ◌<◌, ◌≤◌, Ok, Err}
use Rattle.std.proofs.Common.{inl, inr, sym, ap, ◌∙◌, arith}
use Rattle.base.specs.declared.Refusal.{Refusal}
use Rattle.base.specs.Choice.{le_or_lt, not_both}
use Rattle.base.specs.Refusals.{Condition, refusal, first, or_else, from, otherwise, each, nth, First, Verdict}

-- where a list's first condition holds, it refuses
pub first_met : (c : Condition) (cs : List Condition) → c.holds ≡ true → first (c ∷ cs) ≡ Err (refusal c)
unfolding first
first_met c cs h = rw (h, first)

-- where it does not, the others decide
pub first_failed : (c : Condition) (cs : List Condition) → c.holds ≡ false → first (c ∷ cs) ≡ first cs
unfolding first
first_failed c cs h = rw (h, first)

-- ---- conditions one after the other, as `or_else` tries them

-- one turn from Passed, where the condition holds
pub or_else_met : (c : Condition) → c.holds ≡ true → or_else (Ok tt) c ≡ Err (refusal c)
unfolding or_else
or_else_met c h = first_met c [] h

-- and where it does not
pub or_else_failed : (c : Condition) → c.holds ≡ false → or_else (Ok tt) c ≡ Ok tt
unfolding or_else first
or_else_failed c h = first_failed c [] h

-- a refusal stays
pub from_stays : (r : Refusal) (cs : List Condition) → from (Err r) cs ≡ Err r
unfolding from or_else
from_stays r [] = refl
from_stays r (c ∷ cs) = from_stays r cs

-- from Passed on the chain gives the first condition that holds
pub from_first : (cs : List Condition) → from (Ok tt) cs ≡ first cs
unfolding from or_else first
from_first [] = refl
from_first (c ∷ cs) = go c.holds refl (from_first cs)
  where
    go : (b : Bool) → c.holds ≡ b → from (Ok tt) cs ≡ first cs → from (Ok tt) (c ∷ cs) ≡ first (c ∷ cs)
    go true h e = rw (h, from, or_else, first) (from_stays _ cs)
    go false h e = rw (h, from, or_else, first) e

-- two lists, one after the other
pub from_append : (v : Verdict) (xs ys : List Condition) → from v (xs ++ ys) ≡ from (from v xs) ys
unfolding from
from_append v [] ys = refl
from_append v (x ∷ xs) ys = from_append (or_else v x) xs ys

-- ---- lists joined

-- refused by the first part, else what the second part gives
pub first_append : (xs ys : List Condition) → first (xs ++ ys) ≡ otherwise (first xs) (first ys)
unfolding first
first_append [] ys = refl
first_append (x ∷ xs) ys = go x.holds refl (first_append xs ys)
  where
    go : (b : Bool) → x.holds ≡ b → first (xs ++ ys) ≡ otherwise (first xs) (first ys)
        → first (x ∷ (xs ++ ys)) ≡ otherwise (first (x ∷ xs)) (first ys)
    go true h e = rw (h, first)
    go false h e = rw (h, first) e

-- a list after its first condition, by what that gives alone: the others decide
pub first_after_ok : (c : Condition) (cs : List Condition) → first (c ∷ []) ≡ Ok tt → first (c ∷ cs) ≡ first cs
first_after_ok c cs e = first_append (c ∷ []) cs ∙ ap (λ (v : Verdict). otherwise v (first cs)) e

-- or it refuses
pub first_after_err : (c : Condition) (cs : List Condition) {r : Refusal} → first (c ∷ []) ≡ Err r → first (c ∷ cs) ≡ Err r
first_after_err c cs e = first_append (c ∷ []) cs ∙ ap (λ (v : Verdict). otherwise v (first cs)) e

-- the chain goes on from a refusal with that, from Passed with what the list gives
pub from_otherwise : (v : Verdict) (cs : List Condition) → from v cs ≡ otherwise v (first cs)
from_otherwise (Ok _) cs = from_first cs
from_otherwise (Err r) cs = from_stays r cs

-- a list by its first condition or its first part: with these the steps of a function that tests them with `?` one after the other are found
pub ruleset chain = (from_otherwise, first_after_ok, first_after_err, first_append)

-- three verdicts
pub otherwise_assoc : (u v w : Verdict) → otherwise u (otherwise v w) ≡ otherwise (otherwise u v) w
otherwise_assoc (Ok _) v w = refl
otherwise_assoc (Err r) v w = refl

-- both verdicts passed where neither shows
pub otherwise_passed : (v w : Verdict) → otherwise v w ≡ Ok tt → (v ≡ Ok tt) × (w ≡ Ok tt)
otherwise_passed (Ok _) w e = (refl, e)
otherwise_passed (Err r) w e = let z : ◌≡◌ {A = ℕ} 0 1 = cc in absurd (omega arith)

-- two lists joined pass if and only if each does
pub append_passed : (xs ys : List Condition) → (first (xs ++ ys) ≡ Ok tt) ↔ ((first xs ≡ Ok tt) × (first ys ≡ Ok tt))
append_passed xs ys = (
  λ e. otherwise_passed (first xs) (first ys) (sym (first_append xs ys) ∙ e),
  λ (p, q). first_append xs ys ∙ rw p q,
)

-- ---- the conditions of each of the first n things

-- the conditions of one thing more
pub each_suc : (f : ℕ → List Condition) (n : ℕ) → first (each f (suc n)) ≡ otherwise (first (each f n)) (first (f n))
unfolding each
each_suc f n = first_append (each f n) (f n)

-- the first thing at fault decides
pub each_refused : (f : ℕ → List Condition) (i n : ℕ) (r : Refusal) → i < n → first (each f i) ≡ Ok tt → first (f i) ≡ Err r
    → first (each f n) ≡ Err r
each_refused f i zero r l p q = absurd (omega arith)
each_refused f i (suc n) r l p q = each_suc f n ∙ go (le_or_lt n i) (λ h. each_refused f i n r h p q)
  where
    go : (n ≤ i) ⊎ (i < n) → (i < n → first (each f n) ≡ Err r) → otherwise (first (each f n)) (first (f n)) ≡ Err r
    go (inl h) e =
        let s : n ≡ i = omega arith in
        rw (s, p, q)
    go (inr h) e = rw (e h)

-- where all pass, each thing passes
passed_each : (f : ℕ → List Condition) (n : ℕ) → first (each f n) ≡ Ok tt → (i : ℕ) → i < n → first (f i) ≡ Ok tt
passed_each f zero e i l = absurd (omega arith)
passed_each f (suc n) e i l =
    go (otherwise_passed (first (each f n)) (first (f n)) (sym (each_suc f n) ∙ e)) (le_or_lt n i) (λ p h. passed_each f n p i h)
  where
    go : (first (each f n) ≡ Ok tt) × (first (f n) ≡ Ok tt) → (n ≤ i) ⊎ (i < n) → (first (each f n) ≡ Ok tt → i < n → first (f i) ≡ Ok tt)
        → first (f i) ≡ Ok tt
    go (a, b) (inl h) rec =
        let s : i ≡ n = omega arith in
        rw s b
    go (a, b) (inr h) rec = rec a h

-- where each thing passes, all pass
each_passes : (f : ℕ → List Condition) (n : ℕ) → ((i : ℕ) → i < n → first (f i) ≡ Ok tt) → first (each f n) ≡ Ok tt
unfolding each first
each_passes f zero h = refl
each_passes f (suc n) h = each_suc f n ∙ rw (each_passes f n (λ i l. h i (omega arith))) (h n (omega arith))

-- passed if and only if each thing passes
pub each_passed : (f : ℕ → List Condition) (n : ℕ) → (first (each f n) ≡ Ok tt) ↔ ((i : ℕ) → i < n → first (f i) ≡ Ok tt)
each_passed f n = (passed_each f n, each_passes f n)

-- ---- what `first` says of the conditions themselves

-- where a list passes no condition holds
passed_none : (cs : List Condition) → first cs ≡ Ok tt → (i : ℕ) → (nth cs i).holds ≡ false
passed_none [] e i = refl
passed_none (c ∷ cs) e i = go c.holds refl i (λ p j. passed_none cs p j)
  where
    go : (b : Bool) → c.holds ≡ b → (i : ℕ) → (first cs ≡ Ok tt → (j : ℕ) → (nth cs j).holds ≡ false) → (nth (c ∷ cs) i).holds ≡ false
    go true h i r = let z : ◌≡◌ {A = ℕ} 0 1 = cc (first_met c cs h) in absurd (omega arith)
    go false h zero r = h
    go false h (suc i) r = r (sym (first_failed c cs h) ∙ e) i

-- where no condition holds the list passes
none_passed : (cs : List Condition) → ((i : ℕ) → (nth cs i).holds ≡ false) → first cs ≡ Ok tt
unfolding first
none_passed [] h = refl
none_passed (c ∷ cs) h = first_failed c cs (h 0) ∙ none_passed cs (λ i. h (suc i))

-- passed if and only if no condition holds
pub first_passed : (cs : List Condition) → (first cs ≡ Ok tt) ↔ ((i : ℕ) → (nth cs i).holds ≡ false)
first_passed cs = (passed_none cs, none_passed cs)

-- a list that is refused has a first condition that holds
refused_first : (cs : List Condition) (r : Refusal) → first cs ≡ Err r → First cs r
unfolding first
refused_first [] r e = let z : ◌≡◌ {A = ℕ} 0 1 = cc in absurd (omega arith)
refused_first (c ∷ cs) r e = go c.holds refl (refused_first cs r)
  where
    later : (F : First cs r) → c.holds ≡ false → (j : ℕ) → j < suc F.index → (nth (c ∷ cs) j).holds ≡ false
    later F h zero l = h
    later F h (suc j) l = F.before j (omega arith)

    go : (b : Bool) → c.holds ≡ b → (first cs ≡ Err r → First cs r) → First (c ∷ cs) r
    go true h rec =
        let same : refusal c ≡ r = cc (first_met c cs h) in
        record { index = 0; before = λ j l. absurd (omega arith); met = h; gives = same }
    go false h rec =
        let F = rec (sym (first_failed c cs h) ∙ e) in
        record { index = suc F.index; before = later F h; met = F.met; gives = F.gives }

-- the first condition that holds refuses
first_refuses : (cs : List Condition) (i : ℕ) → ((j : ℕ) → j < i → (nth cs j).holds ≡ false) → (nth cs i).holds ≡ true
    → first cs ≡ Err (refusal (nth cs i))
first_refuses [] i b m = absurd (not_both m refl)
first_refuses (c ∷ cs) zero b m = first_met c cs m
first_refuses (c ∷ cs) (suc i) b m = first_failed c cs (b 0 (omega arith)) ∙ first_refuses cs i (λ j l. b (suc j) (omega arith)) m

-- refused with r if and only if r is what the first condition that holds gives
pub first_refused : (cs : List Condition) (r : Refusal) → (first cs ≡ Err r) ↔ First cs r
first_refused cs r = (refused_first cs r, λ F. first_refuses cs F.index F.before F.met ∙ ap Err F.gives)
