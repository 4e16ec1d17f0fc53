-- Lists of conditions of which none gives a number, and those whose numbers lie between two. Assumes nothing.
use Rattle.std.specs.Prelude.{Bool, true, false, List, [], ◌∷◌, ◌++◌, ◌≢◌, ◌≡◌, refl, ℕ, zero, suc, ◌≤◌, Ok, Err}
use Rattle.std.proofs.Common.{sym, ◌∙◌, arith}
use Rattle.base.specs.declared.Refusal.{Refusal}
use Rattle.base.specs.Reasons.{number}
use Rattle.base.specs.Choice.{not_both}
use Rattle.base.specs.Refusals.{Condition, first, otherwise, each, Never, Verdict}
use Rattle.base.specs.RefusalLaws.{first_met, first_failed}

-- none of a list gives a number: each that holds has another
pub data Without (n : ℕ) : List Condition → Type 0 where
  empty : Without n []
  more : {c : Condition} {cs : List Condition} → (c.holds ≡ true → number c.reason ≢ n) → Without n cs → Without n (c ∷ cs)

-- a condition of another number, and one that does not hold
pub other : {n : ℕ} {c : Condition} {cs : List Condition} → number c.reason ≢ n → Without n cs → Without n (c ∷ cs)
other h w = more (λ q. h) w

pub unmet : {n : ℕ} {c : Condition} {cs : List Condition} → c.holds ≡ false → Without n cs → Without n (c ∷ cs)
unmet e w = more (λ q. absurd (not_both q e)) w

-- two lists, and those of the first m things
pub joined : {n : ℕ} {xs ys : List Condition} → Without n xs → Without n ys → Without n (xs ++ ys)
joined empty w = w
joined (more h v) w = more h (joined v w)

pub of_each : {n : ℕ} (f : ℕ → List Condition) → ((i : ℕ) → Without n (f i)) → (m : ℕ) → Without n (each f m)
unfolding each
of_each f w zero = empty
of_each f w (suc m) = joined (of_each f w m) (w m)

-- such a list does not refuse with that number
pub first_never : (n : ℕ) (cs : List Condition) → Without n cs → Never n (first cs)
unfolding first
first_never n [] empty r e = absurd (let z : ◌≡◌ {A = ℕ} 0 1 = cc in omega arith)
first_never n (c ∷ cs) (more h w) r e = go c.holds refl (λ q. first_never n cs w r q)
  where
    go : (b : Bool) → c.holds ≡ b → (first cs ≡ Err r → number r.reason ≢ n) → number r.reason ≢ n
    go true q rec = let z : number c.reason ≡ number r.reason = cc (first_met c cs q) in λ y. h q (z ∙ y)
    go false q rec = rec (sym (first_failed c cs q) ∙ e)

-- nor does it after a verdict that does not
pub otherwise_never : (n : ℕ) (v : Verdict) (cs : List Condition) → Never n v → Without n cs → Never n (otherwise v (first cs))
otherwise_never n (Ok _) cs h w = first_never n cs w
otherwise_never n (Err q) cs h w = h

-- the numbers of a list lie from a to b
pub data Between (a b : ℕ) : List Condition → Type 0 where
  end : Between a b []
  next : {c : Condition} {cs : List Condition} → a ≤ number c.reason → number c.reason ≤ b → Between a b cs → Between a b (c ∷ cs)

-- one condition more
pub between : {a b : ℕ} {c : Condition} {cs : List Condition} → (a ≤ number c.reason) × (number c.reason ≤ b) → Between a b cs → Between a b (c ∷ cs)
between h w = next h.0 h.1 w

-- two lists, and those of the first m things
pub both_between : {a b : ℕ} {xs ys : List Condition} → Between a b xs → Between a b ys → Between a b (xs ++ ys)
both_between end w = w
both_between (next h l v) w = next h l (both_between v w)

pub each_between : {a b : ℕ} (f : ℕ → List Condition) → ((i : ℕ) → Between a b (f i)) → (m : ℕ) → Between a b (each f m)
unfolding each
each_between f w zero = end
each_between f w (suc m) = both_between (each_between f w m) (w m)

-- then so does the number that the list refuses with
pub first_between : {a b : ℕ} {cs : List Condition} (r : Refusal) → Between a b cs → first cs ≡ Err r → (a ≤ number r.reason) × (number r.reason ≤ b)
unfolding first
first_between r end e = absurd (let z : ◌≡◌ {A = ℕ} 0 1 = cc in omega arith)
first_between {a} {b} r (next {c} {cs} h l w) e = go c.holds refl (λ q. first_between r w q)
  where
    go : (t : Bool) → c.holds ≡ t → (first cs ≡ Err r → (a ≤ number r.reason) × (number r.reason ≤ b)) → (a ≤ number r.reason) × (number r.reason ≤ b)
    go true q rec = let z : number c.reason ≡ number r.reason = cc (first_met c cs q) in (omega arith, omega arith)
    go false q rec = rec (sym (first_failed c cs q) ∙ e)
