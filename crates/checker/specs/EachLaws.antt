-- Conditions of each of some things: the same, up to the first that refuses, and in two parts.
use Rattle.std.specs.Prelude.{List, ◌++◌, ◌⊎◌, ◌≡◌, refl, ℕ, zero, suc, ◌+◌, ◌≤◌, ◌<◌, Ok, Err}
use Rattle.std.proofs.Common.{append_assoc, append-nil, inl, inr, sym, ap, ap₂, ◌∙◌, arith}
use Rattle.base.specs.Choice.{le_or_lt, same_or_not}
use Rattle.base.specs.declared.Refusal.{Refusal}
use Rattle.base.specs.Refusals.{Condition, first, each, Verdict}
use Rattle.base.specs.RefusalLaws.{each_suc, each_refused}

-- they are the same where they are the same for each
pub each_same : (f g : ℕ → List Condition) (n : ℕ) → ((i : ℕ) → i < n → f i ≡ g i) → each f n ≡ each g n
unfolding each
each_same f g zero h = refl
each_same f g (suc n) h = ap₂ (λ (x y : List Condition). x ++ y) (each_same f g n (λ i l. h i (omega arith))) (h n (omega arith))

-- a refusal stays when more things come
each_stays : (f : ℕ → List Condition) (k n : ℕ) (r : Refusal) → k ≤ n → first (each f k) ≡ Err r → first (each f n) ≡ Err r
each_stays f k zero r l e = let z : k ≡ 0 = omega arith in rw z at e
each_stays f k (suc n) r l e = go (same_or_not k (suc n)) (each_stays f k n r)
  where
    go : (k ≡ suc n) ⊎ (k ≡ suc n → ⊥) → (k ≤ n → first (each f k) ≡ Err r → first (each f n) ≡ Err r) → first (each f (suc n)) ≡ Err r
    go (inl z) rec = rw z at e
    go (inr d) rec = each_suc f n ∙ rw (rec (omega arith) e)

-- so they give one verdict where they are the same up to one that refuses
pub each_until : (f g : ℕ → List Condition) (n k : ℕ) → ((i : ℕ) → i < n → i ≤ k → f i ≡ g i) → (k < n → (r : Refusal) × (first (f k) ≡ Err r))
    → first (each f n) ≡ first (each g n)
each_until f g n k same stop = go (le_or_lt n k)
  where
    by : (l : k < n) → (v : Verdict) → first (each f k) ≡ v → first (each f n) ≡ first (each g n)
    by l (Err r) e =
        let d : first (each g k) ≡ Err r = sym (ap first (each_same f g k (λ i m. same i (omega arith) (omega arith)))) ∙ e in
        each_stays f k n r (omega arith) e ∙ sym (each_stays g k n r (omega arith) d)
    by l (Ok _) e =
        let (r, p) = stop l in
        let d : first (each g k) ≡ (Ok tt) = sym (ap first (each_same f g k (λ i m. same i (omega arith) (omega arith)))) ∙ e in
        let q : first (g k) ≡ Err r = sym (ap first (same k l (omega arith))) ∙ p in
        each_refused f k n r l e p ∙ sym (each_refused g k n r l d q)

    go : (n ≤ k) ⊎ (k < n) → first (each f n) ≡ first (each g n)
    go (inl l) = ap first (each_same f g n (λ i m. same i m (omega arith)))
    go (inr l) = by l (first (each f k)) refl

-- the first a of them, and then b more
pub each_split : (f : ℕ → List Condition) (a b : ℕ) → each f (a + b) ≡ each f a ++ each (λ j. f (a + j)) b
unfolding each
each_split f a zero = let z : a + 0 ≡ a = omega arith in rw z (sym (append-nil (each f a)))
each_split f a (suc b) =
    let z : a + suc b ≡ suc (a + b) = omega arith in
    rw (z, each_split f a b) (append_assoc (each f a) (each (λ j. f (a + j)) b) (f (a + b)))
