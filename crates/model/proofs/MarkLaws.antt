-- Marks by their tests, and by their rank in the tie rule.
use Rattle.std.specs.Prelude.{true, ◌⊎◌, ◌≢◌, ◌≡◌, refl, ℕ, zero, suc, ◌≤◌, ◌<◌}
use Rattle.std.proofs.Common.{inl, inr, sym, ap, ◌∙◌, arith}
use Rattle.base.specs.Choice.{same_or_not, not_both}
use Rattle.model.specs.Marking.{Mark, K, S, U, sends, loads}
use Rattle.model.specs.Plan.{rank}

-- what passes the test of S is S
pub sends_S : (a : Mark) → sends a ≡ true → a ≡ S
unfolding sends
sends_S K e = absurd (not_both e refl)
sends_S S e = refl
sends_S U e = absurd (not_both e refl)

-- and what passes that of U is U
pub loads_U : (a : Mark) → loads a ≡ true → a ≡ U
unfolding loads
loads_U K e = absurd (not_both e refl)
loads_U S e = absurd (not_both e refl)
loads_U U e = refl

-- the mark of a rank
abbrev ranked : ℕ → Mark
ranked zero = K
ranked (suc zero) = S
ranked (suc (suc n)) = U

ranked_rank : (a : Mark) → ranked (rank a) ≡ a
unfolding rank
ranked_rank K = refl
ranked_rank S = refl
ranked_rank U = refl

-- marks of one rank are the same
pub rank_same : (a b : Mark) → rank a ≡ rank b → a ≡ b
rank_same a b e = sym (ranked_rank a) ∙ (ap ranked e ∙ ranked_rank b)

-- two marks are the same or not
pub same_mark : (a b : Mark) → (a ≡ b) ⊎ (a ≢ b)
same_mark a b = elim (same_or_not (rank a) (rank b)) [
  | inl e ↦ inl (rank_same a b e)
  | inr d ↦ inr (λ e. d (ap rank e))
]

-- of two that are not, one that does not come after the other comes before it
pub rank_apart : (a b : Mark) → rank a ≤ rank b → a ≢ b → rank a < rank b
rank_apart a b h d = elim (same_or_not (rank a) (rank b)) [
  | inl e ↦ absurd (d (rank_same a b e))
  | inr e ↦ omega arith
]

-- K comes before all others
pub rank_K : (a : Mark) → K ≢ a → rank K < rank a
unfolding rank
rank_K a d = rank_apart K a (omega arith) d
