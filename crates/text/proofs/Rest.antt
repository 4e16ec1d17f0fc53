-- What is read of the rest of a list from a place on. Assumes nothing.
use Rattle.std.specs.Prelude.{List, ◌≡◌, ℕ, ◌-◌, ◌<◌, length, take, drop, get_or}
use Rattle.std.proofs.Common.{ap, ◌∙◌, arith}
use Rattle.std.proofs.lemmas.List.{get_or-take, get_or-drop}

-- from the front on it is the list's own
pub rest_read : (xs : List ℕ) (k i : ℕ) → k ≡ 0 → i < length xs → get_or (take (length xs - k) (drop k xs)) i 0 ≡ get_or xs i 0
rest_read xs k i e h = get_or-take (length xs - k) (drop k xs) i 0 (omega (arith, e, h)) ∙ get_or-drop k xs i 0 ∙ ap (λ (j : ℕ). get_or xs j 0) (omega (arith, e))
