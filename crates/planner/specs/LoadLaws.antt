-- A list with a place for home before its requests: all but the first element is lent to the reader and comes back.
use Rattle.std.specs.Prelude.{List, ◌++◌, ◌≡◌, ℕ, ◌-◌, length, take, drop}
use Rattle.base.specs.Refusals.{Verdict}
use Rattle.std.proofs.Common.{append-nil, ap, ap₂, ◌∙◌, arith, length-drop, drop_of_length-le, take_all}
use Rattle.base.specs.Lent.{lent}
use Rattle.request_log.specs.Sizes.{most_requests}
use Rattle.planner.specs.Sizes.{places}

-- all of a list but its first element, lent and given back
abbrev pub behind_first : List ℕ → List ℕ
behind_first o = take (length o - 1) (drop 1 o)

behind_all : (o : List ℕ) → behind_first o ≡ drop 1 o
behind_all o = take_all (length o - 1) (drop 1 o) (omega (arith, length-drop 1 o))

pub behind_length : (o : List ℕ) → length o ≡ places → length (behind_first o) ≡ most_requests
behind_length o h = ap length (behind_all o) ∙ length-drop 1 o ∙ omega arith

pub behind_back : (v w : Verdict) (xs o x : List ℕ) → v ≡ w → x ≡ lent v xs (behind_first o)
    → take 1 o ++ (x ++ drop (length o - 1) (drop 1 o)) ≡ take 1 o ++ lent w xs (drop 1 o)
behind_back v w xs o x e f =
    ap (λ (l : List ℕ). take 1 o ++ l)
    (ap (λ (l : List ℕ). x ++ l) (drop_of_length-le (drop 1 o) {i = length o - 1} (omega (arith, length-drop 1 o)))
    ∙ append-nil x
    ∙ f
    ∙ ap₂ (λ (v : Verdict) (l : List ℕ). lent v xs l) e (behind_all o))
