-- A text that is written at the front of what is lent.
use Rattle.std.specs.Prelude.{List, [], ◌++◌, ◌≡◌, refl, ℕ, ◌≤◌, length, take, drop}
use Rattle.std.proofs.Common.{ap, ◌∙◌, zero-add, arith, length-append, take_at}
use Rattle.text.specs.Page.{Page, page, added}
use Rattle.text.specs.PageLaws.{added_fits}

-- written at the front of a text that has room for it
pub front_of : (xs o o' : List ℕ) (n : ℕ) → page n o' ≡ added xs (page 0 o) → length xs ≤ length o
    → (n ≤ length o') × (take n o' ≡ xs)
front_of xs o o' n e h =
    let f = e ∙ added_fits xs [] o 0 refl h in
    let k : n ≡ length xs = ap (λ (p : Page). p.at) f ∙ zero-add (length xs) in
    let b : o' ≡ xs ++ drop (length xs) o = ap (λ (p : Page). p.bytes) f in
    rw (b, k) (simp length-append (omega arith), take_at xs (drop (length xs) o) (length xs) refl)
