-- Laws of well-formed lists of rows: by their members, and for lists put together.
use Rattle.std.specs.Prelude.{true, ◌≡◌, refl, ℕ, ◌<◌}
use mathlib.Core.List.{List, [], ◌∷◌, ◌++◌, Memᴰ}
use Rattle.std.proofs.Common.{lt-ltb}
use Rattle.model.specs.Schedule.{Row}
use Rattle.model.specs.RowForm.{fits, follows, ordered, all_fit, well_formed}
use Rattle.base.specs.ChoiceLaws.{both_true}

-- all rows fit where each does
pub member_all_fit : (count last : ℕ) (rows : List Row) → ((r : Row) → Memᴰ r rows → fits count last r ≡ true) → all_fit count last rows ≡ true
unfolding all_fit
member_all_fit count last [] f = refl
member_all_fit count last (r ∷ rows) f =
    rw (f r (Memᴰ.head refl)) (member_all_fit count last rows (λ s x. f s (Memᴰ.tail x)))

-- two ordered lists, each row of the second one that may follow each of the first, make an ordered list
pub ordered_append : (xs ys : List Row) → ordered xs ≡ true → ordered ys ≡ true
    → ((r s : Row) → Memᴰ r xs → Memᴰ s ys → follows r s ≡ true) → ordered (xs ++ ys) ≡ true
unfolding ordered
ordered_append [] ys p q f = q
ordered_append (x ∷ []) [] p q f = refl
ordered_append (x ∷ []) (y ∷ ys) p q f = rw (f x y (Memᴰ.head refl) (Memᴰ.head refl)) q
ordered_append (x ∷ x' ∷ xs) ys p q f =
    let t = both_true (follows x x') (ordered (x' ∷ xs)) p in
    rw t.0 (ordered_append (x' ∷ xs) ys t.1 q (λ r s a b. f r s (Memᴰ.tail a) b))

-- well formed: an ordered list of rows that fit, empty where there is no request
pub formed : (count n last : ℕ) (rows : List Row) → ((r : Row) → Memᴰ r rows → (0 < n) × (fits count last r ≡ true))
    → ordered rows ≡ true → well_formed count n last rows ≡ true
unfolding well_formed
formed count n last [] f o = refl
formed count n last (r ∷ rows) f o =
    rw (lt-ltb 0 n (f r (Memᴰ.head refl)).0, member_all_fit count last (r ∷ rows) (λ s x. (f s x).1)) o
