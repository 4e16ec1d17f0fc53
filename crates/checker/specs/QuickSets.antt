-- Membership in the sets that the code builds: the servers of some rows, the holds that a search finds, the holds and uploads of all rows.
use Rattle.std.specs.Prelude.{Bool, true, false, List, [], ◌∷◌, ◌++◌, ◌⊎◌, ◌≢◌, ◌≡◌, refl, ℕ, zero, suc, ◌+◌, ◌≤◌, ◌<◌, leb, ltb, eqb}
use Rattle.std.proofs.Common.{inl, inr, sym, ap, ◌∙◌, arith, eq-eqb, ne_eqb, lt-ltb, le-ltb}
use Rattle.base.specs.Choice.{pick, both, either, le_or_lt, same_or_not}
use Rattle.base.specs.Sets.{has, put}
use Rattle.base.specs.SetLaws.{has_put, has_put_other}
use Rattle.base.specs.ChoiceLaws.{both_end}
use Rattle.model.specs.Schedule.{Row, hold, move, transfer, upload}
use Rattle.model.specs.Standing.{reach, through}
use Rattle.model.specs.RowForm.{row_at, rows_upto}
use Rattle.rows.specs.Reading.{server_of}
use Rattle.rows.specs.Passes.{join, covers, puts, servers, any_below}
use Rattle.rows.specs.AnyLaws.{either_last, either_none}
use Rattle.checker.specs.Quick.{reaches, with_hold, gather}

-- both tests, where the second fails
pub both_none : (a : Bool) → both a false ≡ false
both_none true = refl
both_none false = refl

-- one or another, or a third
either_assoc : (a b c : Bool) → either (either a b) c ≡ either a (either b c)
either_assoc true b c = refl
either_assoc false b c = refl

-- ---- a server put in by a test

-- it is a member then, and nothing else changes
pub put_has : (t : Bool) (w y x : ℕ) → has (pick t (put w y) w) x ≡ either (has w x) (both (eqb y x) t)
put_has false w y x = sym (ap (either (has w x)) (both_none (eqb y x)) ∙ either_none (has w x))
put_has true w y x = go (same_or_not y x)
  where
    go : (y ≡ x) ⊎ (y ≢ x) → has (put w y) x ≡ either (has w x) (both (eqb y x) true)
    go (inl e) = rw (eq-eqb y x e, e) (has_put w x ∙ sym (either_last (has w x) true refl))
    go (inr d) = rw (ne_eqb y x d) (has_put_other w y x (λ e. d (sym e)) ∙ sym (either_none (has w x)))

-- ---- the servers of some rows

-- a server for which a word has room
join_has : (w y x : ℕ) → y < 64 → has (join w y) x ≡ either (has w x) (eqb y x)
unfolding join
join_has w y x l = rw (lt-ltb y 64 l) (put_has true w y x ∙ ap (either (has w x)) (both_end (eqb y x)))

-- those of them and those of the start
pub servers_has : (ns : List ℕ) (from w n x : ℕ) → ((j : ℕ) → j < n → server_of (row_at ns (from + j)) < 64)
    → has (servers ns from w n) x ≡ either (has w x) (any_below n (λ j. eqb (server_of (row_at ns (from + j))) x))
unfolding servers any_below
servers_has ns from w zero x h = sym (either_none (has w x))
servers_has ns from w (suc n) x h =
    let y = server_of (row_at ns (from + n)) in
    join_has (servers ns from w n) y x (h n (omega arith))
    ∙ ap (λ (t : Bool). either t (eqb y x)) (servers_has ns from w n x (λ j l. h j (omega arith)))
    ∙ either_assoc (has w x) (any_below n (λ j. eqb (server_of (row_at ns (from + j))) x)) (eqb y x)

-- ---- the holds and uploads of all rows, one after the other

-- a step for each of some rows, and then for one more
through_append : (f : ℕ → Row → ℕ) (w : ℕ) (xs ys : List Row) → through f w (xs ++ ys) ≡ through f (through f w xs) ys
unfolding through
through_append f w [] ys = refl
through_append f w (x ∷ xs) ys = through_append f (f w x) xs ys

pub through_more : (f : ℕ → Row → ℕ) (w : ℕ) (ns : List ℕ) (k : ℕ)
    → through f w (rows_upto ns (suc k)) ≡ f (through f w (rows_upto ns k)) (row_at ns k)
unfolding rows_upto through
through_more f w ns k = through_append f w (rows_upto ns k) (row_at ns k ∷ [])

-- a row gives server x at τ: a hold that covers it, or an upload of τ
abbrev pub gives : ℕ → ℕ → Row → Bool
gives τ x r = either (covers τ x r) (puts τ x r)

-- its step adds that server
reach_has : (τ w x : ℕ) (r : Row) → has (reach τ w r) x ≡ either (has w x) (gives τ x r)
unfolding reach covers puts
reach_has τ w x (hold y a b) =
    put_has (both (ltb a τ) (leb τ b)) w y x ∙ ap (either (has w x)) (sym (either_none (both (eqb y x) (both (ltb a τ) (leb τ b)))))
reach_has τ w x (move (transfer y z σ)) = sym (either_none (has w x))
reach_has τ w x (move (upload z σ)) = put_has (eqb σ τ) w z x

pub through_has : (τ w x : ℕ) (ns : List ℕ) (k : ℕ)
    → has (through (reach τ) w (rows_upto ns k)) x ≡ either (has w x) (any_below k (λ i. gives τ x (row_at ns i)))
unfolding through rows_upto any_below
through_has τ w x ns zero = sym (either_none (has w x))
through_has τ w x ns (suc k) =
    ap (λ (v : ℕ). has v x) (through_more (reach τ) w ns k)
    ∙ reach_has τ (through (reach τ) w (rows_upto ns k)) x (row_at ns k)
    ∙ ap (λ (t : Bool). either t (gives τ x (row_at ns k))) (through_has τ w x ns k)
    ∙ either_assoc (has w x) (any_below k (λ i. gives τ x (row_at ns i))) (gives τ x (row_at ns k))

-- ---- a search for each server of some

-- a member below suc n is one below n, or n
next_has : (n x : ℕ) (t w : Bool) (f : ℕ → Bool) → t ≡ either w (both (ltb x n) (f x))
    → either t (both (eqb n x) (f n)) ≡ either w (both (ltb x (suc n)) (f x))
next_has n x t w f r = go (le_or_lt n x)
  where
    at : (n ≡ x) ⊎ (n ≢ x) → n ≤ x → either t (both (eqb n x) (f n)) ≡ either w (both (ltb x (suc n)) (f x))
    at (inl e) l = rw (r, le-ltb x n l, eq-eqb n x e, lt-ltb x (suc n) (omega arith), either_none w, e)
    at (inr d) l = rw (r, le-ltb x n l, ne_eqb n x d, le-ltb x (suc n) (omega arith)) (either_none (either w false))

    go : (n ≤ x) ⊎ (x < n) → either t (both (eqb n x) (f n)) ≡ either w (both (ltb x (suc n)) (f x))
    go (inl l) = at (same_or_not n x) l
    go (inr l) = rw (r, lt-ltb x n l, ne_eqb n x (λ e. omega arith), lt-ltb x (suc n) (omega arith)) (either_none (either w (f x)))

pub gather_has : (ns : List ℕ) (τ some w x n : ℕ) → n ≤ 64
    → has (gather ns τ some w n) x ≡ either (has w x) (both (ltb x n) (both (has some x) (reaches ns τ x)))
unfolding gather with_hold join
gather_has ns τ some w x zero h = rw (le-ltb x 0 (omega arith)) (sym (either_none (has w x)))
gather_has ns τ some w x (suc n) h =
    rw (lt-ltb n 64 h)
    (put_has (both (has some n) (reaches ns τ n)) (gather ns τ some w n) n x
    ∙ next_has n x (has (gather ns τ some w n) x) (has w x) (λ k. both (has some k) (reaches ns τ k)) (gather_has ns τ some w x n (omega arith)))
