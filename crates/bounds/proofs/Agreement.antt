-- One request keeps a state in agreement with the history: the same mark, the same last use at each server, the same seconds held, and as much left.
use Rattle.std.specs.Prelude.{Bool, true, ◌⊎◌, ◌≢◌, ◌≡◌, ℕ, suc, ◌+◌, ◌≤◌, ◌<◌}
use Rattle.std.proofs.Math.Bool.{false}
use Rattle.std.proofs.Common.{inl, inr, ap, ◌∙◌, arith}
use Rattle.std.proofs.Math.Option.{some}
use Rattle.std.proofs.Math.Path.{refl, sym}
use borrow.Author.Tests.{le-leb, lt-leb, eq-eqb, ne_eqb}
use Rattle.base.specs.Choice.{pick, le_or_lt, same_or_not}
use Rattle.base.specs.Lists.{build_at}
use Rattle.model.specs.Requests.{Requests}
use Rattle.model.specs.Marking.{K, S, keeps}
use Rattle.online.specs.declared.Cache.{Cache}
use Rattle.online.specs.ServerLaws.{across_same, has_set}
use Rattle.online.specs.Rules.{window_of, copy_at, use_at, lasts, kept, uses, stands, next_use, seconds, accept, remaining}
use Rattle.online.specs.ClosingLaws.{remaining_none, remaining_at}
use Rattle.bounds.specs.History.{last_use, mark, held, transfers}
use Rattle.bounds.specs.History as history
use Rattle.bounds.proofs.HistoryLaws.{kept_or_sent, Turn, target, source, other, turn, Marked, again, back, sent, marked, transfers_S, transfers_K}
use Rattle.bounds.proofs.Seconds.{left_some, left_far, spent, spent_last, spent_other, held_step}

-- server y has bit h and last use w in a state after request i: no copy, and its use, if it had one, has expired; or a copy and that use
pub data Seen (W : ℕ) (q : Requests) (h : Bool) (w i y : ℕ) : Type 0 where
  gone : h ≡ false → w ≡ 0 → ((u : ℕ) → last_use W q i y ≡ some u → u + W < q.time i) → Seen W q h w i y
  here : h ≡ true → last_use W q i y ≡ some w → q.time i ≤ w + W → w ≤ q.time i → Seen W q h w i y

module _ (W : ℕ) (q : Requests) (c : Cache) (i : ℕ) (w : window_of c ≡ W) (l : c.last ≡ q.server i) (s : c.second ≡ q.time i)
    (up : q.time i < q.time (suc i)) where
  -- the request's second and server
  abbrev τ : ℕ
  τ = q.time (suc i)

  abbrev x : ℕ
  x = q.server (suc i)

  -- what a state says of server y agrees after request i
  abbrev Fits : ℕ → Type 0
  Fits y = Seen W q (copy_at c y) (use_at c y) i y

  -- a copy whose use is near lasts to the request
  lasts_yes : (y : ℕ) → copy_at c y ≡ true → τ ≤ use_at c y + W → lasts c τ y ≡ true
  unfolding lasts
  lasts_yes y a b = rw a (le-leb τ (use_at c y + window_of c) (omega arith))

  -- one whose use is further back does not
  lasts_no : (y : ℕ) → copy_at c y ≡ true → use_at c y + W < τ → lasts c τ y ≡ false
  unfolding lasts
  lasts_no y a b = rw a (lt-leb τ (use_at c y + window_of c) (omega arith))

  -- and none lasts where none stands
  lasts_none : (y : ℕ) → copy_at c y ≡ false → lasts c τ y ≡ false
  unfolding lasts
  lasts_none y a = rw a

  -- the state's mark is the history's
  pub kept_mark : Fits x → kept c τ x ≡ keeps (mark W q (suc i))
  unfolding kept keeps
  kept_mark d = go (marked W q i) d
    where
      go : Marked W q i → Fits x → kept c τ x ≡ keeps (mark W q (suc i))
      go (again e m) d = rw (m, eq-eqb x c.last (e ∙ sym l))
      go (back e m u a f) (gone h z g) = absurd (omega (arith, g u a))
      go (back e m u a f) (here h b g r) =
          let z : u ≡ use_at c x = cc in
          rw (m, ne_eqb x c.last (λ z. e (z ∙ l))) (lasts_yes x h (omega arith))
      go (sent e m f) (gone h z g) = rw (m, ne_eqb x c.last (λ z. e (z ∙ l))) (lasts_none x h)
      go (sent e m f) (here h b g r) = rw (m, ne_eqb x c.last (λ z. e (z ∙ l))) (lasts_no x h (f (use_at c x) b))

  -- so are the seconds that a server held
  pub seconds_spent : (y : ℕ) → Fits y → seconds c τ y ≡ spent W q i y
  unfolding seconds
  seconds_spent y d = go (same_or_not y (q.server i)) d
    where
      go : (y ≡ q.server i) ⊎ (y ≢ q.server i) → Fits y → seconds c τ y ≡ spent W q i y
      go (inl e) d = rw (eq-eqb y c.last (e ∙ sym l)) (omega (arith, spent_last W q i y e))
      go (inr e) (gone h z g) =
          rw (ne_eqb y c.last (λ z. e (z ∙ l)), h) (omega (arith, spent_other W q i y e, left_far W (last_use W q i y) (q.time i) g))
      go (inr e) (here h b g r) =
          rw (ne_eqb y c.last (λ z. e (z ∙ l)), h)
          (omega (arith, spent_other W q i y e, left_some W (last_use W q i y) (use_at c y) (q.time i) b))

  module _ (m : kept c τ x ≡ keeps (mark W q (suc i))) (y : ℕ) where
    -- the request uses the copy at its server
    uses_target : y ≡ x → uses c τ x y ≡ true
    unfolding uses
    uses_target e = rw (eq-eqb y x e)

    -- and at the source of a transfer
    uses_source : y ≢ x → y ≡ q.server i → mark W q (suc i) ≡ S → uses c τ x y ≡ true
    unfolding uses keeps
    uses_source e z k = rw (ne_eqb y x e, m, k, eq-eqb y c.last (z ∙ sym l))

    -- and no other
    uses_other : y ≢ x → (y ≡ q.server i → mark W q (suc i) ≡ K) → uses c τ x y ≡ false
    unfolding uses keeps
    uses_other e f = go (same_or_not y (q.server i)) (kept_or_sent W q (suc i))
      where
        go : (y ≡ q.server i) ⊎ (y ≢ q.server i) → (mark W q (suc i) ≡ K) ⊎ (mark W q (suc i) ≡ S) → uses c τ x y ≡ false
        go (inl z) k = rw (ne_eqb y x e, m, f z)
        go (inr z) (inl a) = rw (ne_eqb y x e, m, a)
        go (inr z) (inr a) = rw (ne_eqb y x e, m, a, ne_eqb y c.last (λ v. z (v ∙ l)))

    -- a server that it uses
    renewed : uses c τ x y ≡ true → last_use W q (suc i) y ≡ some τ → Seen W q (stands c τ x y) (next_use c τ x y) (suc i) y
    unfolding stands next_use
    renewed e a = rw e (here refl a (omega arith) (omega arith))

    -- one that it does not use, and whose copy lasts
    stayed : uses c τ x y ≡ false → lasts c τ y ≡ true → last_use W q (suc i) y ≡ some (use_at c y) → τ ≤ use_at c y + W
        → use_at c y ≤ q.time i → Seen W q (stands c τ x y) (next_use c τ x y) (suc i) y
    unfolding stands next_use
    stayed e f a b d = rw (e, f) (here refl a b (omega arith))

    -- one that it does not use, and whose copy does not last
    lapsed : uses c τ x y ≡ false → lasts c τ y ≡ false → ((u : ℕ) → last_use W q (suc i) y ≡ some u → u + W < τ)
        → Seen W q (stands c τ x y) (next_use c τ x y) (suc i) y
    unfolding stands next_use
    lapsed e f g = rw (e, f) (gone refl refl g)

    -- each server agrees after the request
    pub seen_step : Fits y → Seen W q (stands c τ x y) (next_use c τ x y) (suc i) y
    seen_step d = go d (turn W q i y)
      where
        still : copy_at c y ≡ true → uses c τ x y ≡ false → last_use W q (suc i) y ≡ some (use_at c y) → use_at c y ≤ q.time i
            → (τ ≤ use_at c y + W) ⊎ (use_at c y + W < τ) → Seen W q (stands c τ x y) (next_use c τ x y) (suc i) y
        still h e a b (inl f) = stayed e (lasts_yes y h f) a f b
        still h e a b (inr f) = lapsed e (lasts_no y h f) (λ u z. let v : u ≡ use_at c y = cc in omega arith)

        go : Fits y → Turn W q i y → Seen W q (stands c τ x y) (next_use c τ x y) (suc i) y
        go d (target e a) = renewed (uses_target e) a
        go d (source e z k a) = renewed (uses_source e z k) a
        go (gone h b g) (other e f a) = lapsed (uses_other e f) (lasts_none y h) (λ u z. omega (arith, g u (sym a ∙ z)))
        go (here h b g r) (other e f a) = still h (uses_other e f) (a ∙ b) r (le_or_lt τ (use_at c y + W))

-- a state agrees with the history of the first i requests
pub record Agrees (W : ℕ) (q : Requests) (c : Cache) (i : ℕ) : Type 0 where
  pub window_is : window_of c ≡ W
  pub last_is : c.last ≡ q.server i
  pub second_is : c.second ≡ q.time i
  pub requests_are : c.requests ≡ i
  pub transfers_are : c.transfers ≡ transfers W q i
  pub held_are : c.held ≡ held W q 64 i
  pub seen : (y : ℕ) → y < 64 → Seen W q (copy_at c y) (use_at c y) i y

-- then each server has as much left of its window
pub remaining_left : (W : ℕ) (q : Requests) (c : Cache) (i : ℕ) → Agrees W q c i → (y : ℕ) → y < 64 → remaining c y ≡ history.remaining W q i y
unfolding history.remaining
remaining_left W q c i a y h = go (a.seen y h)
  where
    go : Seen W q (copy_at c y) (use_at c y) i y → remaining c y ≡ history.remaining W q i y
    go (gone b z far) = omega (arith, remaining_none c y b, left_far W (last_use W q i y) (q.time i) far)
    go (here b l d e) =
        omega (arith, remaining_at c y b, a.window_is, a.second_is, left_some W (last_use W q i y) (use_at c y) (q.time i) l)

-- the next state agrees with one request more
pub agrees_next : (W : ℕ) (q : Requests) (c : Cache) (i : ℕ) → Agrees W q c i → q.time i < q.time (suc i) → q.server (suc i) < 64
    → Agrees W q (accept c (q.time (suc i)) (q.server (suc i))) (suc i)
unfolding accept window_of copy_at use_at keeps
agrees_next W q c i a up r =
    record {
      window_is = a.window_is;
      last_is = refl;
      second_is = refl;
      requests_are = ap suc a.requests_are;
      transfers_are = sent_on (kept_or_sent W q (suc i));
      held_are =
          omega (
            arith,
            a.held_are,
            held_step W q 64 i (omega arith),
            across_same 64 (seconds c τ) (spent W q i) (λ y h. seconds_spent W q c i a.window_is a.last_is a.second_is up y (a.seen y h)),
          );
      seen = λ y h.
          rw (has_set 64 (stands c τ x) y h, build_at 64 (next_use c τ x) y 0 h)
          (seen_step W q c i a.window_is a.last_is a.second_is up m y (a.seen y h));
    }
  where
    τ : ℕ
    τ = q.time (suc i)

    x : ℕ
    x = q.server (suc i)

    m : kept c τ x ≡ keeps (mark W q (suc i))
    m = kept_mark W q c i a.window_is a.last_is a.second_is up (a.seen x r)

    sent_on : (mark W q (suc i) ≡ K) ⊎ (mark W q (suc i) ≡ S) → pick (kept c τ x) c.transfers (suc c.transfers) ≡ transfers W q (suc i)
    sent_on (inl e) = rw (m, e) (omega (arith, a.transfers_are, transfers_K W q i e))
    sent_on (inr e) = rw (m, e) (omega (arith, a.transfers_are, transfers_S W q i e))
