-- Three views of the history, by which its laws go: what a request does to a server's last use, what its mark says, and how a server's last
-- use stands to its latest request.
use Rattle.std.specs.Prelude.{Bool, ◌⊎◌, ◌≢◌, ◌≡◌}
use Rattle.std.proofs.Math.Bool.{true, false}
use Rattle.std.proofs.Math.Logic.{inl, inr}
use Rattle.std.proofs.Math.Option.{Option, none, some}
use Rattle.std.proofs.Math.Path.{refl}
use Rattle.std.proofs.Common.{sym, ap, ◌∙◌}
use native.Mathlib.Omega.{arith}
use Prim.Native.Nat.{ℕ, zero, suc, pred, ◌+◌, ◌≤◌, ◌<◌}
use borrow.Author.Tests.{le-leb, lt-leb, eq-eqb, ne_eqb}
use Rattle.base.specs.Choice.{pick, le_or_lt, same_or_not}
use Rattle.model.specs.Requests.{Requests, latest, Rising}
use Rattle.model.proofs.RequestLaws.{none_some, latest_hit, latest_miss, rises_le}
use Rattle.model.specs.Marking.{Mark, K, S, U, sends}
use Rattle.model.specs.Marking as marking
use Rattle.model.specs.Sums.{sum}
use Rattle.bounds.specs.History.{recent, near, next, last_use, mark, transfers}

-- no mark is K and S at once
pub kept_sent : {m : Mark} → m ≡ K → m ≡ S → ⊥
kept_sent a b = let z : ◌≡◌ {A = ℕ} 0 1 = cc in omega arith

module _ (W : ℕ) (q : Requests) where
  -- request i + 1 is K where its test passes
  mark_K : (i : ℕ) → near W q (last_use W q i) i ≡ true → mark W q (suc i) ≡ K
  unfolding mark
  mark_K i e = rw e

  -- and S where it does not
  mark_S : (i : ℕ) → near W q (last_use W q i) i ≡ false → mark W q (suc i) ≡ S
  unfolding mark
  mark_S i e = rw e

  -- it is one of the two
  pub kept_or_sent : (i : ℕ) → (mark W q i ≡ K) ⊎ (mark W q i ≡ S)
  unfolding mark
  kept_or_sent i = go (near W q (last_use W q (pred i)) (pred i))
    where
      go : (b : Bool) → (pick b K S ≡ K) ⊎ (pick b K S ≡ S)
      go true = inl refl
      go false = inr refl

  -- and never U
  pub never_U : (i : ℕ) → mark W q i ≡ U → ⊥
  never_U i e = go (kept_or_sent i)
    where
      go : (mark W q i ≡ K) ⊎ (mark W q i ≡ S) → ⊥
      go (inl k) = let z : ◌≡◌ {A = ℕ} 0 1 = cc in omega arith
      go (inr k) = let z : ◌≡◌ {A = ℕ} 0 1 = cc in omega arith

  -- server y at request i + 1: it is its server, or the source of its transfer, or neither
  pub data Turn (i y : ℕ) : Type 0 where
    target : y ≡ q.server (suc i) → last_use W q (suc i) y ≡ some (q.time (suc i)) → Turn i y
    source : y ≢ q.server (suc i) → y ≡ q.server i → mark W q (suc i) ≡ S → last_use W q (suc i) y ≡ some (q.time (suc i)) → Turn i y
    other : y ≢ q.server (suc i) → (y ≡ q.server i → mark W q (suc i) ≡ K) → last_use W q (suc i) y ≡ last_use W q i y → Turn i y

  -- it is one of these
  pub turn : (i y : ℕ) → Turn i y
  unfolding last_use next
  turn i y = go (same_or_not y (q.server (suc i))) (near W q (last_use W q i) i) refl (same_or_not y (q.server i))
    where
      go : (y ≡ q.server (suc i)) ⊎ (y ≢ q.server (suc i)) → (b : Bool) → near W q (last_use W q i) i ≡ b
          → (y ≡ q.server i) ⊎ (y ≢ q.server i) → Turn i y
      go (inl e) b h d = target e (rw (eq-eqb y (q.server (suc i)) e))
      go (inr e) true h d = other e (λ z. mark_K i h) (rw (ne_eqb y (q.server (suc i)) e, h))
      go (inr e) false h (inl d) = source e d (mark_S i h) (rw (ne_eqb y (q.server (suc i)) e, h, eq-eqb y (q.server i) d))
      go (inr e) false h (inr d) = other e (λ z. absurd (d z)) (rw (ne_eqb y (q.server (suc i)) e, h, ne_eqb y (q.server i) d))

  -- request i + 1 is K again at the server of request i, or K at another whose use is near, or S
  pub data Marked (i : ℕ) : Type 0 where
    again : q.server (suc i) ≡ q.server i → mark W q (suc i) ≡ K → Marked i
    back : q.server (suc i) ≢ q.server i → mark W q (suc i) ≡ K
        → (u : ℕ) → last_use W q i (q.server (suc i)) ≡ some u → q.time (suc i) ≤ u + W → Marked i
    sent : q.server (suc i) ≢ q.server i → mark W q (suc i) ≡ S
        → ((u : ℕ) → last_use W q i (q.server (suc i)) ≡ some u → u + W < q.time (suc i)) → Marked i

  -- it is one of these
  pub marked : (i : ℕ) → Marked i
  unfolding near recent
  marked i = go (same_or_not (q.server (suc i)) (q.server i)) (last_use W q i (q.server (suc i))) refl
    where
      used : q.server (suc i) ≢ q.server i → (u : ℕ) → last_use W q i (q.server (suc i)) ≡ some u
          → (q.time (suc i) ≤ u + W) ⊎ (u + W < q.time (suc i)) → Marked i
      used e u l (inl h) = back e (mark_K i (rw (ne_eqb _ _ e, l, le-leb _ _ h))) u l h
      used e u l (inr h) = sent e (mark_S i (rw (ne_eqb _ _ e, l, lt-leb _ _ h))) (λ w z. let r : u ≡ w = cc in omega arith)

      go : (q.server (suc i) ≡ q.server i) ⊎ (q.server (suc i) ≢ q.server i) → (o : Option ℕ) → last_use W q i (q.server (suc i)) ≡ o → Marked i
      go (inl e) o l = again e (mark_K i (rw (eq-eqb _ _ e)))
      go (inr e) none l = sent e (mark_S i (rw (ne_eqb _ _ e, l))) (λ w z. absurd (none_some l z))
      go (inr e) (some u) l = used e u l (le_or_lt (q.time (suc i)) (u + W))

  -- the server of request i is used at its second
  pub use_last : (i : ℕ) → last_use W q i (q.server i) ≡ some (q.time i)
  unfolding last_use next
  use_last zero = rw (eq-eqb (q.server 0) (q.server 0) refl)
  use_last (suc i) = rw (eq-eqb (q.server (suc i)) (q.server (suc i)) refl)

  -- before request 1 no server but home is used
  pub use_none : (y : ℕ) → y ≢ q.server 0 → last_use W q 0 y ≡ none
  unfolding last_use
  use_none y e = rw (ne_eqb y (q.server 0) e)

  -- up to request i there is no request at y and no use, or the last use is not before the latest request
  pub data Link (i y : ℕ) : Type 0 where
    never : latest q.server y (suc i) ≡ none → last_use W q i y ≡ none → Link i y
    since : (j u : ℕ) → latest q.server y (suc i) ≡ some j → last_use W q i y ≡ some u → q.time j ≤ u → u ≤ q.time i → Link i y

  -- one request more
  link_step : (i y : ℕ) → q.time i ≤ q.time (suc i) → Link i y → Turn i y → Link (suc i) y
  link_step i y h l (target e d) = since (suc i) (q.time (suc i)) (latest_hit q.server y (suc i) (sym e)) d (omega arith) (omega arith)
  link_step i y h (never a b) (source e r m d) = absurd (none_some (ap (last_use W q i) (sym r) ∙ b) (use_last i))
  link_step i y h (since j u a b c d) (source e r m l) =
      since j (q.time (suc i)) (latest_miss q.server y (suc i) (λ z. e (sym z)) ∙ a) l (omega arith) (omega arith)
  link_step i y h (never a b) (other e r l) = never (latest_miss q.server y (suc i) (λ z. e (sym z)) ∙ a) (l ∙ b)
  link_step i y h (since j u a b c d) (other e r l) =
      since j u (latest_miss q.server y (suc i) (λ z. e (sym z)) ∙ a) (l ∙ b) c (omega arith)

  -- it is one of these
  pub link : (n : ℕ) → Rising q n → (i y : ℕ) → i ≤ n → Link i y
  unfolding latest
  link n r zero y h = go (same_or_not y (q.server 0))
    where
      go : (y ≡ q.server 0) ⊎ (y ≢ q.server 0) → Link 0 y
      go (inl e) = since 0 (q.time 0) (latest_hit q.server y 0 (sym e)) (ap (last_use W q 0) e ∙ use_last 0) (omega arith) (omega arith)
      go (inr e) = never (latest_miss q.server y 0 (λ z. e (sym z))) (use_none y e)
  link n r (suc i) y h = link_step i y (rises_le r i (suc i) (omega arith) h) (link n r i y (omega arith)) (turn i y)

  -- an S is one transfer more
  pub transfers_S : (i : ℕ) → mark W q (suc i) ≡ S → transfers W q (suc i) ≡ suc (transfers W q i)
  unfolding transfers marking.sent sum sends
  transfers_S i e = rw e (omega arith)

  -- a K is none
  pub transfers_K : (i : ℕ) → mark W q (suc i) ≡ K → transfers W q (suc i) ≡ transfers W q i
  unfolding transfers marking.sent sum sends
  transfers_K i e = rw e (omega arith)

  -- there are no more than requests
  pub transfers_most : (i : ℕ) → transfers W q i ≤ i
  unfolding transfers marking.sent sum
  transfers_most zero = omega arith
  transfers_most (suc i) = go (kept_or_sent (suc i)) (transfers_most i)
    where
      go : (mark W q (suc i) ≡ K) ⊎ (mark W q (suc i) ≡ S) → transfers W q i ≤ i → transfers W q (suc i) ≤ suc i
      go (inl e) ih = omega (arith, transfers_K i e)
      go (inr e) ih = omega (arith, transfers_S i e)
