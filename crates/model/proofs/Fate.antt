-- What the rows of a feasible schedule do: some hold lies over each second up to a request with no upload between them, and each request's
-- server either held since its previous request or got a move after it.
use Rattle.std.specs.Prelude.{true, ◌⊎◌, ◌≡◌}
use mathlib.Core.List.{List, Memᴰ}
use Rattle.std.proofs.Common.{inl, inr, sym, arith}
use Rattle.std.proofs.Math.Option.{Option, none, some}
use Rattle.std.proofs.Math.Path.{refl}
use Prim.Native.Nat.{ℕ, zero, suc, ◌≤◌, ◌<◌}
use Rattle.base.specs.Choice.{le_or_lt}
use Rattle.model.specs.Rates.{Rates}
use Rattle.model.specs.Requests.{Requests, previous, Rising}
use Rattle.model.proofs.RequestLaws.{previous_some, previous_none, rises}
use Rattle.model.proofs.Once.{awaits, awaits_own, since_none, since_some}
use Rattle.model.specs.Schedule.{Row, hold, move, Move, transfer, upload, Stands, at_home, held, uploaded, arrived, Feasible}

-- a row holds at server x over second τ
pub record Over (rows : List Row) (x τ : ℕ) : Type 0 where
  pub start : ℕ
  pub end : ℕ
  pub row : Memᴰ (hold x start end) rows
  pub low : start < τ
  pub high : τ ≤ end

-- the server where a move puts a copy
unfoldable pub target : Move → ℕ
target (transfer y x τ) = x
target (upload x τ) = x

-- the second at which it does
unfoldable pub second : Move → ℕ
second (transfer y x τ) = τ
second (upload x τ) = τ

-- a copy at server x at second σ, from second b on: held throughout, brought by a move, or there from the start
data Trace (home : ℕ) (rows : List Row) (x b σ : ℕ) : Type 0 where
  throughout : ((τ : ℕ) → b ≤ τ → τ ≤ σ → Over rows x τ) → Trace home rows x b σ
  brought : (v : Move) → Memᴰ (move v) rows → target v ≡ x → b ≤ second v → second v ≤ σ → Trace home rows x b σ
  began : b ≡ 0 → x ≡ home → Trace home rows x b σ

-- request i was kept since its previous request, or got a move while it awaited one; nothing of those that are not among the first n
pub data Fate (q : Requests) (n : ℕ) (rows : List Row) (i : ℕ) : Type 0 where
  kept : (j : ℕ) → previous q i ≡ some j → ((τ : ℕ) → q.time j < τ → τ ≤ q.time i → Over rows (q.server i) τ) → Fate q n rows i
  got : (v : Move) → Memᴰ (move v) rows → awaits q (target v) (second v) i ≡ true → Fate q n rows i
  other : (1 ≤ i → i ≤ n → ⊥) → Fate q n rows i

module _ (p : Rates) (q : Requests) (n : ℕ) (rows : List Row) (F : Feasible p q n rows) where
  -- where the copy is at second 0
  abbrev home : ℕ
  home = q.server 0

  -- a hold that reaches σ leads back to where it begins
  trace_hold : (x a e b σ : ℕ) → Memᴰ (hold x a e) rows → a < σ → σ ≤ e → (b ≤ a → Trace home rows x b a) → (b ≤ a) ⊎ (a < b) → Trace home rows x b σ
  trace_hold x a e b σ m u w back (inr h) = throughout (λ τ k l. record { start = a; end = e; row = m; low = omega arith; high = omega arith })
  trace_hold x a e b σ m u w back (inl h) = go (back h)
    where
      both_parts : ((τ : ℕ) → b ≤ τ → τ ≤ a → Over rows x τ) → (τ : ℕ) → b ≤ τ → τ ≤ σ → (τ ≤ a) ⊎ (a < τ) → Over rows x τ
      both_parts all τ k l (inl z) = all τ k z
      both_parts all τ k l (inr z) = record { start = a; end = e; row = m; low = z; high = omega arith }

      go : Trace home rows x b a → Trace home rows x b σ
      go (throughout all) = throughout (λ τ k l. both_parts all τ k l (le_or_lt τ a))
      go (brought v r z k l) = brought v r z k (omega arith)
      go (began k l) = began k l

  -- each copy that stands, traced back
  trace : (f x b σ : ℕ) → σ < f → b ≤ σ → Stands home rows x σ → Trace home rows x b σ
  unfolding target second
  trace zero x b σ h k d = absurd (omega arith)
  trace (suc f) x b σ h k at_home = began (omega arith) refl
  trace (suc f) x b σ h k (arrived {y = y} m d) = brought (transfer y x σ) m refl k (omega arith)
  trace (suc f) x b σ h k (uploaded m) = brought (upload x σ) m refl k (omega arith)
  trace (suc f) x b σ h k (held {a = a} {b = e} m u w) =
      trace_hold x a e b σ m u w (λ z. trace f x b a (omega arith) z (F.begins x a e m)) (le_or_lt b a)

  -- no upload comes from second τ on up to second σ
  abbrev pub Quiet : ℕ → ℕ → Type 0
  Quiet τ σ = (x ω : ℕ) → Memᴰ (move (upload x ω)) rows → τ ≤ ω → ω ≤ σ → ⊥

  -- where a copy stands after second 0, and not by an upload, a row holds, there or where the transfers of that second come from
  root : {x σ : ℕ} → Stands home rows x σ → 1 ≤ σ → Quiet σ σ → (y : ℕ) × Over rows y σ
  root at_home h quiet = absurd (omega arith)
  root (held {x} {a} {b} m u w) h quiet = (x, record { start = a; end = b; row = m; low = u; high = w })
  root (uploaded {x} {τ} m) h quiet = absurd (quiet x τ m (omega arith) (omega arith))
  root (arrived m d) h quiet = root d h quiet

  -- and over each second before, as long as there was no upload
  somewhere : (f x σ τ : ℕ) → σ < f → Stands home rows x σ → 1 ≤ τ → τ ≤ σ → Quiet τ σ → (y : ℕ) × Over rows y τ
  somewhere zero x σ τ h d u w quiet = absurd (omega arith)
  somewhere (suc f) x σ τ h d u w quiet = go (λ y a. somewhere f y a τ) (root d (omega arith) (λ y ω m k l. quiet y ω m (omega arith) l))
    where
      go2 : ((y a : ℕ) → a < f → Stands home rows y a → 1 ≤ τ → τ ≤ a → Quiet τ a → (y : ℕ) × Over rows y τ)
          → (y : ℕ) (o : Over rows y σ) → (τ ≤ o.start) ⊎ (o.start < τ) → (y : ℕ) × Over rows y τ
      go2 back y o (inl z) =
          back y o.start (omega arith) (F.begins y o.start o.end o.row) u z (λ x ω m k l. quiet x ω m k (omega (arith, o.low)))
      go2 back y o (inr z) = (y, record { start = o.start; end = o.end; row = o.row; low = z; high = omega arith })

      go : ((y a : ℕ) → a < f → Stands home rows y a → 1 ≤ τ → τ ≤ a → Quiet τ a → (y : ℕ) × Over rows y τ)
          → (y : ℕ) × Over rows y σ → (y : ℕ) × Over rows y τ
      go back (y, o) = go2 back y o (le_or_lt τ o.start)

  -- some row holds over each second up to a request with no upload from there on
  pub some_hold : (i τ : ℕ) → 1 ≤ i → i ≤ n → 1 ≤ τ → τ ≤ q.time i → Quiet τ (q.time i) → (y : ℕ) × Over rows y τ
  some_hold i τ h k u w quiet = somewhere (suc (q.time i)) (q.server i) (q.time i) τ (omega arith) (F.serves i h k) u w quiet

  -- what becomes of one of the first n requests
  served : Rising q n → (i : ℕ) → 1 ≤ i → i ≤ n → (o : Option ℕ) → previous q i ≡ o → Fate q n rows i
  served r i h k none e = go (trace (suc (q.time i)) (q.server i) 0 (q.time i) (omega arith) (omega arith) (F.serves i h k))
    where
      go : Trace home rows (q.server i) 0 (q.time i) → Fate q n rows i
      go (throughout all) = absurd (let o = all 0 (omega arith) (omega arith) in omega (arith, o.low))
      go (brought v m z u w) = got v m (rw z (awaits_own q (second v) i (since_none q i (second v) e) w))
      go (began u w) = absurd (previous_none q i e 0 h (sym w))
  served r i h k (some j) e =
      go (trace (suc (q.time i)) (q.server i) (suc (q.time j)) (q.time i) (omega arith)
      (rises r j i (previous_some q i j e).below k) (F.serves i h k))
    where
      go : Trace home rows (q.server i) (suc (q.time j)) (q.time i) → Fate q n rows i
      go (throughout all) = kept j e all
      go (brought v m z u w) = got v m (rw z (awaits_own q (second v) i (since_some q i j (second v) e u) w))
      go (began u w) = absurd (omega arith)

  -- what becomes of each
  pub fate : Rising q n → (i : ℕ) → Fate q n rows i
  fate r i = go (le_or_lt 1 i) (le_or_lt i n)
    where
      go : (1 ≤ i) ⊎ (i < 1) → (i ≤ n) ⊎ (n < i) → Fate q n rows i
      go (inl h) (inl k) = served r i h k (previous q i) refl
      go (inl h) (inr k) = other (λ a b. omega arith)
      go (inr h) k = other (λ a b. omega arith)
