-- A loop that clears a list from a place on, for every width. Assumes nothing.
use mathlib.Core.List.{List, ◌++◌, append-nil, append_assoc}
use mathlib.Core.Path.{◌≡◌, refl, sym, ap, ◌∙◌}
use Prim.Native.Nat.{ℕ, suc, ◌+◌, ◌-◌, ◌≤◌, ◌<◌}
use native.Mathlib.Nat.{sub_self}
use native.Mathlib.Numerals.{add-one}
use native.Mathlib.Omega.{arith}
use lib.ListN.{length, take, drop, set, replicate, length-append, length-set, length-take, length-replicate, take-append-drop, drop_of_length-le, replicate-append-replicate}
use lib.Seq.{drop-cons, set_at, append_snoc}
use Rattle.base.specs.Lists.{filled}

module _ {A : Type 0} (z : A) where
  -- the list with z from one place up to another
  unfoldable pub wiped : ℕ → ℕ → List A → List A
  wiped from i o = take from o ++ replicate (i - from) z ++ drop i o

  -- before the first store nothing has changed
  wiped_none : (from : ℕ) (o : List A) → o ≡ wiped from from o
  unfolding wiped
  wiped_none from o = rw (sub_self, append-nil (take from o)) (sym (take-append-drop from o))

  -- a store takes the loop one place on
  wiped_more : (from i : ℕ) (o : List A) → from ≤ i → i < length o → set (wiped from i o) i z ≡ wiped from (i + 1) o
  unfolding wiped
  wiped_more from i o h l =
      let p : List A = take from o ++ replicate (i - from) z in
      let long : length p ≡ i = simp (length-append, length-take, length-replicate) (omega arith) in
      let one : i + 1 - from ≡ i - from + 1 = omega arith in
      rw (drop-cons o i z l, set_at p _ _ z i long, one, ← replicate-append-replicate, ← append_assoc, add-one i)
      (sym (append_snoc p z (drop (suc i) o)))

  -- past the end all is filled z
  wiped_all : (from i : ℕ) (o : List A) → length o ≤ i → i - from ≤ length o - from → wiped from i o ≡ filled z from o
  unfolding wiped
  wiped_all from i o h l =
      let e : i - from ≡ length o - from = omega arith in
      rw (drop_of_length-le o {i = i} h, e) (append-nil (filled z from o))

  -- the list o, as it is when the loop stands at i
  pub record Clearing (o : List A) (from : ℕ) (out : List A) (i : ℕ) : Type 0 where
    pub begun : from ≤ i
    pub inside : i - from ≤ length o - from
    pub as_long : length out ≡ length o
    pub zeros : out ≡ wiped from i o

  -- before the loop
  pub clearing_begins : (from : ℕ) (o : List A) → Clearing o from o from
  clearing_begins from o = record { begun = omega arith; inside = omega arith; as_long = refl; zeros = wiped_none from o }

  -- after a turn
  pub clearing_next : (from : ℕ) (o out : List A) (i : ℕ) → Clearing o from out i → i < length out → Clearing o from (set out i z) (i + 1)
  clearing_next from o out i c l = record {
    begun = omega arith;
    inside = omega arith;
    as_long = length-set out i z ∙ c.as_long;
    zeros = ap (λ (x : List A). set x i z) c.zeros ∙ wiped_more from i o c.begun (omega arith);
  }

  -- after the loop
  pub clearing_ends : (from : ℕ) (o out : List A) (i : ℕ) → Clearing o from out i → length out ≤ i → out ≡ filled z from o
  clearing_ends from o out i c l = c.zeros ∙ wiped_all from i o (omega arith) c.inside
