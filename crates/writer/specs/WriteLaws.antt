-- What the writer's steps make of the lent bytes, one after the other.
use mathlib.Core.List.{List, [], ◌++◌, append_assoc}
use Rattle.std.specs.Prelude.{◌≡◌, refl, ℕ, suc, ◌+◌, ◌*◌, ◌-◌, ◌≤◌, replicate, Ok}
use Rattle.std.proofs.Common.{sym, ◌∙◌, arith, length-drop, take-append-drop, drop-drop, length-take-le}
use Rattle.std.proofs.Math.Path.{ap}
use Rattle.std.proofs.Math.ListN.{length, take, drop, length-append}
use Rattle.std.proofs.Math.Seq.{take_at, drop_at}
use Rattle.base.specs.Bytes.{bytes}
use Rattle.base.specs.BytesLaws.{bytes_length}
use Rattle.base.specs.Lent.{lent}
use Rattle.base.specs.Lists.{splice, splice_fits, cleared}
use Rattle.checksum.specs.Sum.{sum_from, sum_of}
use Rattle.request_log.specs.Contents.{request_bytes, requests_bytes}
use Rattle.request_log.specs.EncodeLaws.{requests_length}

-- a run of bytes right after a prefix
pub splice_after : (a x o : List ℕ) (n m : ℕ) → length a ≡ n → n + length x ≡ m → m ≤ length (a ++ o) → splice n x (a ++ o) ≡ a ++ (x ++ drop (length x) o)
splice_after a x o n m e f h =
    splice_fits n x (a ++ o) (omega arith)
    ∙ rw (take_at a o n e, ← drop-drop, drop_at a o n e)

request_length : (seconds servers : List ℕ) (k : ℕ) → length (request_bytes seconds servers k) ≡ 6
unfolding request_bytes
request_length seconds servers k = refl

-- one more request, after those before it
pub requests_next : (seconds servers o : List ℕ) (k : ℕ) → 40 + 6 * suc k ≤ length o
    → splice (40 + 6 * k) (request_bytes seconds servers k) (take 40 o ++ (requests_bytes seconds servers k ++ drop (40 + 6 * k) o))
    ≡ take 40 o ++ (requests_bytes seconds servers (suc k) ++ drop (40 + 6 * suc k) o)
unfolding requests_bytes
requests_next seconds servers o k h =
    let p = take 40 o in
    let rs = requests_bytes seconds servers k in
    let r = request_bytes seconds servers k in
    let rest = drop (40 + 6 * k) o in
    let e : length r ≡ 6 = request_length seconds servers k in
    let l : length p ≡ 40 = length-take-le 40 o (omega arith) in
    let a : length (p ++ rs) ≡ 40 + 6 * k = simp length-append (omega (arith, l, requests_length seconds servers k)) in
    let b : length ((p ++ rs) ++ rest) ≡ length o = simp (length-append, length-drop) (omega (arith, l, requests_length seconds servers k)) in
    let w : 40 + 6 * k + length r ≡ 40 + 6 * suc k = omega arith in
    let d : drop (length r) rest ≡ drop (40 + 6 * suc k) o = drop-drop (length r) (40 + 6 * k) o ∙ ap (λ (m : ℕ). drop m o) w in
    ap (λ (x : List ℕ). splice (40 + 6 * k) r x) (sym (append_assoc p rs rest))
    ∙ splice_after (p ++ rs) r rest (40 + 6 * k) (40 + 6 * suc k) a (omega arith) (omega arith)
    ∙ ap (λ (x : List ℕ). (p ++ rs) ++ (r ++ x)) d
    ∙ append_assoc p rs (r ++ drop (40 + 6 * suc k) o)
    ∙ ap (λ (x : List ℕ). p ++ x) (sym (append_assoc rs r (drop (40 + 6 * suc k) o)))

-- The head a, the id b and the requests c are put in their places, the rest is zeroed, then the sum is put in its place.
module _ (a b c o : List ℕ) (n : ℕ) (la : length a ≡ 20) (lb : length b ≡ 16) (lc : length c ≡ 6 * n) (fits : 40 + 6 * n ≤ length o) where
  -- what stands at 20 to 23 meanwhile
  abbrev x : List ℕ
  x = take 4 (drop 20 o)

  abbrev zeros : List ℕ
  zeros = replicate (length o - (40 + 6 * n)) 0

  x_length : length x ≡ 4
  x_length = length-take-le 4 (drop 20 o) (simp length-drop (omega arith))

  head_put : splice 0 a o ≡ (a ++ x) ++ drop 24 o
  head_put =
      splice_after [] a o 0 20 refl (omega arith) (omega arith)
      ∙ rw (la) (ap (λ (l : List ℕ). a ++ l) (sym (take-append-drop 4 (drop 20 o)) ∙ ap (λ (l : List ℕ). x ++ l) (drop-drop 4 20 o)) ∙ sym (append_assoc a x (drop 24 o)))

  pub front : splice 24 b (splice 0 a o) ≡ ((a ++ x) ++ b) ++ drop 40 o
  front =
      let l : length (a ++ x) ≡ 24 = simp length-append (omega (arith, x_length)) in
      let m : length ((a ++ x) ++ drop 24 o) ≡ length o = simp (length-append, length-drop) (omega (arith, x_length)) in
      ap (λ (l : List ℕ). splice 24 b l) head_put
      ∙ splice_after (a ++ x) b (drop 24 o) 24 40 l (omega arith) (omega arith)
      ∙ rw (lb, drop-drop 16 24 o) (sym (append_assoc (a ++ x) b (drop 40 o)))

  front_length : length ((a ++ x) ++ b) ≡ 40
  front_length = simp length-append (omega (arith, x_length))

  -- the bytes without the sum
  abbrev unsummed : List ℕ
  unsummed = ((a ++ x) ++ b) ++ c

  unsummed_length : length unsummed ≡ 40 + 6 * n
  unsummed_length = simp length-append (omega (arith, x_length))

  all_put : (o' : List ℕ) → o' ≡ splice 24 b (splice 0 a o) → take 40 o' ++ (c ++ drop (40 + 6 * n) o') ≡ unsummed ++ drop (40 + 6 * n) o
  all_put o' e =
      rw (e, front, take_at ((a ++ x) ++ b) (drop 40 o) 40 front_length, ← drop-drop (6 * n) 40 (((a ++ x) ++ b) ++ drop 40 o), drop_at ((a ++ x) ++ b) (drop 40 o) 40 front_length, drop-drop (6 * n) 40 o)
      (sym (append_assoc ((a ++ x) ++ b) c (drop (40 + 6 * n) o)))

  zeroed : cleared (40 + 6 * n) (unsummed ++ drop (40 + 6 * n) o) ≡ unsummed ++ zeros
  zeroed =
      let l : length (unsummed ++ drop (40 + 6 * n) o) - (40 + 6 * n) ≡ length o - (40 + 6 * n) = simp (length-append unsummed (drop (40 + 6 * n) o), length-drop) (omega (arith, unsummed_length)) in
      rw (l, take_at unsummed (drop (40 + 6 * n) o) (40 + 6 * n) unsummed_length)

  body_is : (z : List ℕ) → unsummed ++ z ≡ a ++ (x ++ ((b ++ c) ++ z))
  body_is z = simp append_assoc

  sum_is : sum_of unsummed ≡ sum_from 0 (a ++ (b ++ c))
  unfolding sum_of
  sum_is =
      let e : unsummed ≡ a ++ (x ++ (b ++ c)) = simp append_assoc in
      let l : length (a ++ x) ≡ 24 = simp length-append (omega (arith, x_length)) in
      let f : unsummed ≡ (a ++ x) ++ (b ++ c) = simp append_assoc in
      let u : take 20 unsummed ≡ a = ap (take 20) e ∙ take_at a (x ++ (b ++ c)) 20 la in
      let v : drop 24 unsummed ≡ b ++ c = ap (drop 24) f ∙ drop_at (a ++ x) (b ++ c) 24 l in
      rw (u, v)

  summed : splice 20 (bytes 4 (sum_of (take (40 + 6 * n) (unsummed ++ zeros)))) (unsummed ++ zeros)
      ≡ a ++ (bytes 4 (sum_from 0 (a ++ (b ++ c))) ++ ((b ++ c) ++ zeros))
  summed =
      let s = bytes 4 (sum_from 0 (a ++ (b ++ c))) in
      let w : length s ≡ 4 = bytes_length 4 (sum_from 0 (a ++ (b ++ c))) in
      let y = x ++ ((b ++ c) ++ zeros) in
      let m : length (a ++ y) ≡ 20 + length y = simp length-append (omega arith) in
      let k : 4 ≤ length y = simp length-append (omega (arith, x_length)) in
      rw (take_at unsummed zeros (40 + 6 * n) unsummed_length, sum_is, body_is zeros)
      (splice_after a s y 20 24 la (omega arith) (omega arith) ∙ rw (w, drop_at x ((b ++ c) ++ zeros) 4 x_length))

  -- all steps together: the log, and zeros after it
  pub all_written : (o₁ o₂ o₃ : List ℕ) → o₁ ≡ splice 24 b (splice 0 a o) → o₂ ≡ take 40 o₁ ++ (c ++ drop (40 + 6 * n) o₁)
      → o₃ ≡ cleared (40 + 6 * n) o₂
      → splice 20 (bytes 4 (sum_of (take (40 + 6 * n) o₃))) o₃ ≡ lent (Ok tt) (a ++ (bytes 4 (sum_from 0 (a ++ (b ++ c))) ++ (b ++ c))) o
  unfolding lent
  all_written o₁ o₂ o₃ p q r =
      let s = bytes 4 (sum_from 0 (a ++ (b ++ c))) in
      let e : o₃ ≡ unsummed ++ zeros = r ∙ ap (cleared (40 + 6 * n)) (q ∙ all_put o₁ p) ∙ zeroed in
      let l : length (a ++ (s ++ (b ++ c))) ≡ 40 + 6 * n = simp length-append (omega (arith, bytes_length 4 (sum_from 0 (a ++ (b ++ c))))) in
      rw (e, summed, l) (simp append_assoc)
