-- What a call that printed leaves: the text stands at the front of what was lent, and is what a program shows.
use Rattle.std.specs.Prelude.{List, ◌++◌, ℕ, ◌-◌, ◌≤◌, take, replicate, Ok, Err}
use Rattle.std.proofs.Math.Path.{◌≡◌, refl}
use Rattle.std.proofs.Common.{arith, length-append, take_at}
use Rattle.std.proofs.Math.ListN.{length}
use Rattle.base.specs.Lent.{lent}
use Rattle.base.specs.Refusals.{otherwise, Verdict}
use Rattle.base.specs.declared.Refusal.{Refusal}
use Rattle.text.specs.Answers.{room_verdict, printed}
use Rattle.text.specs.AnswerLaws.{room_passed}
use Rattle.text.specs.RefusalText.{refusal_text, shown}

-- a text that was printed
stands : (v : Verdict) (xs text text' : List ℕ) (n : ℕ) → v ≡ Ok tt → printed v xs ≡ Ok n → text' ≡ lent v xs text
    → (n ≤ length text') × (take n text' ≡ xs)
unfolding printed lent
stands v xs text text' n e f g =
    let k : Ok (length xs) ≡ Ok n = rw e at f in
    let l : length xs ≡ n = cc in
    let t : text' ≡ xs ++ replicate (length text - length xs) 0 = rw e at g in
    rw (t, ← l) (simp length-append (omega arith), take_at xs (replicate (length text - length xs) 0) (length xs) refl)

-- a text that has room where a verdict passes
module _ (v : Verdict) (xs text : List ℕ) (fits : v ≡ Ok tt → length xs ≤ length text) where
  -- the verdict with that on the room
  abbrev whole : Verdict
  whole = otherwise v (room_verdict xs (length text))

  -- it passes where the first does
  whole_passed : v ≡ Ok tt → whole ≡ Ok tt
  whole_passed e = rw e (room_passed xs (length text) (fits e))

  -- what was printed is shown
  pub printed_shown : (n : ℕ) (text' : List ℕ) → printed whole xs ≡ Ok n → text' ≡ lent whole xs text → (n ≤ length text') × (take n text' ≡ shown v xs)
  unfolding printed shown
  printed_shown n text' f g = go v refl
    where
      go : (w : Verdict) → v ≡ w → (n ≤ length text') × (take n text' ≡ shown v xs)
      go (Ok _) e = rw e (stands whole xs text text' n (whole_passed e) f g)
      go (Err r) e = let z : Err r ≡ Ok n = rw e at f in absurd (let z : ◌≡◌ {A = ℕ} 0 1 = cc in omega arith)

  -- and so is the line of what refused it
  pub refused_shown : (r : Refusal) → printed whole xs ≡ Err r → refusal_text r ≡ shown v xs
  unfolding printed shown
  refused_shown r f = go v refl
    where
      go : (w : Verdict) → v ≡ w → refusal_text r ≡ shown v xs
      go (Ok _) e =
          let z : Ok (length xs) ≡ Err r = rw (whole_passed e) at f in
          absurd (let z : ◌≡◌ {A = ℕ} 0 1 = cc in omega arith)
      go (Err s) e =
          let z : Err s ≡ Err r = rw e at f in
          let k : s ≡ r = cc in
          rw (e, k)
