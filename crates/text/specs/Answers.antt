-- What a call that prints answers, by its verdict. Assumes nothing.
use Rattle.std.specs.Prelude.{List, [], ◌∷◌, ℕ, length, Ok, Err, Result}
use Rattle.base.specs.declared.Refusal.{Refusal}
use Rattle.base.specs.Lent.{lent}
use Rattle.base.specs.Refusals.{first, short, Verdict}

-- 31 where what is lent is too short for a text
unfoldable pub room_verdict : List ℕ → ℕ → Verdict
room_verdict text room = first (short (length text) room ∷ [])

-- the length of the text, or the refusal
unfoldable pub printed : Verdict → List ℕ → Result ℕ Refusal
printed (Ok _) text = Ok (length text)
printed (Err r) text = Err r

-- what a lent text holds at the end
abbrev pub text_left : List ℕ → List ℕ → List ℕ
text_left text o = lent (room_verdict text (length o)) text o
