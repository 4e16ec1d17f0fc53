-- The line of a refusal, and what a program prints (01's 'The sheet'). Assumes nothing.
use Rattle.std.specs.Prelude.{Bool, List, [], ◌∷◌, ℕ, leb, Ok, Err}
use Rattle.base.specs.Refusals.{Verdict}
use Rattle.base.specs.Choice.{pick, both}
use Rattle.base.specs.declared.Refusal.{Refusal}
use Rattle.text.specs.Decimal.{decimal}
use Rattle.text.specs.Lines.{ascii, line}
use Rattle.base.specs.Reasons.{number}

-- n lies from a to b
abbrev pub within : ℕ → ℕ → ℕ → Bool
within a b n = both (leb a n) (leb n b)

-- 31 to 35 print as state, 1 to 18 and all above 35 as input; so does any other number, which no refusal has
unfoldable pub list_word : ℕ → List ℕ
list_word number = pick (within 31 35 number) (ascii "state") (ascii "input")

-- as `refused input 13 place 2`
unfoldable pub refusal_text : Refusal → List ℕ
refusal_text r =
    line (ascii "refused" ∷ list_word (number r.reason) ∷ decimal (number r.reason) ∷ ascii "place" ∷ decimal r.place ∷ [])

-- what a program prints by a verdict: a text, or the one line of the refusal
unfoldable pub shown : Verdict → List ℕ → List ℕ
shown (Ok _) text = text
shown (Err r) text = refusal_text r

-- room for any such line
abbrev pub refusal_room : ℕ
refusal_room = 64
