-- What the programs of cases print of an answer.
use Rattle.std.specs.Prelude.{ℕ, List, ◌∷◌, ◌++◌, Result, Ok, Err, codes}
use Rattle.std.specs.Fmt.{decimal}
use Rattle.base.specs.declared.Refusal.{Refusal}
use Rattle.base.specs.Reasons.{number}

-- the word and the number, or `refused` with the refusal's number and place
abbrev pub answer_text : List ℕ → Result ℕ Refusal → List ℕ
answer_text word (Ok n) = word ++ (32 ∷ decimal n)
answer_text word (Err r) = codes "refused " ++ (decimal (number r.reason) ++ (32 ∷ decimal r.place))
