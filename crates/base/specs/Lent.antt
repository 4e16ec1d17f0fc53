-- What a call leaves in a list that it was lent. Assumes nothing.
use Rattle.std.specs.Prelude.{List, ◌++◌, ℕ, ◌-◌, length, replicate, Ok, Err}
use Rattle.base.specs.Refusals.{Verdict}

-- as it was if the call is refused, else the answer and then zeros
unfoldable pub lent : Verdict → List ℕ → List ℕ → List ℕ
lent (Ok _) answer entry = answer ++ replicate (length entry - length answer) 0
lent (Err r) answer entry = entry
