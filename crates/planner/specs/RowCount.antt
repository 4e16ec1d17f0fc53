-- The number of rows, counted by the words of the gaps' holders. Assumes nothing.
use Rattle.std.specs.Prelude.{List, ℕ, pred, ◌+◌, ◌-◌, get_or}
use Rattle.std.specs.Int.Bits.{bit_and}
use Rattle.base.specs.Choice.{pick}
use Rattle.base.specs.Sets.{members}
use Rattle.model.specs.Sums.{sum}
use Rattle.model.specs.Marking.{Mark, keeps}

-- the holds that begin with gap k: the copies that stand over it, less those that stood over the gap before it too
unfoldable pub begun : List ℕ → ℕ → ℕ
begun words k = members 64 (get_or words k 0) - members 64 (bit_and (get_or words k 0) (get_or words (pred k) 0))

-- the transfer or upload to request i, if it is not K
unfoldable pub sent_at : (ℕ → Mark) → ℕ → ℕ
sent_at m i = pick (keeps (m i)) 0 1

-- over gaps 1 to n
unfoldable pub row_count : List ℕ → (ℕ → Mark) → ℕ → ℕ
row_count words m n = sum n (λ k. begun words k + sent_at m k)
