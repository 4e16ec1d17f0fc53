-- The table of least costs: over the first i requests, when the gaps above c are covered already. Assumes nothing.
use Rattle.std.specs.Prelude.{Bool, true, false, ℕ, zero, suc, ◌+◌, ◌-◌, ◌*◌, min, leb}
use Rattle.std.proofs.Math.Option.{Option, none, some}
use Rattle.base.specs.Choice.{pick, either}
use Rattle.model.specs.Rates.{Rates}
use Rattle.model.specs.Requests.{Requests, previous}
use Rattle.model.specs.Marking.{Mark, S, U, legal, gap}

-- the hold price of gap i + 1, if it is not covered already
unfoldable pub open_gap : Rates → Requests → ℕ → ℕ → ℕ
open_gap p q i c = pick (leb (suc i) c) (p.hold * gap q (suc i)) 0

-- The least cost of the first i marks when the gaps above c are covered. `allow i`: request i may be other than K, where K is possible.
-- `away i c`: what request i + 1 adds if it is not K.
unfoldable pub table : Rates → Requests → (ℕ → Bool) → (ℕ → ℕ → ℕ) → ℕ → ℕ → ℕ
table p q allow away zero c = 0
table p q allow away (suc i) c =
    elim (previous q (suc i)) [
      | none ↦ away i c + table p q allow away i (min c i)
      | some j ↦
          let kept = p.hold * (q.time (suc i) - q.time j) + table p q allow away i (min c j) in
          elim (allow (suc i)) [ true ↦ min (away i c + table p q allow away i (min c i)) kept | false ↦ kept ]
    ]

-- what S adds at request i + 1: a transfer, and the gap before it if that is not covered
unfoldable pub send_price : Rates → Requests → ℕ → ℕ → ℕ
send_price p q i c = p.transfer + open_gap p q i c

-- what a request that is not kept adds: the lesser of s, which S adds, where it may be S, and the upload price, where there is one
unfoldable pub cheaper : Option ℕ → Bool → ℕ → ℕ
cheaper none b s = s
cheaper (some y) b s = pick b (min s y) y

-- which mark that is: S where it may be S and is no dearer
unfoldable pub cheaper_mark : Option ℕ → Bool → ℕ → Mark
cheaper_mark none b s = S
cheaper_mark (some y) b s = pick b (pick (leb s y) S U) U

-- what request i + 1 adds if it is not K
unfoldable pub away_price : Rates → Requests → ℕ → ℕ → ℕ
away_price p q i c = cheaper p.upload (legal p q (suc i) S) (send_price p q i c)

-- and the mark that adds it
unfoldable pub away_mark : Rates → Requests → ℕ → ℕ → Mark
away_mark p q i c = cheaper_mark p.upload (legal p q (suc i) S) (send_price p q i c)

-- what it adds where the gap before it is covered already
unfoldable pub shut_price : Rates → Requests → ℕ → ℕ
shut_price p q i = cheaper p.upload (legal p q (suc i) S) p.transfer

-- and where it is not
unfoldable pub open_price : Rates → Requests → ℕ → ℕ
open_price p q i = cheaper p.upload (legal p q (suc i) S) (p.transfer + p.hold * gap q (suc i))

-- what it adds where S is allowed everywhere
unfoldable pub free_price : Rates → Requests → ℕ → ℕ → ℕ
free_price p q i c = cheaper p.upload true (send_price p q i c)

-- request i may be other than K
unfoldable pub may_leave : Rates → Requests → ℕ → Bool
may_leave p q i = either (legal p q i S) (legal p q i U)

-- the table where S is allowed everywhere
unfoldable pub free : Rates → Requests → ℕ → ℕ → ℕ
free p q = table p q (λ i. true) (free_price p q)

-- the table of the legal markings
unfoldable pub best : Rates → Requests → ℕ → ℕ → ℕ
best p q = table p q (may_leave p q) (away_price p q)
