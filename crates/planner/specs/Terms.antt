-- What a request may be and what that adds to a cost, as the code holds it, and the table's steps and the walk's turns over that. Assumes nothing.
use Rattle.std.specs.Prelude.{Bool, true, false, not, ℕ, suc, ◌+◌, ◌*◌, min, leb, ltb, eqb}
use Rattle.std.proofs.Math.Option.{Option, none, some}
use Rattle.base.specs.Choice.{pick, either}
use Rattle.model.specs.Rates.{Rates}
use Rattle.model.specs.Requests.{Requests, previous}
use Rattle.model.specs.Marking.{S, legal, gap}
use Rattle.model.specs.Table.{cheaper, cheaper_mark, may_leave}
use Rattle.model.proofs.TableLaws.{span}
use Rattle.planner.specs.Answers.{letter}
use Rattle.planner.specs.declared.table.Away.{Away}
use Rattle.planner.specs.declared.table.Terms.{Terms}

-- an index as the code holds it: 65,535 stands for none
unfoldable pub index : Option ℕ → ℕ
index none = 65535
index (some j) = j

-- what the span from a previous request costs, 0 where there is none
unfoldable pub span_from : Rates → Requests → Option ℕ → ℕ → ℕ
span_from p q none i = 0
span_from p q (some j) i = span p q j i

-- what not keeping adds, by the upload price, by whether S is legal and by what S adds, and the letter of its mark
unfoldable pub away_of : Option ℕ → Bool → ℕ → Away
away_of u sendable sent = record { price = cheaper u sendable sent; letter = letter (cheaper_mark u sendable sent) }

-- the terms of request i + 1
unfoldable pub terms_of : Rates → Requests → ℕ → Terms
terms_of p q i =
    record {
      from = index (previous q (suc i));
      sendable = legal p q (suc i) S;
      free = may_leave p q (suc i);
      span = span_from p q (previous q (suc i)) (suc i);
      gap = p.hold * gap q (suc i);
    }

-- what the request adds if it is not kept and the gap before it is covered
unfoldable pub shut_by : Rates → Terms → ℕ
shut_by p a = cheaper p.upload a.sendable p.transfer

-- and where it is not
unfoldable pub bare_by : Rates → Terms → ℕ
bare_by p a = cheaper p.upload a.sendable (p.transfer + a.gap)

-- what a server's first request adds where the gap before it is covered
unfoldable pub first_price : Rates → ℕ
first_price p = cheaper p.upload true p.transfer

-- the lesser of what not keeping and keeping cost, over what is legal
unfoldable pub lesser : Terms → ℕ → ℕ → ℕ
lesser a gone kept = pick (eqb a.from 65535) gone (pick a.free (min gone kept) kept)

-- the least that the request costs by itself
unfoldable pub own_cost : Rates → Terms → ℕ
own_cost p a = lesser a (shut_by p a) a.span

-- the cost with the request, after v for those before it: a server's first request is not kept; any other costs what it costs by itself, and no more than d, its D
unfoldable pub next_cost : Rates → ℕ → ℕ → ℕ → ℕ → ℕ
next_cost p from own d v = pick (eqb from 65535) (first_price p + v) (min (own + v) d)

-- is the request K
unfoldable pub kept_by : Rates → Terms → ℕ → ℕ → ℕ → Bool
kept_by p a c d v =
    pick (eqb a.from 65535) false (pick (ltb a.from c) (eqb d v) (either (not a.free) (leb a.span (shut_by p a))))

-- what S adds where the gaps above c are covered
unfoldable pub sent_by : Rates → Terms → ℕ → ℕ → ℕ
sent_by p a i c = p.transfer + pick (ltb i c) a.gap 0
