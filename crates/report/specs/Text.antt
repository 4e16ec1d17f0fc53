-- The lines of the sheet, byte for byte (01's 'The sheet'). Assumes nothing.
use Rattle.std.specs.Prelude.{List, [], ◌∷◌, ◌++◌, ℕ, zero, suc, get_or}
use Rattle.text.specs.Decimal.{decimal}
use Rattle.text.specs.Lines.{ascii, line, figure_line}
use Rattle.report.specs.declared.Entry.{Entry}

-- the first line
unfoldable pub heading : List ℕ
heading = ascii "scan second station plan live least bill\n"

-- a request's line: number, second, server, plan mark, online mark, least cost and running cost of the requests so far
unfoldable pub entry_line : Entry → List ℕ
entry_line e =
    line
    (decimal e.number
    ∷ decimal e.second
    ∷ decimal e.server
    ∷ (e.plan ∷ [])
    ∷ (e.live ∷ [])
    ∷ decimal e.least
    ∷ decimal e.cost
    ∷ [])

-- the lines of the first k requests
unfoldable pub entry_lines : (ℕ → Entry) → ℕ → List ℕ
entry_lines e zero = []
entry_lines e (suc k) = entry_lines e k ++ entry_line (e k)

-- the whole sheet of n requests: the last lines give the number of the plan's rows, and the closing cost (02's Req 02)
unfoldable pub sheet_text : (ℕ → Entry) → ℕ → ℕ → ℕ → List ℕ
sheet_text e n rows closing =
    heading ++ (entry_lines e n ++ (figure_line (ascii "rows") (rows ∷ []) ++ figure_line (ascii "close") (closing ∷ [])))

-- ---- its columns, one list for each

pub record Columns : Type 0 where
  pub seconds : List ℕ
  pub servers : List ℕ
  pub plan : List ℕ
  pub live : List ℕ
  pub least : List ℕ
  pub costs : List ℕ

abbrev pub columns : List ℕ → List ℕ → List ℕ → List ℕ → List ℕ → List ℕ → Columns
columns seconds servers plan live least costs =
    record { seconds = seconds; servers = servers; plan = plan; live = live; least = least; costs = costs }

-- what the line of request i, from 0, says; the least costs begin with that of no requests
unfoldable pub entry_of : Columns → ℕ → Entry
entry_of c i =
    record {
      number = suc i;
      second = get_or c.seconds i 0;
      server = get_or c.servers i 0;
      plan = get_or c.plan i 0;
      live = get_or c.live i 0;
      least = get_or c.least (suc i) 0;
      cost = get_or c.costs i 0;
    }
