-- What the program writes for an input (01's 'The sheet'). Assumes nothing.
use Rattle.std.specs.Prelude.{List, ℕ, ◌+◌}
use Rattle.prices.specs.PriceFile.{price_room}
use Rattle.prices.specs.Tariff.{Tariff}
use Rattle.request_log.specs.Conditions.{verdict_of}
use Rattle.text.specs.RefusalText.{shown}
use Rattle.report.specs.Sheet.{sheet_of}

-- for the bytes of an input: the sheet, or the one line of the refusal
unfoldable pub output : Tariff → List ℕ → List ℕ
output t log = shown (verdict_of t log) (sheet_of t log)

-- how many bytes of a price file are read at most: one more than the longest has
unfoldable pub price_limit : ℕ
price_limit = price_room + 1
