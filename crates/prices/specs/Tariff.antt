-- What a call takes its prices from: a price file where one is given, else the built-in table. Assumes nothing.
use Rattle.std.specs.Prelude.{List, [], ℕ, Ok}
use Rattle.base.specs.Refusals.{Condition, first, Verdict}
use Rattle.prices.specs.declared.Prices.{Prices}
use Rattle.prices.specs.declared.tariff.Tariff as handed
use Rattle.prices.specs.Prices.{classes}
use Rattle.prices.specs.PriceFile.{table_in, file_conditions}

-- what its file is answered, and the table of its classes
pub record Tariff : Type 0 where
  pub judged : Verdict
  pub table : List Prices

abbrev pub tariff : Verdict → List Prices → Tariff
tariff judged table = record { judged = judged; table = table }

-- what a call is handed says
abbrev pub tariff_of : handed.Tariff → Tariff
tariff_of t = tariff t.judged (table_in t.file.now)

-- none given: the built-in table
abbrev pub built_in : Tariff
built_in = tariff (Ok tt) classes

-- the bytes of a price file
abbrev pub price_file : List ℕ → Tariff
price_file file = tariff (first (file_conditions file)) (table_in file)

-- the two that there are
pub data Given : Tariff → Type 0 where
  none : Given built_in
  file : (bytes : List ℕ) → Given (price_file bytes)

-- the conditions that come before a call's own: the price file's, where one is given
unfoldable pub conditions_of : {t : Tariff} → Given t → List Condition
conditions_of none = []
conditions_of (file bytes) = file_conditions bytes
