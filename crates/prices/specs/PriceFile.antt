-- The price file of 02's Req 05: its fields, its table, and the conditions 37 and 38. Assumes nothing.
use Rattle.std.specs.Prelude.{not, List, [], ◌∷◌, ◌≡◌, ℕ, ◌+◌, ◌*◌, ◌≤◌, ◌<◌, ltb, eqb, length}
use Rattle.base.specs.declared.reasons.Reason.TheVariants as reason
use Rattle.base.specs.Choice.{either}
use Rattle.base.specs.Refusals.{Condition, refuse, each}
use Rattle.base.specs.Bytes.{le16, le32}
use Rattle.base.specs.Lists.{build}
use Rattle.prices.specs.declared.Prices.{Prices}
use Rattle.prices.specs.Prices.{priced, outside, InRange}

-- how many classes a file has at most, and how many bytes
abbrev pub most_classes : ℕ
most_classes = 256

abbrev pub price_room : ℕ
price_room = 4 + 8 * most_classes

-- count of classes, 16 bits
unfoldable pub class_count : List ℕ → ℕ
class_count file = le16 file 0

-- offset of the prices, 16 bits
unfoldable pub prices_offset : List ℕ → ℕ
prices_offset file = le16 file 2

-- the prices of a class: hold (02: keep) and transfer (02: send), 32 bits each, eight bytes apart from 4 on
unfoldable pub pair_at : List ℕ → ℕ → Prices
pair_at file class = priced (le32 file (4 + 8 * class)) (le32 file (8 + 8 * class))

-- the table that a file has, class 0 first
unfoldable pub table_in : List ℕ → List Prices
table_in file = build (class_count file) (pair_at file)

-- 37 under 4 bytes, or a count that is not 1 to 256, an offset that is not 4, a length that is not the count's
abbrev pub form_condition : List ℕ → Condition
form_condition file =
    refuse reason.PriceFile 0
    (either (ltb (length file) 4)
    (either (either (eqb (class_count file) 0) (ltb most_classes (class_count file)))
    (either (not (eqb (prices_offset file) 4)) (not (eqb (length file) (4 + 8 * class_count file))))))

-- 38 a price out of range; its place is the class, from 0
unfoldable pub pair_condition : List ℕ → ℕ → List Condition
pair_condition file class = refuse reason.PriceRange class (outside (pair_at file class)) ∷ []

-- all conditions on a price file: 37, then 38 class by class
unfoldable pub file_conditions : List ℕ → List Condition
file_conditions file = form_condition file ∷ each (pair_condition file) (class_count file)

-- what 02 asks of a price file: its count, offset and length as the format says, and each class in range
pub record Loads (file : List ℕ) : Type 0 where
  pub count_least : 1 ≤ class_count file
  pub count_most : class_count file ≤ most_classes
  pub offset_is : prices_offset file ≡ 4
  pub length_is : length file ≡ 4 + 8 * class_count file
  pub ranged : (class : ℕ) → class < class_count file → InRange (pair_at file class)

-- the bytes of a price file that says the built-in table
unfoldable pub built_in_bytes : List ℕ
built_in_bytes = 8 ∷ 0 ∷ 4 ∷ 0
    ∷ 1 ∷ 0 ∷ 0 ∷ 0 ∷ 10 ∷ 0 ∷ 0 ∷ 0
    ∷ 1 ∷ 0 ∷ 0 ∷ 0 ∷ 25 ∷ 0 ∷ 0 ∷ 0
    ∷ 2 ∷ 0 ∷ 0 ∷ 0 ∷ 25 ∷ 0 ∷ 0 ∷ 0
    ∷ 3 ∷ 0 ∷ 0 ∷ 0 ∷ 30 ∷ 0 ∷ 0 ∷ 0
    ∷ 3 ∷ 0 ∷ 0 ∷ 0 ∷ 100 ∷ 0 ∷ 0 ∷ 0
    ∷ 5 ∷ 0 ∷ 0 ∷ 0 ∷ 88 ∷ 2 ∷ 0 ∷ 0
    ∷ 7 ∷ 0 ∷ 0 ∷ 0 ∷ 5 ∷ 0 ∷ 0 ∷ 0
    ∷ 1 ∷ 0 ∷ 0 ∷ 0 ∷ 64 ∷ 66 ∷ 15 ∷ 0
    ∷ []
