-- The text of a row, by concatenation: this project's profile. Numbers are little-endian.
use Rattle.std.specs.Prelude.{◌≡◌, ℕ, ◌^◌, ◌<◌, List, ◌∷◌, [], ◌++◌, length, flat_map, if◌then◌else◌, ⊤}
use Rattle.std.specs.Int.{to_le_bytes, w32, w64}
use Rattle.std.specs.List.{AllByRecursion}
use Rattle.std.specs.Str.{IsUtf8}
use Rattle.soc_base.specs.Cursor.{counted}
use Rattle.soc_schema.specs.declared.value.Value.{Value}
use Rattle.soc_schema.specs.declared.value.Value.TheVariants.{Text, Number, Flag}
use Rattle.soc_schema.specs.declared.value.Cell.{Cell}
use Rattle.soc_schema.specs.Rows.{IsRow}

-- the tags of the three kinds
abbrev pub text_tag : ℕ
text_tag = 0

abbrev pub number_tag : ℕ
number_tag = 1

abbrev pub flag_tag : ℕ
flag_tag = 2

-- a tag for the kind, and the value: a text after its length, 8 bytes, or one byte
abbrev pub value_text : Value → List ℕ
value_text (Text bytes) = text_tag ∷ counted bytes
value_text (Number n) = number_tag ∷ to_le_bytes w64 n
value_text (Flag b) = flag_tag ∷ (if b then 1 else 0) ∷ []

-- the field's place in the table, and its value
abbrev pub cell_text : Cell → List ℕ
cell_text c = c.field ∷ value_text c.value

abbrev pub cells_text : List Cell → List ℕ
cells_text cells = flat_map cell_text cells

-- how many fields there are, and each of them
abbrev pub row_text : List Cell → List ℕ
row_text cells = to_le_bytes w32 (length cells) ++ cells_text cells

-- a text has fewer than 2^32 bytes
abbrev pub IsShort : Value → Type 0
IsShort (Text bytes) = length bytes < 2 ^ 32
IsShort (Number _) = ⊤
IsShort (Flag _) = ⊤

-- a value that a text can hold: a short text of UTF-8, or a number of 64 bits
abbrev pub IsValue : Value → Type 0
IsValue (Text bytes) = IsUtf8 bytes × (length bytes < 2 ^ 32)
IsValue (Number n) = n < 2 ^ 64
IsValue (Flag _) = ⊤

-- the row has this text
pub record HasText (cells : List Cell) (text : List ℕ) : Type 0 where
  pub is_row : IsRow cells
  pub values : AllByRecursion (λ c. IsValue c.value) cells
  pub whole : text ≡ row_text cells
