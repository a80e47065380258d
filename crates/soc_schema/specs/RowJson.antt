-- A row as a JSON object (RFC 8259): this project's profile.
use Rattle.std.specs.Prelude.{ℕ, List, [], ◌∷◌}
use Rattle.serde_json.specs.Data.{Data, string, number, boolean, object, unsigned, Members, no_members, put}
use Rattle.serde_json.specs.Written.{compact_text}
use Rattle.soc_schema.specs.declared.value.Value.{Value}
use Rattle.soc_schema.specs.declared.value.Value.TheVariants.{Text, Number, Flag}
use Rattle.soc_schema.specs.declared.value.Cell.{Cell}
use Rattle.soc_schema.specs.Fields.{name_of}

abbrev pub data_of : Value → Data
data_of (Text text) = string text
data_of (Number n) = number (unsigned n)
data_of (Flag b) = boolean b

abbrev pub value_json : Value → List ℕ
value_json v = compact_text (data_of v)

-- the members with each field's name and value
abbrev pub with_cells : Members → List Cell → Members
with_cells members [] = members
with_cells members (cell ∷ cells) = with_cells (put (name_of cell.field) (data_of cell.value) members) cells

-- an object of the row's names and values, in byte order of names
unfoldable pub row_json : List Cell → List ℕ
row_json cells = compact_text (object (with_cells no_members cells))
