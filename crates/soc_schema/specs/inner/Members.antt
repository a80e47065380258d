-- A member of a row's object.
use Rattle.std.specs.Prelude.{ℕ, List, ◌++◌, codes}
use Rattle.serde_json.specs.Data.{string}
use Rattle.serde_json.specs.Written.{compact_text}
use Rattle.soc_schema.specs.declared.value.Cell.{Cell}
use Rattle.soc_schema.specs.Fields.{name_of}
use Rattle.soc_schema.specs.RowJson.{value_json}

-- the field's name and its value
abbrev pub cell_json : Cell → List ℕ
cell_json c = compact_text (string (name_of c.field)) ++ codes ":" ++ value_json c.value
