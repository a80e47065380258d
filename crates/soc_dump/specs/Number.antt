-- A number of a structure: its bytes, the lowest first, from the field's offset on.
use Rattle.std.specs.Prelude.{ℕ, List, drop}
use Rattle.byteorder.specs.Endian.{little_number}
use Rattle.soc_dump.specs.declared.field.Field.{Field}

abbrev pub number_of : List ℕ → Field → ℕ
number_of structure field = little_number field.width (drop field.offset structure)
