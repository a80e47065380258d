-- The order in which rows are walked to.
use Rattle.std.specs.Prelude.{ℕ, Bool, false, List, [], ◌∷◌, Option, None, Some, map, reverse, slice_index_or, if◌then◌else◌}
use Rattle.std.specs.Ordering.{is_eq}
use Rattle.soc_schema.specs.declared.value.Value.{Value}
use Rattle.soc_schema.specs.declared.value.Cell.{Cell}
use Rattle.soc_schema.specs.Rows.{value_of}
use Rattle.soc_schema.specs.Fields.{uuid_field}
use Rattle.soc_schema.specs.Values.{values_of}
use Rattle.soc_query.specs.declared.part.Sort.{Sort}
use Rattle.soc_query.specs.Answers.{value_order}

-- the first field that rows are sorted by: the id, where none is asked
abbrev pub first_of : List Sort → Sort
first_of [] = record { field = uuid_field; falling = false }
first_of (s ∷ ss) = s

-- the fields that are compared where the first one ties
abbrev pub others_of : List Sort → List Sort
others_of [] = []
others_of (s ∷ ss) = ss

-- rising values in the order that is asked
abbrev pub walk_of : Bool → List Value → List Value
walk_of falling vs = if falling then reverse vs else vs

-- the key of a group of a walk over values: one of these in the order that is asked, and none behind them
abbrev pub key_at : Bool → List Value → ℕ → Option Value
key_at falling vs i = slice_index_or (map Some (walk_of falling vs)) i None

-- whether the row has this value of the field, or none
abbrev pub is_keyed : Sort → Option Value → List Cell → Bool
is_keyed s key row = is_eq (value_order s.falling key (value_of row s.field))

-- whether the row is of this group of a walk over the rows
abbrev pub is_in_group : Sort → List (ℕ × List Cell) → ℕ → List Cell → Bool
is_in_group s rows i row = is_keyed s (key_at s.falling (values_of s.field rows) i) row
