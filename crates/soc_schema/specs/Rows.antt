-- Rows: what a report says, as a list of fields and values.
use Rattle.std.specs.Prelude.{◌≡◌, ℕ, ◌+◌, ◌≤◌, ◌==◌, nat_lt, if◌then◌else◌, List, [], ◌∷◌, Option, None, Some, ⊤}
use Rattle.soc_schema.specs.declared.field.FieldKind.{FieldKind}
use Rattle.soc_schema.specs.declared.field.FieldKind.TheVariants.{Text as TextKind, Number as NumberKind, Flag as FlagKind}
use Rattle.soc_schema.specs.declared.value.Value.{Value}
use Rattle.soc_schema.specs.declared.value.Value.TheVariants.{Text, Number, Flag}
use Rattle.soc_schema.specs.declared.value.Cell.{Cell}
use Rattle.soc_schema.specs.Fields.{IsField, kind_of}

-- what kind of field has this value
abbrev pub kind_of_value : Value → FieldKind
kind_of_value (Text _) = TextKind
kind_of_value (Number _) = NumberKind
kind_of_value (Flag _) = FlagKind

-- a field of the table and a value of its kind
pub record IsCell (c : Cell) : Type 0 where
  pub in_table : IsField c.field
  pub of_kind : kind_of_value c.value ≡ kind_of c.field

-- the fields rise from `low` on
abbrev pub RisesFrom : ℕ → List Cell → Type 0
RisesFrom low [] = ⊤
RisesFrom low (c ∷ cs) = (low ≤ c.field) × IsCell c × RisesFrom (c.field + 1) cs

-- each field at most once, in the order of the table, with a value of its kind
abbrev pub IsRow : List Cell → Type 0
IsRow cells = RisesFrom 0 cells

-- the value that a row has of a field
abbrev pub value_of : List Cell → ℕ → Option Value
value_of [] f = None
value_of (c ∷ cs) f = if c.field == f then Some c.value else value_of cs f

abbrev pub cell : ℕ → Value → Cell
cell f v = record { field = f; value = v }

-- the row with this value of the field, in the place of what it had of it
abbrev pub with_value : List Cell → ℕ → Value → List Cell
with_value [] f v = cell f v ∷ []
with_value (c ∷ cs) f v =
    if nat_lt c.field f then c ∷ with_value cs f v else (if c.field == f then cell f v ∷ cs else cell f v ∷ c ∷ cs)
