-- The values of rows, each row at its place.
use Rattle.std.specs.Prelude.{ℕ, Bool, false, List, [], ◌∷◌, Option, None, Some}
use Rattle.std.specs.List.{filter}
use Rattle.std.specs.Ordering.{is_eq}
use Rattle.soc_schema.specs.declared.caller.Caller.{Caller}
use Rattle.soc_schema.specs.declared.value.Value.{Value}
use Rattle.soc_schema.specs.declared.value.Value.TheVariants.{Text, Number, Flag}
use Rattle.soc_schema.specs.declared.value.Cell.{Cell}
use Rattle.soc_schema.specs.Fields.{product_field}
use Rattle.soc_schema.specs.Orders.{value_cmp}
use Rattle.soc_schema.specs.Permits.{shows}
use Rattle.soc_schema.specs.Rows.{value_of}
use Rattle.soc_schema.specs.Tables.{alter}

-- the text of a value, where it is one
abbrev pub text_in : Value → List ℕ
text_in (Text t) = t
text_in (Number n) = []
text_in (Flag b) = []

-- the text of a value that is one
abbrev pub text_of : Option Value → Option (List ℕ)
text_of (Some (Text t)) = Some t
text_of _ = None

-- the product of a row
abbrev pub product_of : List Cell → Option (List ℕ)
product_of row = text_of (value_of row product_field)

-- the caller may see the row
abbrev pub sees : Caller → List Cell → Bool
sees caller row = shows caller.products (product_of row)

-- whether it is this value
abbrev pub is_value : Value → Option Value → Bool
is_value v None = false
is_value v (Some w) = is_eq (value_cmp v w)

-- the rows that have the value of the field
abbrev pub rows_with : ℕ → Value → List (ℕ × List Cell) → List (ℕ × List Cell)
rows_with f v rows = filter (λ s. is_value v (value_of s.1 f)) rows

-- with a value, which stands once
abbrev pub with_distinct : Option Value → List Value → List Value
with_distinct None vs = vs
with_distinct (Some v) vs = alter (λ w. w) value_cmp v (λ _. v) vs

-- the distinct values of the field, in rising order
abbrev pub values_of : ℕ → List (ℕ × List Cell) → List Value
values_of f [] = []
values_of f (s ∷ ss) = with_distinct (value_of s.1 f) (values_of f ss)
