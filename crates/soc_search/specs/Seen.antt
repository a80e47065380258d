-- What a caller sees of rows.
use Rattle.std.specs.Prelude.{ℕ, ◌≢◌, ◌↔◌, List, [], ◌∷◌, map, Contains, ⊤}
use Rattle.std.specs.List.{AllByRecursion, filter}
use Rattle.soc_schema.specs.declared.caller.Caller.{Caller}
use Rattle.soc_schema.specs.declared.value.Cell.{Cell}
use Rattle.soc_schema.specs.Rows.{value_of}
use Rattle.soc_schema.specs.Fields.{uuid_field}
use Rattle.soc_schema.specs.Permits.{granted_cells}
use Rattle.soc_schema.specs.Values.{sees}

-- the granted fields of the rows whose product the caller may see
abbrev pub seen_rows : Caller → List (ℕ × List Cell) → List (ℕ × List Cell)
seen_rows caller rows = map (λ s. (s.0, granted_cells caller s.1)) (filter (λ s. sees caller s.1) rows)

-- no two rows have one id
abbrev pub HaveOwnIds : List (ℕ × List Cell) → Type 0
HaveOwnIds [] = ⊤
HaveOwnIds (s ∷ ss) = AllByRecursion (λ t. value_of s.1 uuid_field ≢ value_of t.1 uuid_field) ss × HaveOwnIds ss

-- they list the same rows, in any order and at any places
abbrev pub ListTheSame : List (ℕ × List Cell) → List (ℕ × List Cell) → Type 0
ListTheSame rows others =
    (row : List Cell) → Contains (map (λ s. s.1) rows) row ↔ Contains (map (λ s. s.1) others) row
