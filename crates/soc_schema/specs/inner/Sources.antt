-- The fields that one annotation alone makes, by the order of the annotations.
use Rattle.std.specs.Prelude.{ℕ, List, [], ◌∷◌, unwrap_or}
use Rattle.soc_schema.specs.Fields.{source_of}

-- the annotation that alone makes the field, or nothing
abbrev pub annotation_of : ℕ → List ℕ
annotation_of f = unwrap_or (source_of f) []

-- the fields in rising byte order of their annotations
abbrev pub by_annotation : List ℕ
by_annotation =
    0 ∷ 1 ∷ 2 ∷ 3 ∷ 5 ∷ 6 ∷ 7 ∷ 33 ∷ 12 ∷ 17 ∷ 19 ∷ 22 ∷ 23 ∷ 26 ∷ 28 ∷ 32 ∷ 35 ∷ 15 ∷ []
