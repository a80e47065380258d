-- What the parts of a form are: the JSON part, dumps and plain parts (RFC 7578), and what they add up to.
use Rattle.std.specs.Prelude.{ℕ, Bool, ◌&&◌, not, nat_eq, List, [], fold, Option, None, Some, is_some, is_none, codes, if◌then◌else◌}
use Rattle.std.specs.List.{starts_with}
use Rattle.std.specs.Str.{bytes_eq}
use Rattle.std.specs.Str.Lossy.{utf8_lossy}
use Rattle.soc_base.specs.Names.{with_value}
use Rattle.soc_multipart.specs.Parts.{PartText}

-- the JSON part: named `extra`, of a kind that begins so
abbrev pub is_extra : PartText → Bool
is_extra p = bytes_eq p.name (codes "extra") && starts_with nat_eq p.kind (codes "application/json")

-- any other part with a file name
abbrev pub is_dump : PartText → Bool
is_dump p = not (is_extra p) && is_some p.file

-- any other part
abbrev pub is_plain : PartText → Bool
is_plain p = not (is_extra p) && is_none p.file

-- the id that the reporter sent, as `uuid`, and the annotations
pub record FieldTexts : Type 0 where
  pub sent : Option (List ℕ)
  pub annotations : List (List ℕ × List ℕ)

abbrev pub no_fields : FieldTexts
no_fields = record { sent = None; annotations = [] }

-- the fields with this value of the name, in place of the one that it had
abbrev pub put : FieldTexts → List ℕ → List ℕ → FieldTexts
put fields name value =
    if bytes_eq name (codes "uuid") then record { sent = Some value; annotations = fields.annotations }
    else record { sent = fields.sent; annotations = with_value fields.annotations name value }

-- the fields with the part, where it is a plain one
abbrev pub plain_step : FieldTexts → PartText → FieldTexts
plain_step fields p = if is_plain p then put fields p.name (utf8_lossy p.content) else fields

-- what the plain parts say
abbrev pub plain_fields : List PartText → FieldTexts
plain_fields parts = fold plain_step no_fields parts

-- the dumps with the part, where it is one
abbrev pub dump_step : List (List ℕ × List ℕ) → PartText → List (List ℕ × List ℕ)
dump_step dumps p = if is_dump p then with_value dumps p.name p.content else dumps

-- the dumps of the parts, by their names
abbrev pub dumps_of : List PartText → List (List ℕ × List ℕ)
dumps_of parts = fold dump_step [] parts
