-- What is answered as JSON (RFC 8259), compact, with names in byte order: this project's profile. Rows, answers of searches and
-- top crashers are written by their own crates.
use Rattle.std.specs.Prelude.{ℕ, Bool, true, false, List, filter, ◌++◌, codes, decimal, Option, None, Some}
use Rattle.serde_json.specs.Data.{string}
use Rattle.serde_json.specs.Written.{compact_text}
use Rattle.soc_schema.specs.declared.caller.Caller.{Caller}
use Rattle.soc_schema.specs.declared.field.FieldKind.{FieldKind}
use Rattle.soc_schema.specs.declared.field.FieldKind.TheVariants.{Text, Number, Flag}
use Rattle.soc_schema.specs.Fields.{FieldEntry, field_table}
use Rattle.soc_schema.specs.Permits.{holds, permission_name}
use Rattle.soc_schema.specs.Commas.{joined}
use Rattle.soc_desk.specs.declared.desk.Counts.{Counts}

-- ---- annotations

abbrev pub annotation_json : List ℕ × List ℕ → List ℕ
annotation_json annotation = compact_text (string annotation.0) ++ codes ":" ++ compact_text (string annotation.1)

-- annotations stand in byte order of their names
abbrev pub annotations_json : List (List ℕ × List ℕ) → List ℕ
annotations_json annotations = codes "{" ++ joined annotation_json annotations ++ codes "}"

-- ---- the fields of reports

abbrev pub kind_name : FieldKind → List ℕ
kind_name Text = codes "text"
kind_name Number = codes "number"
kind_name Flag = codes "flag"

abbrev pub field_json : FieldEntry → List ℕ
field_json field =
    codes "\"" ++ field.name ++ codes "\":{\"kind\":\"" ++ kind_name field.kind ++ codes "\",\"permission\":\""
    ++ permission_name field.permission ++ codes "\"}"

-- the fields that the caller may see, each with its kind and what it takes to see it
abbrev pub fields_json : Caller → List ℕ
fields_json caller = codes "{" ++ joined field_json (filter (λ field. holds caller.permissions field.permission) field_table) ++ codes "}"

-- ---- what was done

abbrev pub asked_json : Bool → List ℕ
asked_json true = codes "{\"asked\":true}"
asked_json false = codes "{\"asked\":false}"

abbrev pub withdrawn_json : List ℕ
withdrawn_json = codes "{\"withdrawn\":true}"

abbrev pub turned_json : Option (List ℕ) → List ℕ
turned_json None = codes "{\"processed\":null}"
turned_json (Some id) = codes "{\"processed\":\"" ++ id ++ codes "\"}"

abbrev pub drained_json : ℕ → List ℕ
drained_json count = codes "{\"processed\":" ++ decimal count ++ codes "}"

-- ---- what a log has

abbrev pub count_json : List ℕ → ℕ → List ℕ
count_json front count = front ++ decimal count

-- an object of numbers, without the doubt
abbrev pub counts_json : Counts → List ℕ
counts_json counts =
    count_json (codes "{\"asks\":") counts.asks ++ count_json (codes ",\"crashes\":") counts.crashes ++ count_json (codes ",\"due\":") counts.due
    ++ count_json (codes ",\"journal_size\":") counts.journal_size ++ count_json (codes ",\"reports\":") counts.reports
    ++ count_json (codes ",\"withdrawn\":") counts.withdrawn ++ codes "}"
