-- The table of sources and the table of fields say the same of each field's name and annotation.
use Rattle.std.specs.Prelude.{◌≡◌, ℕ, List, map, codes, Option, Some, None}
use Rattle.soc_schema.specs.Fields.{field_table}
use Rattle.soc_report.specs.Report.{Source, sources, product, text, number, flag}

-- the annotation that alone makes the field
abbrev pub annotation_of : Source → Option (List ℕ)
annotation_of product = Some (codes "ProductName")
annotation_of (text name) = Some name
annotation_of (number name) = Some name
annotation_of (flag name) = Some name
annotation_of _ = None

pub record AreOneTable : Type 0 where
  pub names : map (λ l. l.field) sources ≡ map (λ e. e.name) field_table
  pub annotations : map (λ l. annotation_of l.source) sources ≡ map (λ e. e.source) field_table
