-- What one caller sees of a log: of each visible crash its granted annotations, its dumps where the caller may see them,
-- and the granted fields of its row. Nothing else of a log is shown. This project's profile.
use Rattle.std.specs.Prelude.{ℕ, Bool, List, [], ◌∷◌, Option, None, Some, filter_map, is_some, if◌then◌else◌}
use Rattle.std.specs.Option.{option_map}
use Rattle.std.specs.List.{enumerate_from}
use Rattle.soc_base.specs.Names.{value_of, with_value}
use Rattle.soc_raw.specs.Record.{Crash}
use Rattle.soc_schema.specs.declared.caller.Caller.{Caller}
use Rattle.soc_schema.specs.declared.value.Cell.{Cell}
use Rattle.soc_schema.specs.declared.permission.Permission.TheVariants.{ViewRawdump}
use Rattle.soc_schema.specs.Permits.{holds, shows, granted_cells, granted_annotations}
use Rattle.soc_schema.specs.Reports.{product_of}
use Rattle.soc_desk.specs.Basis.{Basis}
use Rattle.soc_desk.specs.Log.{Change, Accepted, crashes_of, row_in}

-- what a caller sees of one crash: `row` is None where it has no report
pub record Seen : Type 0 where
  pub annotations : List (List ℕ × List ℕ)
  pub dumps : Option (List (List ℕ × List ℕ))
  pub row : Option (List Cell)

abbrev pub seen_of : Caller → Crash → Option (List Cell) → Seen
seen_of caller raw row = record {
  annotations = granted_annotations caller raw.annotations;
  dumps = if holds caller.permissions ViewRawdump then Some raw.dumps else None;
  row = option_map (granted_cells caller) row;
}

-- a caller's view: of the id of each visible crash what the caller sees of it, in rising order of ids
abbrev pub View : Type 0
View = List (List ℕ × Seen)

-- one more crash, which is in the view only where its product is shown to the caller
abbrev pub view_with : Basis → List Change → Caller → Accepted → Option Crash → View → View
view_with basis log caller crash None view = view
view_with basis log caller crash (Some raw) view =
    if shows caller.products (product_of raw) then with_value view crash.id (seen_of caller raw (row_in basis log crash.id)) else view

abbrev pub view_of_crashes : Basis → List Change → Caller → List Accepted → View
view_of_crashes basis log caller [] = []
view_of_crashes basis log caller (crash ∷ crashes) = view_with basis log caller crash crash.raw (view_of_crashes basis log caller crashes)

abbrev pub view_of : Basis → List Change → Caller → View
view_of basis log caller = view_of_crashes basis log caller (crashes_of basis log)

abbrev pub is_in : View → List ℕ → Bool
is_in view id = is_some (value_of view id)

-- the rows of a view, each at a place of its own
abbrev pub rows_in : View → List (ℕ × List Cell)
rows_in view = enumerate_from 0 (filter_map (λ seen. seen.1.row) view)
