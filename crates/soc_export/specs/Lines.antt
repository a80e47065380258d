-- The lines of an export: the reports of the crashes that are due are made, and the rows that a caller sees are told, one on
-- a line. This project's profile.
use Rattle.std.specs.Prelude.{ℕ, List, ◌++◌, codes, filter_map, map, take}
use Rattle.std.specs.List.{concat}
use Rattle.soc_schema.specs.declared.caller.Caller.{Caller}
use Rattle.soc_schema.specs.declared.value.Cell.{Cell}
use Rattle.soc_schema.specs.RowJson.{row_json}
use Rattle.soc_edge.specs.Told.{Told, Writes}
use Rattle.soc_ledger.specs.Due.{due_ids}
use Rattle.soc_desk.specs.Basis.{Basis}
use Rattle.soc_desk.specs.Log.{Change, done, events}
use Rattle.soc_desk.specs.View.{View, view_of}

-- a row as a JSON object, and a line feed
abbrev pub row_line : List Cell → List ℕ
row_line row = row_json row ++ codes "\n"

-- the rows of a view, in rising order of ids
abbrev pub lines_of : View → List (List ℕ)
lines_of view = map row_line (filter_map (λ seen. seen.1.row) view)

-- the log once each crash that is due is processed
abbrev pub drained : Basis → List Change → List Change
drained basis log = log ++ map done (due_ids (events basis log))

-- what a caller sees then
abbrev pub export_of : Basis → List Change → Caller → List (List ℕ)
export_of basis log caller = lines_of (view_of basis (drained basis log) caller)

-- some of these lines were written, from the first on and each whole
pub record WritesSome (before after : Told) (lines : List (List ℕ)) : Type 0 where
  pub count : ℕ
  pub writes : Writes before after (concat (take count lines))
