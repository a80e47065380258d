-- What the answer to a drain says of an export, and a row of it, and all of them, by what became of them.
use Rattle.std.specs.Prelude.{◌≡◌, ℕ, List, [], Option, Result, Ok, Err, unwrap_or}
use Rattle.std.specs.List.{concat}
use Rattle.std.specs.Option.{option_and_then, option_map}
use Rattle.soc_base.specs.Names.{value_of}
use Rattle.soc_edge.specs.Told.{Told, Writes, WritesFront}
use Rattle.soc_desk.specs.declared.desk.Refusal.{Refusal}
use Rattle.soc_desk.specs.declared.desk.Refusal.TheVariants as F
use Rattle.soc_desk.specs.declared.desk.Reply.{Reply}
use Rattle.soc_desk.specs.declared.desk.Reply.TheVariants as R
use Rattle.soc_desk.specs.View.{View}
use Rattle.soc_export.specs.declared.ending.ExportEnd.{ExportEnd}
use Rattle.soc_export.specs.declared.ending.ExportEnd.TheVariants as E
use Rattle.soc_export.specs.declared.ending.RowEnd.{RowEnd}
use Rattle.soc_export.specs.declared.ending.RowEnd.TheVariants as L
use Rattle.soc_export.specs.Lines.{WritesSome, row_line}

abbrev pub drain_end : Reply → Result (Unit {0}) ExportEnd
drain_end (R.Drained count) = Ok tt
drain_end (R.Refused F.StoreFault) = Err E.DiskFault
drain_end (R.Refused (F.Altered id)) = Err (E.Altered id)
drain_end _ = Err E.NoMemory

-- the line of a crash in a view, or none where it isn't there or has no row
abbrev pub line_in : View → List ℕ → Option (List ℕ)
line_in view id = option_map row_line (option_and_then (λ seen. seen.row) (value_of view id))

-- what is written for it
abbrev pub piece_in : View → List ℕ → List ℕ
piece_in view id = unwrap_or (line_in view id) []

abbrev pub TellsPiece : Told → Told → List ℕ → RowEnd → Type 0
TellsPiece before after piece L.Written = Writes before after piece
TellsPiece before after piece L.Cut = WritesFront before after piece
TellsPiece before after piece L.NoMemory = after ≡ before

abbrev pub refused_end : Refusal → RowEnd
refused_end F.NoCrash = L.Written
refused_end F.NotProcessed = L.Written
refused_end _ = L.NoMemory

-- the row of an answer was told, where it has one
abbrev pub TellsReply : Told → Told → Reply → RowEnd → Type 0
TellsReply before after (R.Row row) end = TellsPiece before after (row_line row) end
TellsReply before after (R.Refused refusal) end = (end ≡ refused_end refusal) × (after ≡ before)
TellsReply before after _ end = (end ≡ L.NoMemory) × (after ≡ before)

abbrev pub TellsLines : Told → Told → List (List ℕ) → RowEnd → Type 0
TellsLines before after lines L.Written = Writes before after (concat lines)
TellsLines before after lines L.Cut = WritesFront before after (concat lines)
TellsLines before after lines L.NoMemory = WritesSome before after lines

abbrev pub end_of : RowEnd → ExportEnd
end_of L.Written = E.Written
end_of L.Cut = E.Cut
end_of L.NoMemory = E.NoMemory
