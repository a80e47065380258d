-- The lines that the service ends with. This project's profile.
use Rattle.std.specs.Prelude.{◌≡◌, ℕ, List, ◌++◌, length, codes, Result, Ok, Err}
use Rattle.soc_edge.specs.Told.{Told, Writes, WritesFront}
use Rattle.soc_ledger.specs.declared.event.Event.{Event}
use Rattle.soc_ledger.specs.Events.{held_ids}
use Rattle.soc_ledger.specs.Reported.{report_count}
use Rattle.soc_replay.specs.Check.{count_line}
use Rattle.soc_serve.specs.declared.lines.LinesFault.{LinesFault}
use Rattle.soc_serve.specs.declared.lines.LinesFault.TheVariants as F

-- how many crashes are held, and how many of them have a report
abbrev pub lines_of : ℕ → ℕ → List ℕ
lines_of crashes reports = count_line (codes "crashes ") crashes ++ count_line (codes "reports ") reports

abbrev pub counts_text : List Event → List ℕ
counts_text log = lines_of (length (held_ids log)) (report_count log)

-- what became of lines that were to be written
abbrev pub CutsLines : Told → Told → List ℕ → LinesFault → Type 0
CutsLines before after text F.Cut = WritesFront before after text
CutsLines before after text F.NoMemory = after ≡ before

abbrev pub Tells : Told → Told → List ℕ → Result (Unit {0}) LinesFault → Type 0
Tells before after text (Ok over) = Writes before after text
Tells before after text (Err fault) = CutsLines before after text fault
