-- What was told of a log, by how it ended. This project's profile.
use Rattle.std.specs.Prelude.{◌≡◌, false, IsTrue, List}
use Rattle.std.specs.List.{concat}
use Rattle.soc_schema.specs.declared.caller.Caller.{Caller}
use Rattle.soc_edge.specs.Disk.{DiskFailed, DiskTold}
use Rattle.soc_edge.specs.Told.{Told, Writes, WritesFront}
use Rattle.soc_desk.specs.Basis.{Basis}
use Rattle.soc_desk.specs.Log.{Change}
use Rattle.soc_export.specs.declared.ending.ExportEnd.{ExportEnd}
use Rattle.soc_export.specs.declared.ending.ExportEnd.TheVariants as E
use Rattle.soc_export.specs.Lines.{WritesSome, export_of}

-- with the output and the disk before and after
abbrev pub TellsLog : Basis → List Change → Caller → Told → Told → DiskTold → DiskTold → ExportEnd → Type 0
TellsLog basis log caller before after disk disk' E.Written =
    IsTrue basis.is_told → Writes before after (concat (export_of basis log caller))
TellsLog basis log caller before after disk disk' E.Cut =
    IsTrue basis.is_told → WritesFront before after (concat (export_of basis log caller))
TellsLog basis log caller before after disk disk' E.NoMemory =
    IsTrue basis.is_told → WritesSome before after (export_of basis log caller)
TellsLog basis log caller before after disk disk' E.DiskFault = (after ≡ before) × DiskFailed disk disk'
TellsLog basis log caller before after disk disk' (E.Altered id) = (after ≡ before) × (basis.is_told ≡ false)
