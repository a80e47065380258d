-- How a run ends whose journal was opened for an export.
use Rattle.std.specs.Prelude.{◌≡◌}
use Rattle.soc_edge.specs.Told.{Told, Writes, WritesFront}
use Rattle.soc_export.specs.declared.ending.ExportEnd.{ExportEnd}
use Rattle.soc_export.specs.declared.ending.ExportEnd.TheVariants as E
use Rattle.soc_replay.specs.declared.ending.RunEnd.{RunEnd}
use Rattle.soc_replay.specs.declared.ending.RunEnd.TheVariants as R
use Rattle.soc_replay.specs.declared.refusal.FileRefusal.TheVariants as F
use Rattle.soc_replay.specs.Refusals.{refusal_line}

-- by what was told of the log: nothing more is written, but for the line that tells of which crash another record came back
abbrev pub EndsBy : ExportEnd → Told → Told → RunEnd → Type 0
EndsBy E.Written before after end = (end ≡ R.Written) × (after ≡ before)
EndsBy E.Cut before after end = (end ≡ R.LineFault) × (after ≡ before)
EndsBy E.DiskFault before after end = (end ≡ R.OpenFault) × (after ≡ before)
EndsBy E.NoMemory before after end = (end ≡ R.NoMemory) × (after ≡ before)
EndsBy (E.Altered id) before after R.JournalRefused = Writes before after (refusal_line (F.Altered id))
EndsBy (E.Altered id) before after R.LineFault = WritesFront before after (refusal_line (F.Altered id))
EndsBy (E.Altered id) before after R.NoMemory = after ≡ before
EndsBy (E.Altered id) before after _ = ⊥
