-- The counts of a log, once they are counted.
use Rattle.std.specs.Prelude.{◌≡◌, ℕ, List, ◌++◌, codes}
use Rattle.soc_edge.specs.Told.{Told, Writes, WritesFront}
use Rattle.soc_replay.specs.declared.check.Counts.{Counts}
use Rattle.soc_replay.specs.declared.ending.RunEnd.{RunEnd}
use Rattle.soc_replay.specs.declared.ending.RunEnd.TheVariants as R
use Rattle.soc_replay.specs.Check.{count_line}

abbrev pub counts_of : Counts → List ℕ
counts_of counts =
    count_line (codes "crashes ") counts.crashes
    ++ (count_line (codes "asks ") counts.asks
    ++ (count_line (codes "due ") counts.due ++ count_line (codes "withdrawn ") counts.withdrawn))

-- the counts were written, whole or cut short, or memory wanted for them
abbrev pub TellsCounts : Told → Told → List ℕ → RunEnd → Type 0
TellsCounts before after text R.Written = Writes before after text
TellsCounts before after text R.LineFault = WritesFront before after text
TellsCounts before after text R.NoMemory = after ≡ before
TellsCounts before after text _ = ⊥
