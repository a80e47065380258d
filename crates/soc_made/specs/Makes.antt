-- What is written of made crashes, by how the writing ended.
use Rattle.std.specs.Prelude.{ℕ, ◌<◌}
use Rattle.soc_edge.specs.Told.{Told, Writes, WritesFront}
use Rattle.soc_made.specs.Made.{made_crashes}
use Rattle.soc_made.specs.declared.made.MakeEnd.{MakeEnd}
use Rattle.soc_made.specs.declared.made.MakeEnd.TheVariants.{Done, WriteFault, NoMemory}

-- all of them, a front that isn't all, or so many whole ones and not all
abbrev pub Makes : ℕ → ℕ → Told → Told → MakeEnd → Type 0
Makes seed count before after Done = Writes before after (made_crashes seed count)
Makes seed count before after WriteFault = WritesFront before after (made_crashes seed count)
Makes seed count before after NoMemory = (done : ℕ) × (done < count) × Writes before after (made_crashes seed done)
