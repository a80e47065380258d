-- Refusals of readers that take memory: each has its cause, and want of memory alone is free.
use Rattle.std.specs.Prelude.{⊤}
use Rattle.soc_raw.specs.declared.record_error.RecordError.{RecordError}
use Rattle.soc_raw.specs.declared.record_error.RecordError.TheVariants.{BadRecord, NoMemory}

-- bytes are refused only with this cause
abbrev pub Refuses : RecordError → Type 0 → Type 0
Refuses BadRecord cause = cause
Refuses NoMemory cause = ⊤
