-- What contracts see of the parts of a record, before they are a raw crash.
use Rattle.soc_raw.specs.Record.{Crash}
use Rattle.soc_raw.specs.declared.decoding.Parts.{Parts}

-- the parts without where they lie in memory
abbrev pub crash_of_parts : Parts → Crash
crash_of_parts p = record { id = p.id; moment = p.moment; draw = p.draw; rule = p.rule; annotations = p.annotations; dumps = p.dumps }
