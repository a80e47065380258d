-- What contracts see of a raw crash.
use Rattle.std.specs.Prelude.{◌≡◌, ℕ, List}
use Rattle.soc_raw.specs.Record.{Crash, IsNoRecord, record_of}
use Rattle.soc_raw.specs.declared.record_error.RecordError.{RecordError}
use Rattle.soc_raw.specs.Refusals.{Refuses}
use Rattle.soc_raw.specs.declared.raw_crash.RawCrash.{RawCrash}

-- the raw crash without where it lies in memory
abbrev pub crash_of : RawCrash → Crash
crash_of r = record { id = r.id; moment = r.moment; draw = r.draw; rule = r.rule; annotations = r.annotations; dumps = r.dumps }

-- the record of a raw crash
abbrev pub record_text : RawCrash → List ℕ
record_text r = record_of (crash_of r)

-- two raw crashes have the same annotations and the same dumps
abbrev pub HasSameContent : RawCrash → RawCrash → Type 0
HasSameContent a b = (a.annotations ≡ b.annotations) × (a.dumps ≡ b.dumps)

-- bytes are refused exactly where they are no record
abbrev pub IsRefusal : RecordError → List ℕ → Type 0
IsRefusal e bytes = Refuses e (IsNoRecord bytes)
